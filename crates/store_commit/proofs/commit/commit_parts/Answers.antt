use Rattle.std.proofs.Common.{◌≡◌, ◌∙◌, Option, None, refl, subst, sym, ap}
use Rattle.disk_model.specs.State.{FileState}
use Rattle.disk_model.specs.Keeps.{Keeps}
use Rattle.disk_model.proofs.Laws.{keeps_none}
use Rattle.htree_file.specs.Selected.{Lies}
use Rattle.dir_file.specs.View.{DirView, StagedDirectory}
use Rattle.store_commit.specs.Causes.{NotOfCard}
use Rattle.store_commit.specs.Sides.{sides}
use Rattle.store_commit.proofs.Ending.{doubted, doubted_steps, dropped, landed_names, lost_names, lost_steps, made, root_form, sealed_steps, spent, throughout, unknown_names}
use Rattle.store_commit.proofs.Preparing.{adopted_dir, adopted_file}
use Rattle.htree_file.specs.Answers.{FilePassed}
use Rattle.store_commit.specs.Causes.{counts}
use Rattle.store_commit.proofs.CardCauses.{frame_not_card, not_both, port_by_card, port_not_drawn, side_not_card}
use Rattle.store_commit.proofs.PortArms.{same_arms}
use Rattle.store_commit.proofs.Counting.{doubt_counts, drawn_counts, lost_counts, side_counts}
use Rattle.store_commit.proofs.commit.commit_parts.Goals as goal

pub returns-then-at-clause-leaves : goal.returns-then-at-clause-leaves
returns-then-at-clause-leaves g c =
    let d = c.args.dir.now in
    spent (sides (g.F.StoreFile.state d.file) d.dir (g.R.RpmbPort.state c.args.host.now.port) c.args.host.now.key c.args.counter.now) c.requires.settled

pub returns-then-at-clause-throughout : goal.returns-then-at-clause-throughout
returns-then-at-clause-throughout g c =
    let d = c.args.dir.now in
    throughout (g.F.StoreFile.state d.file) (g.F.StoreFile.state d.file) d.dir (g.R.RpmbPort.state c.args.host.now.port) (g.R.RpmbPort.state c.args.host.now.port) c.args.host.now.key c.args.host.now.key c.args.counter.now (g.met.F.StoreFile.sound d.file) (g.met.F.StoreFile.sound d.file) c.requires.settled (keeps_none (Lies d.dir.tree.layout d.dir.tree.nodes d.dir.root.version) (g.F.StoreFile.state d.file)) d.dir c.args.counter.now refl

pub returns-in-Err-clause-leaves : goal.returns-in-Err-clause-leaves
returns-in-Err-clause-leaves g c =
    let d = c.args.dir.now in
    dropped (g.F.StoreFile.state d.file) (g.F.StoreFile.state d.file) d.dir (g.R.RpmbPort.state c.args.host.now.port) (g.R.RpmbPort.state c.args.host.now.port) c.args.host.now.key c.args.host.now.key c.args.counter.now (g.met.F.StoreFile.sound d.file) (g.met.F.StoreFile.sound d.file) c.requires.settled (keeps_none (Lies d.dir.tree.layout d.dir.tree.nodes d.dir.root.version) (g.F.StoreFile.state d.file)) d.dir refl c.requires.settled.named

pub returns-in-Err-clause-throughout : goal.returns-in-Err-clause-throughout
returns-in-Err-clause-throughout g c =
    let d = c.args.dir.now in
    throughout (g.F.StoreFile.state d.file) (g.F.StoreFile.state d.file) d.dir (g.R.RpmbPort.state c.args.host.now.port) (g.R.RpmbPort.state c.args.host.now.port) c.args.host.now.key c.args.host.now.key c.args.counter.now (g.met.F.StoreFile.sound d.file) (g.met.F.StoreFile.sound d.file) c.requires.settled (keeps_none (Lies d.dir.tree.layout d.dir.tree.nodes d.dir.root.version) (g.F.StoreFile.state d.file)) d.dir c.args.counter.now refl

pub returns-in-Err-clause-steps : goal.returns-in-Err-clause-steps
returns-in-Err-clause-steps g c =
    let d = c.args.dir.now in
    ((keeps_none (Lies d.dir.tree.layout d.dir.tree.nodes d.dir.root.version) (g.F.StoreFile.state d.file)), λ card has. has)

pub returns-in-Err-prepare-clause-leaves : goal.returns-in-Err-prepare-clause-leaves
returns-in-Err-prepare-clause-leaves g c =
    let d = c.args.dir.now in
    let e = c.prepare.new.dir in
    let answer = c.in-Err-prepare.ensures.answer in
    let same : e.dir ≡ d.dir =
    answer.same ∙ ap (λ (o : Option StagedDirectory). record d.dir { stage = o }) (answer.none ∙ sym c.requires.settled.idle) in
    dropped (g.F.StoreFile.state d.file) (g.F.StoreFile.state e.file) d.dir (g.R.RpmbPort.state c.args.host.now.port) (g.R.RpmbPort.state c.args.host.now.port) c.args.host.now.key c.args.host.now.key c.args.counter.now (g.met.F.StoreFile.sound d.file) (g.met.F.StoreFile.sound e.file) c.requires.settled c.in-Err-prepare.ensures.answer.keeps e.dir same c.requires.settled.named

pub returns-in-Err-prepare-clause-throughout : goal.returns-in-Err-prepare-clause-throughout
returns-in-Err-prepare-clause-throughout g c =
    let d = c.args.dir.now in
    let e = c.prepare.new.dir in
    throughout (g.F.StoreFile.state d.file) (g.F.StoreFile.state e.file) d.dir (g.R.RpmbPort.state c.args.host.now.port) (g.R.RpmbPort.state c.args.host.now.port) c.args.host.now.key c.args.host.now.key c.args.counter.now (g.met.F.StoreFile.sound d.file) (g.met.F.StoreFile.sound e.file) c.requires.settled c.in-Err-prepare.ensures.answer.keeps e.dir c.args.counter.now refl

pub returns-in-Err-prepare-clause-steps : goal.returns-in-Err-prepare-clause-steps
returns-in-Err-prepare-clause-steps g c =
    (c.in-Err-prepare.ensures.answer.keeps, λ card has. has)

pub returns-in-Landed-clause-leaves : goal.returns-in-Landed-clause-leaves
returns-in-Landed-clause-leaves g c =
    let d = c.args.dir.now in
    let e = c.prepare.new.dir in
    made (g.F.StoreFile.state d.file) (g.F.StoreFile.state e.file) d.dir (g.R.RpmbPort.state c.args.host.now.port) (g.R.RpmbPort.state c.write_root.new.host.port) c.args.host.now.key c.write_root.new.host.key c.args.counter.now (g.met.F.StoreFile.sound d.file) (g.met.F.StoreFile.sound e.file) c.requires.settled c.in-Ok-prepare.ensures.answer.keeps e.dir c.args.change.now c.in-Ok-prepare.root c.in-Ok-prepare.ensures.answer c.in-Ok-prepare.ensures.root c.in-Ok-prepare.ensures.formed
    (g.F.StoreFile.state c.adopt.new.self.file) c.adopt.new.self.dir (ap (λ f. g.F.StoreFile.state f) (adopted_file e c.adopt.new.self c.in-Ok-prepare.ensures.answer.opens c.adopt.ensures.committed)) (adopted_dir e c.adopt.new.self c.in-Ok-prepare.ensures.answer.opens c.adopt.ensures.committed)
    (landed_names (sides (g.F.StoreFile.state d.file) d.dir (g.R.RpmbPort.state c.args.host.now.port) c.args.host.now.key c.args.counter.now) c.requires.settled (g.met.R.RpmbPort.sound c.args.host.now.port) (g.R.RpmbPort.state c.write_root.new.host.port) c.write_root.new.host.key c.in-Ok-prepare.root (root_form (g.F.StoreFile.state d.file) (g.F.StoreFile.state e.file) d.dir (g.R.RpmbPort.state c.args.host.now.port) (g.R.RpmbPort.state c.write_root.new.host.port) c.args.host.now.key c.write_root.new.host.key c.args.counter.now (g.met.F.StoreFile.sound d.file) (g.met.F.StoreFile.sound e.file) c.requires.settled c.in-Ok-prepare.ensures.answer.keeps e.dir c.args.change.now c.in-Ok-prepare.root c.in-Ok-prepare.ensures.answer c.in-Ok-prepare.ensures.root c.in-Ok-prepare.ensures.formed)
    c.in-Landed.ensures.was c.in-Landed.ensures.card)

pub returns-in-Landed-clause-steps : goal.returns-in-Landed-clause-steps
returns-in-Landed-clause-steps g c =
    let d = c.args.dir.now in
    let e = c.prepare.new.dir in
    sealed_steps (g.F.StoreFile.state d.file) (g.F.StoreFile.state e.file) d.dir (g.R.RpmbPort.state c.args.host.now.port) (g.R.RpmbPort.state c.write_root.new.host.port) c.args.host.now.key c.write_root.new.host.key c.args.counter.now (g.met.F.StoreFile.sound d.file) (g.met.F.StoreFile.sound e.file) c.requires.settled c.in-Ok-prepare.ensures.answer.keeps e.dir c.args.change.now c.in-Ok-prepare.root c.in-Ok-prepare.ensures.answer c.in-Ok-prepare.ensures.root c.in-Ok-prepare.ensures.formed
    (g.F.StoreFile.state c.adopt.new.self.file) c.adopt.new.self.dir (ap (λ f. g.F.StoreFile.state f) (adopted_file e c.adopt.new.self c.in-Ok-prepare.ensures.answer.opens c.adopt.ensures.committed)) (adopted_dir e c.adopt.new.self c.in-Ok-prepare.ensures.answer.opens c.adopt.ensures.committed) c.in-Landed.ensures.card

pub returns-in-Landed-clause-throughout : goal.returns-in-Landed-clause-throughout
returns-in-Landed-clause-throughout g c =
    let d = c.args.dir.now in
    let e = c.prepare.new.dir in
    let keeps = subst (λ (s : FileState). Keeps (Lies d.dir.tree.layout d.dir.tree.nodes d.dir.root.version) (g.F.StoreFile.state d.file) s) (sym (ap (λ f. g.F.StoreFile.state f) (adopted_file e c.adopt.new.self c.in-Ok-prepare.ensures.answer.opens c.adopt.ensures.committed))) c.in-Ok-prepare.ensures.answer.keeps in
    throughout (g.F.StoreFile.state d.file) (g.F.StoreFile.state c.adopt.new.self.file) d.dir (g.R.RpmbPort.state c.args.host.now.port) (g.R.RpmbPort.state c.write_root.new.host.port) c.args.host.now.key c.write_root.new.host.key c.args.counter.now (g.met.F.StoreFile.sound d.file) (g.met.F.StoreFile.sound c.adopt.new.self.file) c.requires.settled keeps c.adopt.new.self.dir _ c.in-Landed.ensures.key

pub returns-in-Lost-clause-leaves : goal.returns-in-Lost-clause-leaves
returns-in-Lost-clause-leaves g c =
    let d = c.args.dir.now in
    let e = c.prepare.new.dir in
    let keeps = subst (λ (s : FileState). Keeps (Lies d.dir.tree.layout d.dir.tree.nodes d.dir.root.version) (g.F.StoreFile.state d.file) s) (sym (ap (λ x. g.F.StoreFile.state x.file) c.drop_stage.ensures.same)) c.in-Ok-prepare.ensures.answer.keeps in
    let same : c.drop_stage.new.self.dir ≡ d.dir =
    ap (λ x. x.dir) c.drop_stage.ensures.same ∙ ap (λ (w : DirView). record w { stage = None }) c.in-Ok-prepare.ensures.answer.same
    ∙ ap (λ (o : Option StagedDirectory). record d.dir { stage = o }) (sym c.requires.settled.idle) in
    dropped (g.F.StoreFile.state d.file) (g.F.StoreFile.state c.drop_stage.new.self.file) d.dir (g.R.RpmbPort.state c.args.host.now.port) (g.R.RpmbPort.state c.write_root.new.host.port) c.args.host.now.key c.write_root.new.host.key c.args.counter.now (g.met.F.StoreFile.sound d.file) (g.met.F.StoreFile.sound c.drop_stage.new.self.file) c.requires.settled keeps c.drop_stage.new.self.dir same
    (lost_names (sides (g.F.StoreFile.state d.file) d.dir (g.R.RpmbPort.state c.args.host.now.port) c.args.host.now.key c.args.counter.now) c.requires.settled (g.met.R.RpmbPort.sound c.args.host.now.port) (g.R.RpmbPort.state c.write_root.new.host.port) c.write_root.new.host.key c.in-Ok-prepare.root (root_form (g.F.StoreFile.state d.file) (g.F.StoreFile.state e.file) d.dir (g.R.RpmbPort.state c.args.host.now.port) (g.R.RpmbPort.state c.write_root.new.host.port) c.args.host.now.key c.write_root.new.host.key c.args.counter.now (g.met.F.StoreFile.sound d.file) (g.met.F.StoreFile.sound e.file) c.requires.settled c.in-Ok-prepare.ensures.answer.keeps e.dir c.args.change.now c.in-Ok-prepare.root c.in-Ok-prepare.ensures.answer c.in-Ok-prepare.ensures.root c.in-Ok-prepare.ensures.formed)
    c.in-Lost.ensures.was c.in-Lost.cause c.in-Lost.ensures.card)

pub returns-in-Lost-clause-throughout : goal.returns-in-Lost-clause-throughout
returns-in-Lost-clause-throughout g c =
    let d = c.args.dir.now in
    let keeps = subst (λ (s : FileState). Keeps (Lies d.dir.tree.layout d.dir.tree.nodes d.dir.root.version) (g.F.StoreFile.state d.file) s) (sym (ap (λ x. g.F.StoreFile.state x.file) c.drop_stage.ensures.same)) c.in-Ok-prepare.ensures.answer.keeps in
    throughout (g.F.StoreFile.state d.file) (g.F.StoreFile.state c.drop_stage.new.self.file) d.dir (g.R.RpmbPort.state c.args.host.now.port) (g.R.RpmbPort.state c.write_root.new.host.port) c.args.host.now.key c.write_root.new.host.key c.args.counter.now (g.met.F.StoreFile.sound d.file) (g.met.F.StoreFile.sound c.drop_stage.new.self.file) c.requires.settled keeps c.drop_stage.new.self.dir c.args.counter.now c.in-Lost.ensures.key

pub returns-in-Lost-clause-steps : goal.returns-in-Lost-clause-steps
returns-in-Lost-clause-steps g c =
    let d = c.args.dir.now in
    let keeps = subst (λ (s : FileState). Keeps (Lies d.dir.tree.layout d.dir.tree.nodes d.dir.root.version) (g.F.StoreFile.state d.file) s) (sym (ap (λ x. g.F.StoreFile.state x.file) c.drop_stage.ensures.same)) c.in-Ok-prepare.ensures.answer.keeps in
    lost_steps (g.F.StoreFile.state d.file) (g.F.StoreFile.state c.drop_stage.new.self.file) d.dir (g.R.RpmbPort.state c.args.host.now.port) (g.R.RpmbPort.state c.write_root.new.host.port) c.args.host.now.key c.write_root.new.host.key c.args.counter.now (g.met.F.StoreFile.sound d.file) (g.met.F.StoreFile.sound c.drop_stage.new.self.file) c.requires.settled keeps c.drop_stage.new.self.dir c.args.change.now c.in-Ok-prepare.root c.in-Lost.cause c.in-Lost.ensures.card

pub returns-in-Unknown-clause-leaves : goal.returns-in-Unknown-clause-leaves
returns-in-Unknown-clause-leaves g c =
    let d = c.args.dir.now in
    let e = c.prepare.new.dir in
    doubted (g.F.StoreFile.state d.file) (g.F.StoreFile.state e.file) d.dir (g.R.RpmbPort.state c.args.host.now.port) (g.R.RpmbPort.state c.write_root.new.host.port) c.args.host.now.key c.write_root.new.host.key c.args.counter.now (g.met.F.StoreFile.sound d.file) (g.met.F.StoreFile.sound e.file) c.requires.settled c.in-Ok-prepare.ensures.answer.keeps e.dir c.args.change.now c.in-Ok-prepare.root c.in-Ok-prepare.ensures.answer c.in-Ok-prepare.ensures.root c.in-Ok-prepare.ensures.formed
    (unknown_names (sides (g.F.StoreFile.state d.file) d.dir (g.R.RpmbPort.state c.args.host.now.port) c.args.host.now.key c.args.counter.now) c.requires.settled (g.met.R.RpmbPort.sound c.args.host.now.port) (g.R.RpmbPort.state c.write_root.new.host.port) c.write_root.new.host.key c.in-Ok-prepare.root (root_form (g.F.StoreFile.state d.file) (g.F.StoreFile.state e.file) d.dir (g.R.RpmbPort.state c.args.host.now.port) (g.R.RpmbPort.state c.write_root.new.host.port) c.args.host.now.key c.write_root.new.host.key c.args.counter.now (g.met.F.StoreFile.sound d.file) (g.met.F.StoreFile.sound e.file) c.requires.settled c.in-Ok-prepare.ensures.answer.keeps e.dir c.args.change.now c.in-Ok-prepare.root c.in-Ok-prepare.ensures.answer c.in-Ok-prepare.ensures.root c.in-Ok-prepare.ensures.formed)
    c.in-Unknown.ensures.was c.in-Unknown.cause c.in-Unknown.ensures.card)

pub returns-in-Unknown-clause-throughout : goal.returns-in-Unknown-clause-throughout
returns-in-Unknown-clause-throughout g c =
    let d = c.args.dir.now in
    let e = c.prepare.new.dir in
    throughout (g.F.StoreFile.state d.file) (g.F.StoreFile.state e.file) d.dir (g.R.RpmbPort.state c.args.host.now.port) (g.R.RpmbPort.state c.write_root.new.host.port) c.args.host.now.key c.write_root.new.host.key c.args.counter.now (g.met.F.StoreFile.sound d.file) (g.met.F.StoreFile.sound e.file) c.requires.settled c.in-Ok-prepare.ensures.answer.keeps e.dir c.args.counter.now c.in-Unknown.ensures.key

pub returns-in-Unknown-clause-steps : goal.returns-in-Unknown-clause-steps
returns-in-Unknown-clause-steps g c =
    let d = c.args.dir.now in
    let e = c.prepare.new.dir in
    doubted_steps (g.F.StoreFile.state d.file) (g.F.StoreFile.state e.file) d.dir (g.R.RpmbPort.state c.args.host.now.port) (g.R.RpmbPort.state c.write_root.new.host.port) c.args.host.now.key c.write_root.new.host.key c.args.counter.now (g.met.F.StoreFile.sound d.file) (g.met.F.StoreFile.sound e.file) c.requires.settled c.in-Ok-prepare.ensures.answer.keeps e.dir c.args.change.now c.in-Ok-prepare.root c.in-Ok-prepare.ensures.answer c.in-Ok-prepare.ensures.root c.in-Ok-prepare.ensures.formed
    c.in-Unknown.cause c.in-Unknown.ensures.card

pub returns-in-Lost-clause-drawn : goal.returns-in-Lost-clause-drawn
returns-in-Lost-clause-drawn g c reliable =
    port_not_drawn c.args.host.now.key c.args.counter.now (g.R.RpmbPort.state c.args.host.now.port) (g.R.RpmbPort.state c.write_root.new.host.port) c.in-Lost.cause c.in-Lost.ensures.cause

pub returns-in-Unknown-clause-drawn : goal.returns-in-Unknown-clause-drawn
returns-in-Unknown-clause-drawn g c reliable =
    port_not_drawn c.args.host.now.key c.args.counter.now (g.R.RpmbPort.state c.args.host.now.port) (g.R.RpmbPort.state c.write_root.new.host.port) c.in-Unknown.cause c.in-Unknown.ensures.cause.0

pub returns-in-Lost-clause-untouched : goal.returns-in-Lost-clause-untouched
returns-in-Lost-clause-untouched g c is =
    absurd (not_both c.in-Lost.cause (port_not_drawn c.args.host.now.key c.args.counter.now (g.R.RpmbPort.state c.args.host.now.port) (g.R.RpmbPort.state c.write_root.new.host.port) c.in-Lost.cause c.in-Lost.ensures.cause) is)

pub returns-then-at-clause-calm : goal.returns-then-at-clause-calm
returns-then-at-clause-calm g c calm =
    (record { calm = calm; faults = refl }, tt)

pub returns-in-Err-clause-calm : goal.returns-in-Err-clause-calm
returns-in-Err-clause-calm g c calm =
    (record { calm = calm; faults = refl }, subst NotOfCard (sym c.in-Err.ensures.cause.1) tt)

pub returns-in-Err-prepare-clause-calm : goal.returns-in-Err-prepare-clause-calm
returns-in-Err-prepare-clause-calm g c calm =
    let d = c.args.dir.now in
    let e = c.prepare.new.dir in
    (record { calm = calm; faults = refl }, side_not_card (g.F.StoreFile.state d.file) (g.F.StoreFile.state e.file) _ _ c.in-Err-prepare.failed c.in-Err-prepare.ensures.cause)

pub returns-in-Landed-clause-calm : goal.returns-in-Landed-clause-calm
returns-in-Landed-clause-calm g c calm =
    ((c.in-Landed.ensures.calm calm).0, tt)

pub returns-in-Lost-clause-calm : goal.returns-in-Lost-clause-calm
returns-in-Lost-clause-calm g c calm =
    let asked = c.in-Lost.ensures.calm calm in (asked.0, frame_not_card c.in-Lost.cause asked.1)

pub returns-in-Unknown-clause-calm : goal.returns-in-Unknown-clause-calm
returns-in-Unknown-clause-calm g c calm =
    let asked = c.in-Unknown.ensures.calm calm in (asked.0, frame_not_card c.in-Unknown.cause asked.1)

pub returns-in-Err-clause-counts : goal.returns-in-Err-clause-counts
returns-in-Err-clause-counts g c =
    drawn_counts (g.F.StoreFile.state c.args.dir.now.file) (g.R.RpmbPort.state c.args.host.now.port) (g.E.Entropy.faults c.args.entropy.now) (g.E.Entropy.faults c.draw_nonce.new.entropy) c.in-Err.cause c.in-Err.ensures.cause

pub returns-in-Err-prepare-clause-counts : goal.returns-in-Err-prepare-clause-counts
returns-in-Err-prepare-clause-counts g c =
    side_counts (g.F.StoreFile.state c.args.dir.now.file) (g.F.StoreFile.state c.prepare.new.dir.file) (g.R.RpmbPort.state c.args.host.now.port)
    (g.E.Entropy.faults c.args.entropy.now) (g.E.Entropy.faults c.draw_nonce.new.entropy) (g.E.Entropy.faults c.prepare.new.entropy) c.in-Err-prepare.failed c.in-Ok.ensures.cause c.in-Err-prepare.ensures.cause

pub returns-in-Landed-clause-counts : goal.returns-in-Landed-clause-counts
returns-in-Landed-clause-counts g c =
    let d = c.args.dir.now in
    let e = c.prepare.new.dir in
    record {
      file = subst (λ (s : FileState). FilePassed (g.F.StoreFile.state d.file) s) (sym (ap (λ f. g.F.StoreFile.state f) (adopted_file e c.adopt.new.self c.in-Ok-prepare.ensures.answer.opens c.adopt.ensures.committed))) c.in-Ok-prepare.ensures.cause.0;
      card = c.in-Landed.ensures.counts;
      draws = c.in-Ok-prepare.ensures.cause.1 ∙ c.in-Ok.ensures.cause;
    }

pub returns-in-Lost-clause-counts : goal.returns-in-Lost-clause-counts
returns-in-Lost-clause-counts g c =
    let d = c.args.dir.now in
    lost_counts (counts (g.F.StoreFile.state d.file) (g.R.RpmbPort.state c.args.host.now.port) (g.E.Entropy.faults c.args.entropy.now))
    (counts (g.F.StoreFile.state c.drop_stage.new.self.file) (g.R.RpmbPort.state c.write_root.new.host.port) (g.E.Entropy.faults c.prepare.new.entropy))
    c.args.host.now.key c.args.counter.now
    (subst (λ (s : FileState). FilePassed (g.F.StoreFile.state d.file) s) (sym (ap (λ x. g.F.StoreFile.state x.file) c.drop_stage.ensures.same)) c.in-Ok-prepare.ensures.cause.0)
    (c.in-Ok-prepare.ensures.cause.1 ∙ c.in-Ok.ensures.cause) c.in-Lost.cause c.in-Lost.ensures.cause c.in-Lost.ensures.counts

pub returns-in-Unknown-clause-counts : goal.returns-in-Unknown-clause-counts
returns-in-Unknown-clause-counts g c =
    let d = c.args.dir.now in
    doubt_counts (counts (g.F.StoreFile.state d.file) (g.R.RpmbPort.state c.args.host.now.port) (g.E.Entropy.faults c.args.entropy.now))
    (counts (g.F.StoreFile.state c.prepare.new.dir.file) (g.R.RpmbPort.state c.write_root.new.host.port) (g.E.Entropy.faults c.prepare.new.entropy))
    c.args.host.now.key c.args.counter.now c.in-Ok-prepare.ensures.cause.0
    (c.in-Ok-prepare.ensures.cause.1 ∙ c.in-Ok.ensures.cause) c.in-Unknown.cause c.in-Unknown.ensures.cause.0 c.in-Unknown.ensures.counts

pub returns-then-at-clause-arms : goal.returns-then-at-clause-arms
returns-then-at-clause-arms g c = same_arms (g.R.RpmbPort.state c.args.host.now.port)

pub returns-in-Err-clause-arms : goal.returns-in-Err-clause-arms
returns-in-Err-clause-arms g c = same_arms (g.R.RpmbPort.state c.args.host.now.port)

pub returns-in-Err-prepare-clause-arms : goal.returns-in-Err-prepare-clause-arms
returns-in-Err-prepare-clause-arms g c = same_arms (g.R.RpmbPort.state c.args.host.now.port)

pub returns-in-Unknown-clause-doubtful : goal.returns-in-Unknown-clause-doubtful
returns-in-Unknown-clause-doubtful g c =
    port_by_card c.args.host.now.key c.args.counter.now (g.R.RpmbPort.state c.args.host.now.port) (g.R.RpmbPort.state c.write_root.new.host.port) c.in-Unknown.cause c.in-Unknown.ensures.cause.0
