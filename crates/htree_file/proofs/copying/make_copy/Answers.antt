use Rattle.std.proofs.Common.{◌≡◌, List, [], ℕ, length, sym, ◌∙◌, subst}
use Rattle.disk_model.specs.Calls.{Known}
use Rattle.disk_model.proofs.Goings.{first_known, then_known}
use Rattle.htree_file.specs.Copies.{IsCopy}
use Rattle.htree_file.proofs.CopiedParts.{resized_empty}
use Rattle.htree_file.proofs.CopyRuns.{change_run, run_then, sync_run, unsynced_run}
use Rattle.htree_file.proofs.copying.make_copy.Goals as goal

pub returns-in_err-set_len-clause-run : goal.returns-in_err-set_len-clause-run
returns-in_err-set_len-clause-run g c =
    let a = g.F.StoreFile.state c.args.from.now in
    let w = g.F.StoreFile.state c.args.to.now in
    let x = g.F.StoreFile.state c.set_len.new.self in
    change_run 0 (length w.reads) a w x (g.met.F.StoreFile.sound c.args.to.now) c.set_len.ensures.changes c.set_len.ensures.others c.set_len.ensures.others_struck

pub returns-in_err-copy_parts-clause-run : goal.returns-in_err-copy_parts-clause-run
returns-in_err-copy_parts-clause-run g c =
    let a = g.F.StoreFile.state c.args.from.now in
    let b = g.F.StoreFile.state c.copy_parts.new.from in
    let w = g.F.StoreFile.state c.args.to.now in
    let x = g.F.StoreFile.state c.set_len.new.self in
    let y = g.F.StoreFile.state c.copy_parts.new.to in
    let cut = change_run 0 (length w.reads) a w x (g.met.F.StoreFile.sound c.args.to.now) c.set_len.ensures.changes c.set_len.ensures.others c.set_len.ensures.others_struck in
    run_then a a b w x y cut c.copy_parts.ensures.run

pub returns-in_err-sync-clause-run : goal.returns-in_err-sync-clause-run
returns-in_err-sync-clause-run g c =
    let a = g.F.StoreFile.state c.args.from.now in
    let b = g.F.StoreFile.state c.copy_parts.new.from in
    let w = g.F.StoreFile.state c.args.to.now in
    let x = g.F.StoreFile.state c.set_len.new.self in
    let y = g.F.StoreFile.state c.copy_parts.new.to in
    let z = g.F.StoreFile.state c.sync.new.self in
    let cut = change_run 0 (length w.reads) a w x (g.met.F.StoreFile.sound c.args.to.now) c.set_len.ensures.changes c.set_len.ensures.others c.set_len.ensures.others_struck in
    run_then a b b w y z (run_then a a b w x y cut c.copy_parts.ensures.run) (unsynced_run b y z (g.met.F.StoreFile.sound c.copy_parts.new.to) c.in_err-sync.ensures.unsettled)

pub returns-clause-run : goal.returns-clause-run
returns-clause-run g c =
    let a = g.F.StoreFile.state c.args.from.now in
    let b = g.F.StoreFile.state c.copy_parts.new.from in
    let w = g.F.StoreFile.state c.args.to.now in
    let x = g.F.StoreFile.state c.set_len.new.self in
    let y = g.F.StoreFile.state c.copy_parts.new.to in
    let z = g.F.StoreFile.state c.sync.new.self in
    let cut = change_run 0 (length w.reads) a w x (g.met.F.StoreFile.sound c.args.to.now) c.set_len.ensures.changes c.set_len.ensures.others c.set_len.ensures.others_struck in
    run_then a b b w y z (run_then a a b w x y cut c.copy_parts.ensures.run) (sync_run b y z (g.met.F.StoreFile.sound c.copy_parts.new.to) c.in_ok-sync.ensures.synced)

pub returns-clause-copied : goal.returns-clause-copied
returns-clause-copied g c = λ told known.
    let a = g.F.StoreFile.state c.args.from.now in
    let b = g.F.StoreFile.state c.copy_parts.new.from in
    let w = g.F.StoreFile.state c.args.to.now in
    let x = g.F.StoreFile.state c.set_len.new.self in
    let y = g.F.StoreFile.state c.copy_parts.new.to in
    let z = g.F.StoreFile.state c.sync.new.self in
    let syncs = c.in_ok-sync.ensures.synced in
    let run = c.copy_parts.ensures.run in
    let cut = change_run 0 (length w.reads) a w x (g.met.F.StoreFile.sound c.args.to.now) c.set_len.ensures.changes c.set_len.ensures.others c.set_len.ensures.others_struck in
    let to_y : Known w y = first_known w y z syncs.goes_on known in
    let to_x : Known w x = first_known w x y run.keeps.goes_on to_y in
    let from_x : Known x y = then_known w x y cut.keeps.goes_on to_y in
    let from_y : Known y z = then_known w y z (run_then a a b w x y cut run).keeps.goes_on known in
    let empty : x.reads ≡ [] = c.in_ok-set_len.ensures.resized to_x ∙ resized_empty w.reads in
    subst (λ (l : List ℕ). IsCopy a.reads l c.args.root c.args.format) (sym (syncs.reads from_y)) (c.in_ok-copy_parts.ensures.copied told from_x empty)
