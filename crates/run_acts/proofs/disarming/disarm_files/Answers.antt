use Rattle.std.proofs.Common.{◌∙◌, refl, sym, ap, arith}
use Rattle.std.specs.Prelude.{slice_set}
use Rattle.std.proofs.lemmas.List.{length-set}
use Rattle.disk_model.specs.Controls.{disarmed}
use Rattle.run_acts.proofs.Disarmed.{all_disarmed, one_disarmed}
use Rattle.run_acts.proofs.disarming.disarm_files.Goals as goal

pub loop-file-preserved : goal.loop-file-preserved
loop-file-preserved g c =
    let l = c.loop-file in
    let state = g.F.StoreFile.state in
    one_disarmed state c.args.files.now l.files l.file-index c.file-item.result c.disarm.new.self l.invariant (omega (arith, c.loop-file-test.true, l.invariant.many)) c.file-item.is
    (c.disarm.ensures ∙ ap (λ (f : g.row.F.Denot). disarmed (state f)) (sym c.file-item.is)) (slice_set l.files l.file-index c.disarm.new.self) refl
    (length-set l.files l.file-index c.disarm.new.self)

pub returns : goal.returns
returns g c =
    all_disarmed g.F.StoreFile.state c.args.files.now c.loop-file.files c.loop-file.file-index c.loop-file.invariant (omega (arith, c.loop-file-test.false, c.loop-file.invariant.many))
