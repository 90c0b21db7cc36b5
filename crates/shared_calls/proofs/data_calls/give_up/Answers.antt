-- What was staged goes, and the slot without a stage is as it was.
use Rattle.std.proofs.Common.{inl}
use Rattle.shared_calls.specs.SharedChange.{told_staged}
use Rattle.shared_calls.proofs.KeptSlots.{keeps-untold}
use Rattle.shared_calls.proofs.SharedStages.{given-up, given-up-keeps, root-staged, unstaged-guarded}
use Rattle.shared_calls.proofs.data_calls.give_up.Goals as goal

pub drop_stage-requires : goal.drop_stage-requires
drop_stage-requires g c = inl (root-staged g.L.StoreName.store c.args.slot.now c.requires.staged.0 c.args.staged.now c.requires.staged.1 _ c.in-Root.is)

pub returns-in-Root : goal.returns-in-Root
returns-in-Root g c =
    let old = c.args.slot.now in
    let new = c.drop_stage.new.self in
    record {
      guarded = given-up g.L.StoreName.store old c.requires.staged.0 c.args.staged.now c.requires.staged.1 new c.drop_stage.ensures;
      kept = given-up-keeps g.L.DevicesName.devices old new (told_staged old.number c.args.staged.now) c.drop_stage.ensures c.requires.kept;
    }

pub returns-in-Unstaged : goal.returns-in-Unstaged
returns-in-Unstaged g c =
    let old = c.args.slot.now in
    record {
      guarded = unstaged-guarded g.L.StoreName.store old c.requires.staged.0 c.args.staged.now c.requires.staged.1 _ c.in-Unstaged.is;
      kept = keeps-untold g.L.DevicesName.devices old (told_staged old.number c.args.staged.now) c.requires.kept;
    }
