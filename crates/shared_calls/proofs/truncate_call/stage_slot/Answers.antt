-- The session drew at most, and the slot has the stage of the change of the version that it gives.
use Rattle.std.proofs.Common.{IfOk, subst}
use Rattle.serial_calls.specs.ChangeStaging.{resizing}
use Rattle.shared_calls.specs.SharedChange.{CarriesStaged}
use Rattle.serial_calls.proofs.GoingOn.{waits-drawn}
use Rattle.shared_calls.proofs.StageCounts.{stage-carries}
use Rattle.shared_calls.proofs.SharedStages.{has-staged, stage-keeps}
use Rattle.shared_calls.proofs.truncate_call.stage_slot.Goals as goal

pub returns-clause-waits : goal.returns-clause-waits
returns-clause-waits g c = waits-drawn g.L.StoreName.store c.args.session.now c.truncate_object.new.entropy c.requires.caller

pub returns-clause-staged : goal.returns-clause-staged
returns-clause-staged g c =
    let staged = c.truncate_object in
    has-staged g.L.StoreName.store c.args.slot.now staged.new.slot c.args.found.now.held.entry (resizing c.args.size) c.requires.guarded c.requires.loads.given staged.ensures.same staged.ensures.base
    staged.result staged.ensures.stages

pub returns-clause-kept : goal.returns-clause-kept
returns-clause-kept g c =
    let staged = c.truncate_object in
    stage-keeps g.L.DevicesName.devices c.args.slot.now staged.new.slot staged.ensures.same staged.ensures.goes_on c.requires.kept (g.E.Entropy.is_reliable c.entropy_mut-entropy.result.now)
    (g.E.Entropy.faults c.entropy_mut-entropy.result.now) (g.E.Entropy.faults staged.new.entropy) staged.result staged.ensures.cause

pub returns-clause-drawn : goal.returns-clause-drawn
returns-clause-drawn g c =
    let faults = g.E.Entropy.faults in
    let old = c.args.slot.now in
    let staged = c.truncate_object in
    subst (λ (x : g.row.E.Denot). IfOk staged.result (CarriesStaged (faults x) (faults staged.new.entropy))) c.entropy_mut-entropy.ensures.value
    (stage-carries g.E.Entropy.is_reliable faults old.file staged.new.slot.file old.number c.entropy_mut-entropy.result.now staged.new.entropy staged.result staged.ensures.cause)
