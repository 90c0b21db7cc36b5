-- The slot has the object, or is clear still.
use Rattle.std.proofs.Common.{List, subst, ℕ}
use Rattle.serial_calls.proofs.MadeSlots.{staged_root}
use Rattle.serial_calls.proofs.create_object.stage.Goals as goal
use Rattle.call_steps.specs.NewObjects.{NewLeaves}
use Rattle.call_steps.specs.Makes.{MakesObject}

pub returns-clause-makes : goal.returns-clause-makes
returns-clause-makes g c =
    let store = g.L.StoreName.store in
    let old = c.args.slot.now in
    let slot = c.stage_new.new.slot in
    let tsk = c.args.tsk.now in
    let result = c.stage_new.result in
    let makes =
    subst (λ (p : List ℕ × List ℕ). MakesObject old.file slot.file tsk p.0 p.1 slot.holds result) (λ i. (c.as_slice.ensures i, c.as_slice-2.ensures i)) c.stage_new.ensures.makes in
    let leaves = subst (λ (p : List ℕ × List ℕ). NewLeaves store slot tsk p.0 p.1 result) (λ i. (c.as_slice.ensures i, c.as_slice-2.ensures i)) c.stage_new.ensures.leaves in
    staged_root store old slot c.args.session.now.state.application c.args.attributes.now c.args.bytes.now tsk result c.requires.key makes leaves c.stage_new.ensures.same c.requires.clear
