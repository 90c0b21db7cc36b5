-- What was staged is of the entry still, and is answered.
use Rattle.std.proofs.Common.{subst, sym}
use Rattle.serial_calls.specs.ChangeStaging.{DataCall, StagesEntry, resizing}
use Rattle.hmac_keys.specs.KeyTable.{rpmb_key}
use Rattle.serial_calls.specs.GuardedGates.{GuardedGateValue}
use Rattle.tee_types.specs.declared.call.Call.TheVariants.{Truncate}
use Rattle.shared_calls.specs.SharedReady.{IsReady}
use Rattle.shared_calls.proofs.SharedChanges.{LeavesChanged, changed-leaves}
use Rattle.shared_calls.proofs.KeptCalls.{known-card}
use Rattle.shared_calls.proofs.truncate_call.answer_staged.Given.{Over}
use Rattle.shared_calls.proofs.truncate_call.answer_staged.Goals.{After-answer_truncate}
use Rattle.shared_calls.proofs.truncate_call.answer_staged.Goals as goal

pub answer_truncate-requires-clause-stages : goal.answer_truncate-requires-clause-stages
answer_truncate-requires-clause-stages g c =
    let found = c.args.found.now in
    let asked : DataCall = resizing c.args.size in
    let has = c.requires.staged in
    subst (λ (x : GuardedGateValue g.row.F.Denot g.row.R.Denot). StagesEntry g.L.StoreName.store x.journal.knows c.catch_up_staged.new.slot found.held.entry asked c.args.staged) (sym c.catch_up_staged.ensures.gate)
    (c.catch_up_staged.ensures.stages has.version has.gives asked c.args.staged has.stages)

behind : (g : Over) (c : After-answer_truncate g)
    → LeavesChanged g.F.StoreFile.state g.R.RpmbPort.state g.E.Entropy.faults g.L.StoreName.store g.L.DevicesName.devices c.answer_truncate.new.gate c.answer_truncate.new.slot c.args.session.now c.answer_truncate.new.session
    (Truncate c.args.handle c.args.size) c.args.staged c.answer_truncate.result
behind g c =
    let found = c.args.found.now in
    let store = g.L.StoreName.store in
    let old = c.gate.inside.gate in
    let met = c.catch_up_staged in
    let done = c.answer_truncate in
    let ready : IsReady store old c.args.session.now =
    subst (λ (x : GuardedGateValue g.row.F.Denot g.row.R.Denot). IsReady store x c.args.session.now) (sym c.gate.view_is) c.requires.ready in
    let known = known-card g.F.StoreFile.state g.R.RpmbPort.state old.gate (rpmb_key store.keys.huk) c.reveal_invariant.ensures.guarded.card_key ready.idle c.reveal_invariant.ensures.stands in
    changed-leaves g.F.StoreFile.state g.R.RpmbPort.state g.E.Entropy.is_reliable g.E.Entropy.faults store g.L.DevicesName.devices old met.new.gate done.new.gate c.args.slot.now met.new.slot done.new.slot
    c.args.session.now met.new.session done.new.session (Truncate c.args.handle c.args.size) found.held c.args.size (resizing c.args.size) c.args.staged done.result
    met.ensures.gate (met.ensures.calm ready.calm) met.ensures.same done.ensures.number done.ensures.file met.ensures.agreed met.ensures.at.1.sees done.ensures.whole known c.requires.staged c.gate.invariant
    c.requires.kept done.ensures.answered

pub returns-clause-answered : goal.returns-clause-answered
returns-clause-answered g c = (behind g c).answered

pub returns-clause-drawn : goal.returns-clause-drawn
returns-clause-drawn g c = (behind g c).drawn

pub returns-clause-kept : goal.returns-clause-kept
returns-clause-kept g c = (behind g c).slot_kept

pub invariant_of-gate : goal.invariant_of-gate
invariant_of-gate g c = (behind g c).gate_kept
