-- The object was made in the file that was reserved, or the rules answered.
use Rattle.std.proofs.Common.{◌≡◌, ◌∙◌, ◌+◌, ◌-◌, ◌<◌, arith, length, sym, subst}
use Rattle.std.specs.Prelude.{slice_set}
use Rattle.serial_calls.proofs.NewObjects.{create_is}
use Rattle.serial_calls.specs.Rules.{IsCreate, MayCreate, NewObject, create_call, new_object}
use Rattle.serial_calls.specs.ServeReplay.{ServesObject}
use Rattle.tee_types.specs.declared.call.Call.{Call}
use Rattle.call_steps.specs.GuardedGates.{GuardedGateValue}
use Rattle.store_model.specs.Machine.{Session}
use Rattle.serial_calls.proofs.CreatedCalls.{created_serves}
use Rattle.std.proofs.Common.{ap}
use Rattle.serial_calls.proofs.Unfailed.{created_unfailed}
use Rattle.serial_calls.proofs.handle_calls.create.Goals as goal

pub create-created-requires-clause-may : goal.create-created-requires-clause-may
create-created-requires-clause-may g c =
    let old = c.args.gate.now in
    let state = c.args.session.now.state in
    let rules = c.in-Needs.ensures in
    let here : MayCreate old.gate.dir.dir.entries old.gate.open_handles state (new_object c.args.call.now) c.in-Needs.place =
    subst (λ (p : NewObject × Session). MayCreate old.gate.dir.dir.entries old.gate.open_handles p.1 p.0 c.in-Needs.place) (λ i. (c.of_call-object.ensures i, c.state.ensures i))
    (record { rule = rules.makes; place_is = rules.place; handles = rules.few; short = rules.fits.0; few = rules.fits.1 }) in
    subst (λ (p : GuardedGateValue g.row.F.Denot g.row.R.Denot × Call). MayCreate p.0.gate.dir.dir.entries p.0.gate.open_handles state (new_object p.1) c.in-Needs.place)
    (λ i. (sym c.reserve-file.ensures.same i, sym c.in_ok-kept.ensures i)) here

pub returns-clause-serves : goal.returns-clause-serves
returns-clause-serves g c =
    let done = c.create-created in
    let slots = c.args.slots.now.items in
    let file = c.reserve-file.result in
    let place = c.from.result - 1 in
    let at : place + 1 ≡ file = omega (arith, c.from.ensures, c.reserve-file.ensures.reserved.numbered.0) in
    let within : place < length slots = omega (arith, at, c.reserve-file.ensures.reserved.numbered.1, c.requires.ready.slots_are.many) in
    let kept = c.in_ok-kept.kept in
    let is : create_call (new_object kept) ≡ c.args.call.now = create_is kept (subst IsCreate (sym c.in_ok-kept.ensures) c.requires.create) ∙ c.in_ok-kept.ensures in
    subst
    (λ (call : Call). ServesObject g.F.StoreFile.state g.R.RpmbPort.state g.E.Entropy.faults g.L.StoreName.store (record { gate = c.args.gate.now; slots = slots; session = c.args.session.now })
    (record { gate = done.new.gate; slots = slice_set slots place done.new.slot; session = done.new.session }) call done.result) is
    (created_serves g.F.StoreFile.state g.R.RpmbPort.state g.E.Entropy.faults g.L.StoreName.store c.args.gate.now c.reserve-file.new.gate done.new.gate slots place
    c.index_mut-slot.result.now done.new.slot c.args.session.now done.new.session c.requires.ready.slots_are within c.index_mut-slot.ensures.value done.ensures.number
    c.requires.ready.idle file at c.reserve-file.ensures.reserved.held c.reserve-file.ensures.same done.ensures.goes_on c.requires.ready.calm.caller c.requires.ready.known
    (new_object kept) c.in-Needs.place _ _ done.result done.ensures.creates)

pub returns-clause-passed : goal.returns-clause-passed
returns-clause-passed g c =
    let done = c.create-created in
    let slots = c.args.slots.now.items in
    let file = c.reserve-file.result in
    let place = c.from.result - 1 in
    let at : place + 1 ≡ file = omega (arith, c.from.ensures, c.reserve-file.ensures.reserved.numbered.0) in
    let within : place < length slots = omega (arith, at, c.reserve-file.ensures.reserved.numbered.1, c.requires.ready.slots_are.many) in
    created_unfailed g.F.StoreFile.state g.R.RpmbPort.state g.E.Entropy.faults g.L.StoreName.store c.args.gate.now c.reserve-file.new.gate done.new.gate slots place
    c.index_mut-slot.result.now done.new.slot c.args.session.now done.new.session c.requires.ready.slots_are within c.index_mut-slot.ensures.value
    (ap (λ (x : GuardedGateValue g.row.F.Denot g.row.R.Denot). g.F.StoreFile.state x.gate.dir.file) c.reserve-file.ensures.same)
    (ap (λ (x : GuardedGateValue g.row.F.Denot g.row.R.Denot). g.R.RpmbPort.state x.gate.host.port) c.reserve-file.ensures.same)
    (new_object c.in_ok-kept.kept) c.in-Needs.place _ done.result done.ensures.creates
