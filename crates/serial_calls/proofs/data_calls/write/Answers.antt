-- The bytes were written, or the rules answered.
use Rattle.std.proofs.Common.{ℕ, List, subst}
use Rattle.std.specs.Prelude.{slice_set}
use Rattle.tee_types.specs.declared.call.Call.TheVariants.{Write}
use Rattle.serial_calls.specs.ServeReplay.{ServesObject}
use Rattle.serial_calls.proofs.ChangedCalls.{changed_serves}
use Rattle.serial_calls.proofs.Unfailed.{changed_stays, slot_read, stays_unfailed}
use Rattle.serial_calls.proofs.data_calls.write.Goals as goal

pub returns-clause-serves : goal.returns-clause-serves
returns-clause-serves g c =
    let done = c.write-2 in
    let was_gate = c.args.gate.now in
    let was_slots = c.args.slots.now.items in
    subst
    (λ (bytes : List ℕ). ServesObject g.F.StoreFile.state g.R.RpmbPort.state g.E.Entropy.faults g.L.StoreName.store
    (record { gate = was_gate; slots = was_slots; session = c.args.session.now })
    (record { gate = done.new.gate; slots = slice_set was_slots c.place_of-place.result done.new.slot; session = done.new.session }) (Write c.args.handle bytes) done.result)
    c.as_slice.ensures
    (changed_serves g.F.StoreFile.state g.R.RpmbPort.state g.E.Entropy.faults g.L.StoreName.store was_gate done.new.gate was_slots c.place_of-place.result
    c.index_mut-slot.result.now done.new.slot c.args.session.now done.new.session c.requires.ready.slots_are c.place_of-place.ensures.within c.index_mut-slot.ensures.value
    done.ensures.number (Write c.args.handle c.as_slice.result.now) _ _ _ _ done.result done.ensures.changed c.requires.ready.calm.caller done.ensures.goes_on c.requires.ready.known c.requires.ready.idle)

pub returns-clause-passed : goal.returns-clause-passed
returns-clause-passed g c =
    let done = c.write-2 in
    stays_unfailed c.args.slots.now.items c.place_of-place.result c.index_mut-slot.result.now done.new.slot c.requires.ready.slots_are c.place_of-place.ensures.within c.index_mut-slot.ensures.value
    g.F.StoreFile.state g.R.RpmbPort.state g.E.Entropy.faults c.args.gate.now done.new.gate c.args.session.now done.new.session done.result
    (changed_stays g.F.StoreFile.state g.R.RpmbPort.state _ _ _ g.L.StoreName.store c.args.gate.now done.new.gate c.index_mut-slot.result.now done.new.slot c.args.session.now done.new.session (Write c.args.handle c.as_slice.result.now) _ _ done.result done.ensures.changed)
    done.ensures.passed

pub returns-clause-spent : goal.returns-clause-spent
returns-clause-spent g c = λ spent.
    let done = c.write-2 in
    slot_read c.args.slots.now.items c.place_of-place.result c.index_mut-slot.result.now done.new.slot c.requires.ready.slots_are c.place_of-place.ensures.within c.index_mut-slot.ensures.value
    c.args.gate.now done.new.gate c.args.session.now done.new.session (done.ensures.spent spent)
