-- The object was opened, or the rules answered.
use Rattle.tee_types.specs.declared.call.Call.TheVariants.{Open}
use Rattle.serial_calls.proofs.ToldCalls.{told_serves}
use Rattle.serial_calls.proofs.Unfailed.{served_stays, stays_unfailed}
use Rattle.serial_calls.proofs.handle_calls.open.Goals as goal

pub returns-clause-serves : goal.returns-clause-serves
returns-clause-serves g c =
    told_serves g.F.StoreFile.state g.R.RpmbPort.state g.E.Entropy.faults g.L.StoreName.store c.args.gate.now c.open-2.new.gate c.args.slots.now.items c.place_of-place.result
    c.index_mut-slot.result.now c.open-2.new.slot c.args.session.now c.open-2.new.session c.requires.ready.slots_are c.place_of-place.ensures.within c.index_mut-slot.ensures.value
    c.open-2.ensures.number (Open c.args.id c.args.flags) _ c.open-2.result c.open-2.ensures.served c.requires.ready.calm.caller c.open-2.ensures.rests.goes_on c.open-2.ensures.cause
    c.open-2.ensures.entropy

pub returns-clause-passed : goal.returns-clause-passed
returns-clause-passed g c =
    let done = c.open-2 in
    stays_unfailed c.args.slots.now.items c.place_of-place.result c.index_mut-slot.result.now done.new.slot c.requires.ready.slots_are c.place_of-place.ensures.within c.index_mut-slot.ensures.value
    g.F.StoreFile.state g.R.RpmbPort.state g.E.Entropy.faults c.args.gate.now done.new.gate c.args.session.now done.new.session done.result
    (served_stays g.L.StoreName.store c.args.gate.now done.new.gate c.args.session.now done.new.session _ (Open c.args.id c.args.flags) done.result done.ensures.served) done.ensures.passed
