-- The object was renamed, or the rules answered.
use Rattle.tee_types.specs.declared.call.Call.TheVariants.{Rename}
use Rattle.serial_calls.proofs.ChangedCalls.{renamed_serves}
use Rattle.serial_calls.proofs.Unfailed.{renamed_passed, renamed_stays, stays_unfailed}
use Rattle.serial_calls.proofs.name_calls.rename.Goals as goal

pub returns-clause-serves : goal.returns-clause-serves
returns-clause-serves g c =
    let done = c.rename-2 in
    renamed_serves g.F.StoreFile.state g.R.RpmbPort.state g.E.Entropy.faults g.L.StoreName.store c.args.gate.now done.new.gate c.args.slots.now.items c.place_of-place.result
    c.index_mut-slot.result.now done.new.slot c.args.session.now done.new.session c.requires.ready.slots_are c.place_of-place.ensures.within c.index_mut-slot.ensures.value
    done.ensures.number (Rename c.args.handle c.args.id) _ _ _ done.result done.ensures.committed done.ensures.err done.ensures.file c.requires.ready.calm.caller c.requires.ready.known c.requires.ready.idle

pub returns-clause-passed : goal.returns-clause-passed
returns-clause-passed g c =
    let done = c.rename-2 in
    stays_unfailed c.args.slots.now.items c.place_of-place.result c.index_mut-slot.result.now done.new.slot c.requires.ready.slots_are c.place_of-place.ensures.within c.index_mut-slot.ensures.value
    g.F.StoreFile.state g.R.RpmbPort.state g.E.Entropy.faults c.args.gate.now done.new.gate c.args.session.now done.new.session done.result
    (renamed_stays c.args.gate.now done.new.gate c.index_mut-slot.result.now done.new.slot c.args.session.now done.new.session done.result done.ensures.err)
    (renamed_passed c.index_mut-slot.result.now done.new.slot done.result done.ensures.file)
