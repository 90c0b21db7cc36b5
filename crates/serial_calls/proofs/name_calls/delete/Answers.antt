-- The object was deleted, or the rules answered.
use Rattle.tee_types.specs.declared.call.Call.TheVariants.{Delete}
use Rattle.tee_types.specs.declared.reply.Reply.TheVariants.{Done}
use Rattle.serial_calls.proofs.ChangedCalls.{committed_serves}
use Rattle.call_steps.proofs.CountGrowth.{same_file_goes_on}
use Rattle.serial_calls.proofs.name_calls.delete.Goals as goal

pub returns-clause-serves : goal.returns-clause-serves
returns-clause-serves g c =
    let done = c.delete-2 in
    committed_serves g.F.StoreFile.state g.R.RpmbPort.state g.E.Entropy.faults g.L.StoreName.store c.args.gate.now done.new.gate c.args.slots.now.items c.place_of-place.result
    c.index_mut-slot.result.now done.new.slot c.args.session.now done.new.session c.requires.ready.slots_are c.place_of-place.ensures.within c.index_mut-slot.ensures.value
    done.ensures.number (Delete c.args.handle) Done _ _ done.result _ done.ensures.committed tt c.requires.ready.known c.requires.ready.idle
    (same_file_goes_on c.index_mut-slot.result.now.file done.new.slot.file done.ensures.file)
