-- The object's size was set, or the rules answered.
use Rattle.std.proofs.Common.{ℕ, subst}
use Rattle.call_rules.specs.Matches.{Matches}
use Rattle.call_rules.specs.Told.{IsTold}
use Rattle.store_model.specs.Machine.{MachineState, Session}
use Rattle.tee_types.specs.declared.call.Call.TheVariants.{Truncate}
use Rattle.serial_calls.proofs.ChangedCalls.{changed_serves}
use Rattle.serial_calls.proofs.Unfailed.{changed_stays, slot_read, stays_unfailed}
use Rattle.serial_calls.proofs.data_calls.truncate.Goals as goal

pub answer-requires-clause-told : goal.answer-requires-clause-told
answer-requires-clause-told g c =
    subst
    (λ (session : Session). (s : MachineState) (i : ℕ) → Matches c.args.gate.now.gate.dir.dir.entries c.args.gate.now.gate.open_handles session s i
    → IsTold s i (Truncate c.args.handle c.args.size) c.in-Answered.reply session)
    c.state.ensures (λ s i m. c.in-Answered.ensures.told s i c.args.size m)

pub returns-clause-serves : goal.returns-clause-serves
returns-clause-serves g c =
    let done = c.truncate-2 in
    changed_serves g.F.StoreFile.state g.R.RpmbPort.state g.E.Entropy.faults g.L.StoreName.store c.args.gate.now done.new.gate c.args.slots.now.items c.place_of-place.result
    c.index_mut-slot.result.now done.new.slot c.args.session.now done.new.session c.requires.ready.slots_are c.place_of-place.ensures.within c.index_mut-slot.ensures.value
    done.ensures.number (Truncate c.args.handle c.args.size) _ _ _ _ done.result done.ensures.changed c.requires.ready.calm.caller done.ensures.goes_on c.requires.ready.known c.requires.ready.idle

pub returns-clause-passed : goal.returns-clause-passed
returns-clause-passed g c =
    let done = c.truncate-2 in
    stays_unfailed c.args.slots.now.items c.place_of-place.result c.index_mut-slot.result.now done.new.slot c.requires.ready.slots_are c.place_of-place.ensures.within c.index_mut-slot.ensures.value
    g.F.StoreFile.state g.R.RpmbPort.state g.E.Entropy.faults c.args.gate.now done.new.gate c.args.session.now done.new.session done.result
    (changed_stays g.F.StoreFile.state g.R.RpmbPort.state _ _ _ g.L.StoreName.store c.args.gate.now done.new.gate c.index_mut-slot.result.now done.new.slot c.args.session.now done.new.session (Truncate c.args.handle c.args.size) _ _ done.result done.ensures.changed)
    done.ensures.passed

pub returns-clause-spent : goal.returns-clause-spent
returns-clause-spent g c = λ spent.
    let done = c.truncate-2 in
    slot_read c.args.slots.now.items c.place_of-place.result c.index_mut-slot.result.now done.new.slot c.requires.ready.slots_are c.place_of-place.ensures.within c.index_mut-slot.ensures.value
    c.args.gate.now done.new.gate c.args.session.now done.new.session (done.ensures.spent spent)
