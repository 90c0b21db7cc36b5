-- The object was read, or the rules answered.
use Rattle.std.proofs.Common.{ℕ, subst}
use Rattle.store_model.specs.Machine.{MachineState, Session}
use Rattle.tee_types.specs.declared.call.Call.TheVariants.{Read}
use Rattle.call_rules.specs.Matches.{Matches}
use Rattle.call_rules.specs.Told.{IsTold}
use Rattle.serial_calls.proofs.ToldCalls.{told_serves}
use Rattle.serial_calls.proofs.Unfailed.{served_stays, stays_unfailed}
use Rattle.serial_calls.proofs.read_calls.read.Goals as goal

pub answer-requires-clause-told : goal.answer-requires-clause-told
answer-requires-clause-told g c =
    subst
    (λ (session : Session). (s : MachineState) (i : ℕ) → Matches c.args.gate.now.gate.dir.dir.entries c.args.gate.now.gate.open_handles session s i
    → IsTold s i (Read c.args.handle c.args.size) c.in-Answered.reply session)
    c.state.ensures (λ s i m. c.in-Answered.ensures.told s i c.args.size m)

pub returns-clause-serves : goal.returns-clause-serves
returns-clause-serves g c =
    told_serves g.F.StoreFile.state g.R.RpmbPort.state g.E.Entropy.faults g.L.StoreName.store c.args.gate.now c.read-2.new.gate c.args.slots.now.items c.place_of-place.result
    c.index_mut-slot.result.now c.read-2.new.slot c.args.session.now c.read-2.new.session c.requires.ready.slots_are c.place_of-place.ensures.within c.index_mut-slot.ensures.value
    c.read-2.ensures.number (Read c.args.handle c.args.size) _ c.read-2.result c.read-2.ensures.served c.requires.ready.calm.caller c.read-2.ensures.rests.goes_on c.read-2.ensures.cause
    c.read-2.ensures.entropy

pub returns-clause-passed : goal.returns-clause-passed
returns-clause-passed g c =
    let done = c.read-2 in
    stays_unfailed c.args.slots.now.items c.place_of-place.result c.index_mut-slot.result.now done.new.slot c.requires.ready.slots_are c.place_of-place.ensures.within c.index_mut-slot.ensures.value
    g.F.StoreFile.state g.R.RpmbPort.state g.E.Entropy.faults c.args.gate.now done.new.gate c.args.session.now done.new.session done.result
    (served_stays g.L.StoreName.store c.args.gate.now done.new.gate c.args.session.now done.new.session _ (Read c.args.handle c.args.size) done.result done.ensures.served) done.ensures.passed
