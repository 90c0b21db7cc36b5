-- The rules answered the call.
use Rattle.std.proofs.Common.{subst, sym}
use Rattle.call_rules.specs.Plain.{IsPlain}
use Rattle.call_steps.specs.GateServed.{IsServed}
use Rattle.tee_types.specs.declared.call.Call.{Call}
use Rattle.serial_calls.proofs.RuledCalls.{ruled_serves}
use Rattle.serial_calls.proofs.ruled_calls.answer.Goals as goal

pub returns-clause-serves : goal.returns-clause-serves
returns-clause-serves g c =
    let done = c.answer_ruled in
    ruled_serves g.F.StoreFile.state g.R.RpmbPort.state g.E.Entropy.faults g.L.StoreName.store c.args.gate.now done.new.gate c.args.slots.now.items c.args.session.now done.new.session
    c.args.call.now done.result _
    (subst (λ (x : Call). IsServed g.L.StoreName.store x done.result c.args.gate.now done.new.gate c.args.session.now done.new.session) c.in_ok-kept.ensures done.ensures.served)
    (subst IsPlain (sym done.ensures.reply) c.requires.plain) done.ensures.entropy c.requires.ready.slots_are
