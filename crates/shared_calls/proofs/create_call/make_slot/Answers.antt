-- The file counted what the reply carries for it, where no object was made.
use Rattle.std.proofs.Common.{subst, sym}
use Rattle.serial_calls.specs.CallerSessions.{CallerSession}
use Rattle.serial_calls.specs.SessionEvents.{IsWaiting}
use Rattle.shared_calls.proofs.SharedObjects.{keeps-made}
use Rattle.serial_calls.proofs.GoingOn.{waits-drawn}
use Rattle.shared_calls.proofs.create_call.make_slot.Goals as goal

pub returns-clause-kept : goal.returns-clause-kept
returns-clause-kept g c =
    let was = c.args.session.now in
    let made = c.make_unless_spent-made in
    keeps-made g.L.DevicesName.devices c.args.slot.now made.new.slot made.ensures.same made.ensures.goes_on c.requires.kept c.args.counter (g.E.Entropy.is_reliable was.entropy) (g.E.Entropy.faults was.entropy)
    (g.E.Entropy.faults made.new.session.entropy) made.result made.ensures.cause

pub returns-clause-waits : goal.returns-clause-waits
returns-clause-waits g c =
    let made = c.make_unless_spent-made in
    subst (λ (s : CallerSession g.row.E.Denot). IsWaiting g.L.StoreName.store c.args.session.now s) (sym made.ensures.session)
    (waits-drawn g.L.StoreName.store c.args.session.now made.new.session.entropy c.requires.caller)
