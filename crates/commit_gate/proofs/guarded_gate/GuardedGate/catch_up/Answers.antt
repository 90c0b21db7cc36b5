-- The doubt that is open in the history is the gate's, and a session that sees all of it stands as the machine's.
use Rattle.commit_gate.proofs.Knowing.{guarded-held, shown_stand}
use Rattle.commit_gate.proofs.guarded_gate.GuardedGate.catch_up.Goals as goal

pub catch_up-requires-clause-held : goal.catch_up-requires-clause-held
catch_up-requires-clause-held g c = guarded-held g.L.StoreName.store c.self.inside.gate c.self.inside.journal.knows c.self.inside.closing c.self.invariant

pub returns-clause-stands : goal.returns-clause-stands
returns-clause-stands g c = shown_stand g.row.E.Denot g.L.StoreName.store c.catch_up.new.journal.knows c.catch_up.new.session c.catch_up.ensures.whole c.catch_up.ensures.sees
