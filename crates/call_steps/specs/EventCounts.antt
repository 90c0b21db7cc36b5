-- The events of a gate's history.
use Rattle.std.specs.Prelude.{List, None, Option, Some, [], ℕ, ◌∷◌}
use Rattle.commit_gate.specs.GuardedGates.{GuardedGateValue}
use Rattle.store_model.specs.Record.{events_of}
use Rattle.store_model.specs.declared.event.Event.{Event}
use Rattle.store_model.specs.declared.event.Event.TheVariants.{Landed}

-- the event of the commit in doubt that landed, if it did
abbrev pub landing_events : Option ℕ → List Event
landing_events None = []
landing_events (Some commit) = Landed commit ∷ []

-- the events of a gate's history
abbrev pub events_at : {F R : Type 0} → GuardedGateValue F R → List Event
events_at gate = events_of gate.journal.knows.all
