-- What became of a commit in doubt.
use Rattle.std.specs.Prelude.{◌+◌, ℕ, Bool, if◌then◌else◌, nat_lt, drop, Option, Some, None, option_map}
use Rattle.store_model.specs.declared.event.Event.{Event}
use Rattle.history_seats.specs.Settling.{is_landing, settles, settling}
use Rattle.history_seats.specs.Views.{GateView}
use Rattle.commit_gate.specs.declared.doubt_outcome.Settled.{Settled}
use Rattle.commit_gate.specs.declared.doubt_outcome.Settled.TheVariants.{Open, Landed, Dropped}

-- whether the event that settles is a landing
abbrev pub landing_in : Event → Option Bool
landing_in event = if settles event then Some (is_landing event) else None

-- by whether the event that settles it is a landing, if there is one, and else by whether it stands below the place where each doubt is
-- decided
abbrev pub settled_by_landing : Option Bool → (below : Bool) → Settled
settled_by_landing (Some landed) below = if landed then Landed else Dropped
settled_by_landing None below = if below then Dropped else Open

abbrev pub settled_as : Option Event → (below : Bool) → Settled
settled_as event below = settled_by_landing (option_map is_landing event) below

-- what became of the doubt of the event at that place
abbrev pub outcome_at : GateView → (place : ℕ) → Settled
outcome_at gate place = settled_as (settling (drop (place + 1) gate.all)) (nat_lt place gate.decided)
