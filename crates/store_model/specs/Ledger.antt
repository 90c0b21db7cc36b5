-- What contracts see of a history: its events, and for how many more there is room.
use Rattle.std.specs.Prelude.{ℕ, List}
use Rattle.store_model.specs.declared.event.Event.{Event}

pub record Ledger : Type 0 where
  pub events : List Event
  pub spare : ℕ
