-- What contracts see of the journal, and what always holds of its history.
use Rattle.std.specs.Prelude.{◌≡◌, ℕ, List, Some, None}
use Rattle.atomic_table.specs.Seated.{TableId}
use Rattle.store_model.specs.declared.event.Event.{Event}
use Rattle.store_model.specs.Record.{events_of}
use Rattle.store_model.specs.Doubt.{Doubt}
use Rattle.history_seats.specs.Settling.{IsOpenDoubt}
use Rattle.history_seats.specs.Changes.{TagVersions}
use Rattle.history_seats.specs.Views.{GateView, Sight}
use Rattle.core_laws.specs.TamperScenarios.{TamperScenario}
use Rattle.core_laws.specs.Stores.{Store, replay_at}
use Rattle.core_laws.specs.Answered.{AreAnswered, IsFairHistory}
use Rattle.core_laws.specs.Mapped.{IsMappedBoth}

-- the history and the files and sessions whose seats are out, and for how many more events there is room
pub record JournalValue : Type 0 where
  pub knows : GateView
  pub spare : ℕ

-- The history is the store's: it is fair, and wherever all its events are answered the map of objects is in step with it.
pub record IsJournal (store : Store) (gate : GateView) : Type 0 where
  pub mounted : gate.mounted ≡ Some store.mounted
  pub fair : IsFairHistory store gate.all
  pub in_step : (scenario : TamperScenario) → AreAnswered store scenario gate.all → IsMappedBoth store scenario gate.decided gate.all

-- These are the parts of a store's journal: its table, the gate's seat, the events, and the place below which each doubt is decided.
pub record IsJournalOf (store : Store) (table : TableId) (seat : Sight GateView) (events : List Event) (decided : ℕ) : Type 0 where
  pub table_is : table ≡ store.table
  pub seat_is : seat.table ≡ store.table
  pub events_are : events ≡ events_of seat.knows.all
  pub decided_is : decided ≡ seat.knows.decided
  pub kept : IsJournal store seat.knows

-- a tag that names no version
abbrev pub no_versions : TagVersions
no_versions = record { committed = None; doubted = None }

-- Under each tamper scenario where all events are answered, the replay has the doubt of that commit open.
abbrev pub IsDoubtOf : Store → GateView → (commit : ℕ) → Type 0
IsDoubtOf store gate commit =
    (scenario : TamperScenario) → AreAnswered store scenario gate.all
    → (doubt : Doubt) × ((replay_at store scenario gate.all).doubt ≡ Some doubt) × (doubt.commit ≡ commit)

-- While a doubt is open in the records, each such replay has one open.
abbrev pub AreDoubtsHeld : Store → GateView → Type 0
AreDoubtsHeld store gate =
    (commit : ℕ) → IsOpenDoubt commit gate.decided gate.all → (scenario : TamperScenario) → AreAnswered store scenario gate.all
    → (doubt : Doubt) × ((replay_at store scenario gate.all).doubt ≡ Some doubt)
