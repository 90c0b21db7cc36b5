-- What contracts see of a session, and when it is a store's.
use Rattle.std.specs.Prelude.{◌≡◌, ◌<◌, ℕ, List, [], ◌∷◌, ◌++◌, length, Option, Some, slice_index_or}
use Rattle.store_model.specs.declared.event.Event.{Event}
use Rattle.store_model.specs.History.{count_of}
use Rattle.store_model.specs.Machine.{Session}
use Rattle.store_model.specs.Record.{events_of}
use Rattle.history_seats.specs.Records.{HistoryRecord}
use Rattle.history_seats.specs.Settling.{IsDecidedBelow, Pending}
use Rattle.history_seats.specs.Known.{session_from}
use Rattle.history_seats.specs.Views.{PassView, Sight}
use Rattle.core_laws.specs.TamperScenarios.{TamperScenario}
use Rattle.core_laws.specs.Stores.{Store, start_under}
use Rattle.core_laws.specs.Answered.{AreAnswered, IsFairHistory}

-- its seat, if that is not lent, its number, how many events it has, and the machine's session as it stands, and once its own commit in
-- doubt landed
pub record SessionValue : Type 0 where
  pub pass : Option (Sight PassView)
  pub number : ℕ
  pub made : ℕ
  pub state : Pending Session

-- The session is one of the store's: under each tamper scenario it stands where its view says.
pub record IsSessionOf (store : Store) (s : SessionValue) : Type 0 where
  pub pass : Sight PassView
  pub is : s.pass ≡ Some pass
  pub table : pass.table ≡ store.table
  pub mounted : pass.knows.mounted ≡ store.mounted
  pub number : s.number ≡ pass.knows.session
  pub known : s.number < length store.mounted.applications
  pub application : (s.state.now).application ≡ slice_index_or store.mounted.applications s.number []
  pub made : s.made ≡ count_of s.number (events_of pass.knows.seen)
  pub state : (scenario : TamperScenario) → AreAnswered store scenario pass.knows.seen
      → session_from pass.knows.decided s.number (start_under store scenario) pass.knows.seen ≡ s.state

-- The view before begins the view after, whose last record is that event's, at this place; between them the session has no event. The
-- whole is fair.
pub record Extends (store : Store) (before after : SessionValue) (event : Event) (place : ℕ) : Type 0 where
  pub old : Sight PassView
  pub new : Sight PassView
  pub was : before.pass ≡ Some old
  pub is : after.pass ≡ Some new
  pub between : List HistoryRecord
  pub last : HistoryRecord
  pub extends : new.knows.seen ≡ (old.knows.seen ++ between) ++ last ∷ []
  pub event_is : last.event ≡ event
  pub none_between : count_of before.number (events_of between) ≡ 0
  pub at : length (old.knows.seen ++ between) ≡ place
  -- a doubt that was decided before does not land
  pub decided : IsDecidedBelow old.knows.decided 0 new.knows.seen
  pub fair : IsFairHistory store new.knows.seen
  pub number : after.number ≡ before.number
