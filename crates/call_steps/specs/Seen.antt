-- A session that was shown the history behind the lock.
use Rattle.std.specs.Prelude.{◌≡◌, ◌≤◌, ◌++◌, ℕ, List, length, Some}
use Rattle.store_model.specs.declared.event.Event.{Event}
use Rattle.store_model.specs.History.{count_of}
use Rattle.store_model.specs.Record.{events_of}
use Rattle.history_seats.specs.Records.{HistoryRecord}
use Rattle.history_seats.specs.Views.{GateView, PassView, Sight}
use Rattle.core_laws.specs.Stores.{Store}
use Rattle.core_laws.specs.Sessions.{Extends, SessionValue}
use Rattle.commit_gate.specs.CallerSessions.{CallerSession, IsCallerOf, session_value}
use Rattle.commit_gate.specs.SessionViews.{SeesAll}

-- It is the store's, and sees the whole history.
pub record HasSeen {E : Type 0} (store : Store) (view : GateView) (s : CallerSession E) : Type 0 where
  pub caller : IsCallerOf store s
  pub sees : SeesAll view s.pass
  pub within : view.decided ≤ length view.all

-- The view of the one session begins that of the other, and between them the session has no event.
pub record Continues {E : Type 0} (old new : CallerSession E) : Type 0 where
  pub was : Sight PassView
  pub now : Sight PassView
  pub had : old.pass ≡ Some was
  pub has : new.pass ≡ Some now
  pub between : List HistoryRecord
  pub is : was.knows.seen ++ between ≡ now.knows.seen
  pub none : count_of old.number (events_of between) ≡ 0

-- what extends the view of the one session extends that of the other
abbrev pub ExtendsBack : {E : Type 0} → Store → (old new : CallerSession E) → Type 0
ExtendsBack store old new =
    (after : SessionValue) (event : Event) (place : ℕ) → Extends store (session_value new) after event place → Extends store (session_value old) after event place

-- The later view goes on from the one before, and so does what extends it.
pub record GoesOn {E : Type 0} (store : Store) (old new : CallerSession E) : Type 0 where
  pub continues : Continues old new
  pub extends : ExtendsBack store old new
