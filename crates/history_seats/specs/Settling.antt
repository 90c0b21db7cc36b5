-- Commits in doubt, the events that settle them (a landing, and every later commit, made or in doubt), and what a place decides.
use Rattle.std.specs.Prelude.{◌≡◌, ◌≤◌, ℕ, suc, Bool, true, false, not, ◌&&◌, if◌then◌else◌, nat_lt, nat_le, List, [], ◌∷◌, ◌++◌, length, drop, Option, Some, None, find, unwrap_or}
use Rattle.std.specs.List.{list_any}
use Rattle.store_model.specs.declared.event.Event.{Event}
use Rattle.store_model.specs.declared.event.Event.TheVariants.{Call as CallEvent, Landed}
use Rattle.store_model.specs.declared.event.Mark.{Mark}
use Rattle.store_model.specs.declared.event.Mark.TheVariants.{Unchanged, Made, Doubtful}
use Rattle.store_model.specs.Record.{events_of}
use Rattle.history_seats.specs.Records.{HistoryRecord}

abbrev pub is_settling_mark : Mark → Bool
is_settling_mark Unchanged = false
is_settling_mark (Made commit) = true
is_settling_mark (Doubtful commit) = true

abbrev pub is_doubtful_mark : Mark → Bool
is_doubtful_mark (Doubtful commit) = true
is_doubtful_mark _ = false

abbrev pub is_made_mark : Mark → Bool
is_made_mark (Made commit) = true
is_made_mark _ = false

-- the event makes a commit
abbrev pub is_made : Event → Bool
is_made (CallEvent session number call reply mark) = is_made_mark mark
is_made (Landed commit) = false

-- the event is a call whose commit was made or is in doubt
abbrev pub commits : Event → Bool
commits (CallEvent session number call reply mark) = is_settling_mark mark
commits (Landed commit) = false

-- the event settles the doubt that is open before it
abbrev pub settles : Event → Bool
settles (CallEvent session number call reply mark) = is_settling_mark mark
settles (Landed commit) = true

abbrev pub is_landing : Event → Bool
is_landing (CallEvent session number call reply mark) = false
is_landing (Landed commit) = true

-- the event leaves its own commit in doubt
abbrev pub is_doubtful : Event → Bool
is_doubtful (CallEvent session number call reply mark) = is_doubtful_mark mark
is_doubtful (Landed commit) = false

abbrev pub HasMark : Mark → Event → Type 0
HasMark mark (CallEvent session number call reply m) = m ≡ mark
HasMark mark (Landed commit) = ⊥

-- the first event of these records that settles a doubt from before them
abbrev pub settling : List HistoryRecord → Option Event
settling records = find settles (events_of records)

-- A value that commits change, and the value that it has once the commit in doubt landed.
pub record Pending (X : Type 0) : Type 0 where
  pub now : X
  pub if_landed : Option X

-- a value that no doubt touches
abbrev pub calm : {X : Type 0} → X → Pending X
calm x = record { now = x; if_landed = None }

abbrev pub as_landed : {X : Type 0} → Pending X → Pending X
as_landed p = record { now = unwrap_or p.if_landed p.now; if_landed = None }

abbrev pub dropped : {X : Type 0} → Pending X → Pending X
dropped p = record { now = p.now; if_landed = None }

abbrev pub settled_by_mark : {X : Type 0} → Mark → Pending X → Pending X
settled_by_mark Unchanged p = p
settled_by_mark (Made commit) p = dropped p
settled_by_mark (Doubtful commit) p = dropped p

-- what an event does to a value that it does not change by itself: a landing lands the doubt, and a commit drops it
abbrev pub settled_by : {X : Type 0} → Event → Pending X → Pending X
settled_by (CallEvent session number call reply mark) p = settled_by_mark mark p
settled_by (Landed commit) p = as_landed p

-- the same for the event that settles, if there is one
abbrev pub settled : {X : Type 0} → Option Event → Pending X → Pending X
settled None p = p
settled (Some event) p = settled_by event p

-- What stands of a value after these records where each doubt below z is decided: if no event at z or later settles, the doubt that is
-- open stands below z, and did not land.
abbrev pub open_from : {X : Type 0} → ℕ → List HistoryRecord → Pending X → Pending X
open_from z records p = if list_any settles (events_of (drop z records)) then p else dropped p

-- where the records begin at that place, no landing at z or later is the first of them to settle
abbrev pub is_early : (z place : ℕ) → List HistoryRecord → Bool
is_early z place [] = true
is_early z place (r ∷ records) =
    if settles r.event then not (is_landing r.event && nat_le z place) else is_early z (suc place) records

-- Each doubt below z is decided: where the records begin at that place, no doubtful event below z is settled by a landing at z or later.
abbrev pub IsDecidedBelow : (z place : ℕ) → List HistoryRecord → Type 0
IsDecidedBelow z place [] = Unit {0}
IsDecidedBelow z place (r ∷ records) =
    (is_doubtful r.event ≡ true → nat_lt place z ≡ true → is_early z (suc place) records ≡ true) × IsDecidedBelow z (suc place) records

-- The last event that settles is the doubtful one of that commit, and stands at z or later.
pub record IsOpenDoubt (commit z : ℕ) (records : List HistoryRecord) : Type 0 where
  pub front : List HistoryRecord
  pub doubted : HistoryRecord
  pub back : List HistoryRecord
  pub is : front ++ doubted ∷ back ≡ records
  pub marked : HasMark (Doubtful commit) doubted.event
  pub last : list_any settles (events_of back) ≡ false
  pub late : z ≤ length front
