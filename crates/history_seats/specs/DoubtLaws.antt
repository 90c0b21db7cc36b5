-- When a doubt is open, and what a view learns of it.
use Rattle.std.specs.Prelude.{◌≡◌, ◌↔◌, ◌<◌, ◌≤◌, ℕ, Bool, true, false, nat_lt, if◌then◌else◌, List, [], ◌∷◌, ◌++◌, length, Option, Some, None}
use Rattle.std.specs.List.{list_any}
use Rattle.store_model.specs.declared.event.Event.{Event}
use Rattle.store_model.specs.declared.event.Mark.TheVariants.{Unchanged, Doubtful}
use Rattle.store_model.specs.Doubt.{Doubt}
use Rattle.store_model.specs.ReplayState.{ReplayState, replay}
use Rattle.history_seats.specs.Records.{HistoryRecord, concerns_object}
use Rattle.history_seats.specs.Settling.{Pending, calm, settling, is_landing, HasMark, IsOpenDoubt}
use Rattle.history_seats.specs.Mounts.{Mounted}
use Rattle.history_seats.specs.Versions.{committed_in, doubted_in}
use Rattle.history_seats.specs.Known.{version_from}
use Rattle.history_seats.specs.Views.{GateView}
use Rattle.history_seats.specs.Rule.{HasSeen}

-- A doubtful event opens its doubt, from each place up to its own.
abbrev pub DoubtsOpen : Type 0
DoubtsOpen =
    (commit z : ℕ) (records : List HistoryRecord) (r : HistoryRecord) → HasMark (Doubtful commit) r.event → z ≤ length records
    → IsOpenDoubt commit z (records ++ r ∷ [])

-- An event with mark Unchanged leaves the open doubt as it is.
abbrev pub DoubtsStayOpen : Type 0
DoubtsStayOpen =
    (commit z : ℕ) (records : List HistoryRecord) (r : HistoryRecord) → HasMark Unchanged r.event
    → IsOpenDoubt commit z records ↔ IsOpenDoubt commit z (records ++ r ∷ [])

-- The doubt that a replay has open at its end is open in the records.
abbrev pub ReplayedDoubtsAreOpen : Type 0
ReplayedDoubtsAreOpen =
    (start : ReplayState) (records : List HistoryRecord) (doubt : Doubt) → start.doubt ≡ None → (replay start records).doubt ≡ Some doubt
    → IsOpenDoubt doubt.commit 0 records

-- A doubt that a view has open, below the view's place, does not land past the view.
abbrev pub DroppedDoubtsStay : Type 0
DroppedDoubtsStay =
    (those : HistoryRecord → Bool) (z : ℕ) (seen : List HistoryRecord) (gate : GateView) (sees : HasSeen those z seen gate)
    (commit : ℕ) (doubt : IsOpenDoubt commit 0 seen)
    → length doubt.front < z → (event : Event) → settling sees.begins.rest ≡ Some event → is_landing event ≡ false

-- the committed version of these two, with the doubted one where the doubt is open: by the event that settles it, if there is one, and
-- else by whether it stands below the place
abbrev pub learned : {X : Type 0} → Option Event → (below : Bool) → (committed doubted : X) → Pending X
learned (Some event) below committed doubted = if is_landing event then calm doubted else calm committed
learned None below committed doubted = if below then calm committed else record { now = committed; if_landed = Some doubted }

-- What became of a doubt, where no later tag names its file and generation: it landed where a landing settles it; it did not where another
-- event does, or where nothing does and it stands below the view's place.
abbrev pub DoubtsAreLearned : Type 0
DoubtsAreLearned =
    (z file generation commit : ℕ) (mounted : Mounted) (front back : List HistoryRecord) (r : HistoryRecord)
    → HasMark (Doubtful commit) r.event → concerns_object file generation r ≡ true → list_any (concerns_object file generation) back ≡ false
    → version_from z file generation mounted (front ++ r ∷ back)
    ≡ learned (settling back) (nat_lt (length front) z) (committed_in r.tag) (doubted_in r.tag)
