-- The first event from a place on that settles, and whether it is a landing.
use Rattle.std.proofs.Common.{◌≡◌, ◌+◌, ◌≤◌, ◌<◌, ℕ, zero, suc, Bool, true, false, List, [], ◌∷◌, length, drop, Some, None, refl, sym, ap, ◌∙◌, cond, arith, option_and_then, option_map, add-one}
use Rattle.std.specs.Prelude.{find, slice_get}
use Rattle.std.proofs.lemmas.Bool.{cond-true, cond-false}
use Rattle.store_model.specs.declared.event.Event.{Event}
use Rattle.store_model.specs.Record.{events_of}
use Rattle.history_seats.specs.Records.{HistoryRecord}
use Rattle.history_seats.specs.Settling.{is_landing, settles, settling}
use Rattle.commit_gate.specs.Outcomes.{landing_in}

none_or : (b c : Bool) → cond b (Some c) None ≡ None → b ≡ false
none_or true c e = absurd (cc (e))
none_or false c e = refl

some_or : (b c d : Bool) → cond b (Some c) None ≡ Some d → (b ≡ true) × (c ≡ d)
some_or true c d e = (refl, cc)
some_or false c d e = absurd (cc (e))

passed : (events : List Event) (place : ℕ) → place < length events → option_and_then landing_in (slice_get events place) ≡ None
    → find settles (drop (suc place) events) ≡ find settles (drop place events)
passed [] place lt none = absurd (omega (arith, lt))
passed (x ∷ events) zero lt none = sym (cond-false (settles x) (Some x) (find settles events) (none_or (settles x) (is_landing x) none))
passed (x ∷ events) (suc place) lt none = passed events place (omega (arith, lt)) none

-- an event that does not settle is passed
pub find_step : (events : List Event) (place : ℕ) → place < length events → option_and_then landing_in (slice_get events place) ≡ None
    → find settles (drop (place + 1) events) ≡ find settles (drop place events)
find_step events place lt none = rw add-one (passed events place lt none)

-- one that settles is the first
pub find_hit : (events : List Event) (place : ℕ) (landed : Bool) → option_and_then landing_in (slice_get events place) ≡ Some landed
    → option_map is_landing (find settles (drop place events)) ≡ Some landed
find_hit [] place landed hit = absurd (cc (hit))
find_hit (x ∷ events) zero landed hit =
    let parts = some_or (settles x) (is_landing x) landed hit in
    ap (option_map is_landing) (cond-true (settles x) (Some x) (find settles events) parts.0) ∙ ap Some parts.1
find_hit (x ∷ events) (suc place) landed hit = find_hit events place landed hit

-- past the last there is none
pub find_end : (events : List Event) (place : ℕ) → length events ≤ place → find settles (drop place events) ≡ None
find_end [] zero le = refl
find_end [] (suc place) le = refl
find_end (x ∷ events) zero le = absurd (omega (arith, le))
find_end (x ∷ events) (suc place) le = find_end events place (omega (arith, le))

-- the events behind a place
pub settling_behind : (records : List HistoryRecord) (place : ℕ) → find settles (drop place (events_of records)) ≡ settling (drop place records)
settling_behind [] zero = refl
settling_behind [] (suc place) = refl
settling_behind (r ∷ records) zero = refl
settling_behind (r ∷ records) (suc place) = settling_behind records place
