-- What settles behind a doubtful event, past a view.
use Rattle.std.proofs.Common.{◌≡◌, ◌+◌, ℕ, suc, List, [], ◌∷◌, ◌++◌, length, drop, Bool, true, false, true≢false, ◌||◌, Some, refl, ap, ◌∙◌, arith}
use Rattle.std.proofs.lemmas.Bool.{cond-false}
use Rattle.history_seats.specs.Records.{HistoryRecord}
use Rattle.history_seats.specs.Settling.{settles, settling}
use Rattle.history_seats.proofs.Places.{any_settles}

-- what lies behind an event of a list
pub drop_behind : (front : List HistoryRecord) (r : HistoryRecord) (back : List HistoryRecord) → drop (length front + 1) (front ++ r ∷ back) ≡ back
drop_behind [] r back = refl
drop_behind (x ∷ front) r back =
    let n : length (x ∷ front) + 1 ≡ suc (length front + 1) = omega arith in
    ap (λ (m : ℕ). drop m (x ∷ (front ++ r ∷ back))) n ∙ drop_behind front r back

-- where none of the first records settles, the others' first does
pub settling_past : (back rest : List HistoryRecord) → any_settles back ≡ false → settling (back ++ rest) ≡ settling rest
settling_past [] rest none = refl
settling_past (r ∷ back) rest none = one (settles r.event) refl none (settling_past back rest)
  where
    one : (b : Bool) → settles r.event ≡ b → (b || any_settles back) ≡ false → (any_settles back ≡ false → settling (back ++ rest) ≡ settling rest) → settling (r ∷ (back ++ rest)) ≡ settling rest
    one true is off past = absurd (true≢false off)
    one false is off past = cond-false (settles r.event) (Some r.event) (settling (back ++ rest)) is ∙ past off

pub none_past : (back rest : List HistoryRecord) → any_settles back ≡ false → any_settles rest ≡ false → any_settles (back ++ rest) ≡ false
none_past [] rest none off = off
none_past (r ∷ back) rest none off = one (settles r.event) none (λ e. none_past back rest e off)
  where
    one : (b : Bool) → (b || any_settles back) ≡ false → (any_settles back ≡ false → any_settles (back ++ rest) ≡ false) → (b || any_settles (back ++ rest)) ≡ false
    one true e past = e
    one false e past = past e
