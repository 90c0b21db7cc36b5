-- Places below which each doubt is decided.
use Rattle.std.proofs.Common.{◌≡◌, ◌⊎◌, ℕ, suc, ◌+◌, ◌<◌, ◌≤◌, List, [], ◌∷◌, ◌++◌, length, Bool, true, false, true≢false, cond, not, ◌&&◌, refl, sym, ap, ◌∙◌, inl, inr, ⊎_elim, arith}
use Rattle.std.proofs.lemmas.Bool.{le-leb, lt-leb, lt-ltb}
use borrow.Author.Tests.{ltb-true}
use Rattle.std.specs.Prelude.{nat_le}
use Rattle.std.specs.List.{list_any}
use Rattle.store_model.specs.declared.event.Event.{Event}
use Rattle.store_model.specs.declared.event.Event.TheVariants.{Call as CallEvent, Landed}
use Rattle.store_model.specs.declared.event.Mark.TheVariants.{Doubtful}
use Rattle.store_model.specs.Record.{events_of}
use Rattle.history_seats.specs.Records.{HistoryRecord}
use Rattle.history_seats.specs.Settling.{is_settling_mark, settles, is_landing, HasMark, is_early, IsDecidedBelow}
use Rattle.history_seats.proofs.Lists.{or_left, or_right, or_second}

either_true : (b c d : Bool) → c ≡ true → d ≡ true → cond b c d ≡ true
either_true true c d e f = e
either_true false c d e f = f

off_first : (b c : Bool) → b ≡ false → not (b && c) ≡ true
off_first b c e = rw e refl

off_second : (b c : Bool) → c ≡ false → not (b && c) ≡ true
off_second true c e = rw e refl
off_second false c e = refl

next : (b c p q : Bool) → cond b c p ≡ true → (b ≡ false → p ≡ true → q ≡ true) → cond b c q ≡ true
next true c p q h f = h
next false c p q h f = f refl h

-- a record behind the others is no late landing where it is none, or where another settles before it
early-snoc : (z k : ℕ) (rs : List HistoryRecord) (r : HistoryRecord) → is_early z k rs ≡ true → (list_any settles (events_of rs) ≡ true) ⊎ (is_landing r.event ≡ false) → is_early z k (rs ++ r ∷ []) ≡ true
early-snoc z k [] r n (inl e) = absurd (true≢false (sym e))
early-snoc z k [] r n (inr e) = either_true (settles r.event) (not (is_landing r.event && nat_le z k)) true (off_first (is_landing r.event) (nat_le z k) e) refl
early-snoc z k (x ∷ rs) r n o =
    next (settles x.event) (not (is_landing x.event && nat_le z k)) (is_early z (suc k) rs) (is_early z (suc k) (rs ++ r ∷ [])) n
    (λ none m. early-snoc z (suc k) rs r m (⊎_elim (λ any. inl (or_second (settles x.event) (list_any settles (events_of rs)) any none)) (λ e. inr e) o))

any_within : (front : List HistoryRecord) (d : HistoryRecord) (back : List HistoryRecord) → settles d.event ≡ true → list_any settles (events_of (front ++ d ∷ back)) ≡ true
any_within [] d back e = or_left (settles d.event) (list_any settles (events_of back)) e
any_within (x ∷ front) d back e = or_right (settles x.event) (list_any settles (events_of (front ++ d ∷ back))) (any_within front d back e)

-- from the place on none is below it
decided-above : (z k : ℕ) (rs : List HistoryRecord) → z ≤ k → IsDecidedBelow z k rs
decided-above z k [] le = tt
decided-above z k (r ∷ rs) le = ((λ d l. let lt : k < z = ltb-true k z l in absurd (omega arith)), decided-above z (suc k) rs (omega arith))

-- where all stand below the place none is late
early-whole : (z k : ℕ) (rs : List HistoryRecord) → k + length rs ≤ z → is_early z k rs ≡ true
early-whole z k [] le = refl
early-whole z k (r ∷ rs) le =
    either_true (settles r.event) (not (is_landing r.event && nat_le z k)) (is_early z (suc k) rs)
    (off_second (is_landing r.event) (nat_le z k) (lt-leb z k (omega arith)))
    (early-whole z (suc k) rs (omega arith))

pub decided-whole : (z k : ℕ) (rs : List HistoryRecord) → k + length rs ≤ z → IsDecidedBelow z k rs
decided-whole z k [] le = tt
decided-whole z k (r ∷ rs) le = ((λ d l. early-whole z (suc k) rs (omega arith)), decided-whole z (suc k) rs (omega arith))

-- one more record that is no landing
pub decided-snoc : (z k : ℕ) (rs : List HistoryRecord) (r : HistoryRecord) → IsDecidedBelow z k rs → is_landing r.event ≡ false → IsDecidedBelow z k (rs ++ r ∷ [])
decided-snoc z k [] r s e = ((λ d l. refl), tt)
decided-snoc z k (x ∷ rs) r s e = ((λ d l. early-snoc z (suc k) rs r (s.0 d l) (inr e)), decided-snoc z (suc k) rs r s.1 e)

-- a landing that settles an event at the place or later
pub decided-lands : (z k : ℕ) (front : List HistoryRecord) (d : HistoryRecord) (back : List HistoryRecord) (r : HistoryRecord) → z ≤ k + length front → settles d.event ≡ true
    → IsDecidedBelow z k (front ++ d ∷ back) → IsDecidedBelow z k ((front ++ d ∷ back) ++ r ∷ [])
decided-lands z k [] d back r le is s = decided-above z k (d ∷ (back ++ r ∷ [])) (omega arith)
decided-lands z k (x ∷ front) d back r le is s = (
  (λ q l. early-snoc z (suc k) (front ++ d ∷ back) r (s.0 q l) (inl (any_within front d back is))),
  decided-lands z (suc k) front d back r (omega arith) is s.1,
)

either : (b a c p q : Bool) → cond b a p ≡ true → (a ≡ true → c ≡ true) → (p ≡ true → q ≡ true) → cond b c q ≡ true
either true a c p q h f g = f h
either false a c p q h f g = g h

either_both : (b a c p q r : Bool) → cond b a p ≡ true → cond b c q ≡ true → (p ≡ true → q ≡ true → r ≡ true) → cond b a r ≡ true
either_both true a c p q r h i f = h
either_both false a c p q r h i f = f h i

not_first : (b c : Bool) → c ≡ true → not (b && c) ≡ true → b ≡ false
not_first true c is h = absurd (true≢false (sym h ∙ ap not is))
not_first false c is h = refl

-- what is decided below a place, and stays so below a later one past these records, stays so with more behind them
early-lower : (z y k : ℕ) (more : List HistoryRecord) → z ≤ y → y ≤ k → is_early y k more ≡ true → is_early z k more ≡ true
early-lower z y k [] le within e = refl
early-lower z y k (x ∷ more) le within e =
    either (settles x.event) (not (is_landing x.event && nat_le y k)) (not (is_landing x.event && nat_le z k)) (is_early y (suc k) more) (is_early z (suc k) more) e
    (λ h. off_first (is_landing x.event) (nat_le z k) (not_first (is_landing x.event) (nat_le y k) (le-leb y k within) h))
    (λ h. early-lower z y (suc k) more le (omega (arith, within)) h)

early-on : (z y k : ℕ) (rs more : List HistoryRecord) → z ≤ y → y ≤ k + length rs → is_early z k rs ≡ true → is_early y k (rs ++ more) ≡ true → is_early z k (rs ++ more) ≡ true
early-on z y k [] more le within e f = early-lower z y k more le (omega (arith, within)) f
early-on z y k (x ∷ rs) more le within e f =
    either_both (settles x.event) (not (is_landing x.event && nat_le z k)) (not (is_landing x.event && nat_le y k)) (is_early z (suc k) rs) (is_early y (suc k) (rs ++ more))
    (is_early z (suc k) (rs ++ more)) e f (λ h i. early-on z y (suc k) rs more le (omega (arith, within)) h i)

pub decided-on : (z y k : ℕ) (rs more : List HistoryRecord) → z ≤ y → y ≤ k + length rs → IsDecidedBelow z k rs → IsDecidedBelow y k (rs ++ more) → IsDecidedBelow z k (rs ++ more)
decided-on z y k [] more le within s t = decided-above z k more (omega (arith, le, within))
decided-on z y k (x ∷ rs) more le within s t = (
  (λ d l. early-on z y (suc k) rs more le (omega (arith, within)) (s.0 d l) (t.0 d (lt-ltb k y (below (ltb-true k z l))))),
  decided-on z y (suc k) rs more le (omega (arith, within)) s.1 t.1,
)
  where
    below : k < z → k < y
    below lt = omega (arith, lt, le)

-- a doubtful event settles the doubt before it
pub marked-settles : (commit : ℕ) (event : Event) → HasMark (Doubtful commit) event → settles event ≡ true
marked-settles commit (CallEvent session number call reply mark) e = ap is_settling_mark e
marked-settles commit (Landed n) e = absurd e
