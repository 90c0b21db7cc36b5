-- Sectors that a crash spoils.
use Rattle.std.proofs.Common.{◌≡◌, ◌≢◌, inl, inr, ℕ, zero, suc, ◌+◌, ◌*◌, ◌/◌, ◌-◌, ◌^◌, ◌<◌, ◌≤◌, List, [], ◌∷◌, ◌++◌, length, set, take, Bool, true, false, ltb, leb, eqb, min, if◌then◌else◌, ◌||◌, ◌&&◌, refl, sym, ◌∙◌, ap, arith, get_or}
use Rattle.std.proofs.lemmas.Bool.{cases_lt, cases_eq, lt-ltb, le-ltb, le-leb, lt-leb, eq-eqb, ne_eqb, and_left, and_right, and_from}
use Rattle.std.proofs.lemmas.Bool.Decides.{nat_tests}
use Rattle.std.proofs.lemmas.List.{take_more, map-append}
use Rattle.std.proofs.lemmas.List.Folds.{list_any-append}
use Rattle.disk_model.specs.declared.span.Change.{Change}
use Rattle.disk_model.specs.declared.span.Span.{Span}
use Rattle.disk_model.specs.Images.{sector}
use Rattle.disk_model.specs.Sectors.{any_spoils, spoils}
use Rattle.disk_model.specs.State.{spans_of}
use Rattle.mem_files.specs.Crash.{coin, is_hit, noise, noise_over}

-- equal tests hit the same places
pub noise_same : (hit same : ℕ → Bool) (key i : ℕ) (bytes : List ℕ) → ((p : ℕ) → p < i + length bytes → hit p ≡ same p)
    → noise_over hit key i bytes ≡ noise_over same key i bytes
noise_same hit same key i [] each = refl
noise_same hit same key i (b ∷ bytes) each =
    ap (λ (t : Bool). (if t then noise key i else b) ∷ noise_over hit key (i + 1) bytes) (each i (omega arith))
    ∙ ap (λ (l : List ℕ). (if same i then noise key i else b) ∷ l) (noise_same hit same key (i + 1) bytes (λ p lt. each p (omega (arith, lt))))

-- where none is hit all bytes stay
pub noise_nowhere : (hit : ℕ → Bool) (key i : ℕ) (bytes : List ℕ) → ((p : ℕ) → hit p ≡ false) → noise_over hit key i bytes ≡ bytes
noise_nowhere hit key i [] none = refl
noise_nowhere hit key i (b ∷ bytes) none =
    ap (λ (t : Bool). (if t then noise key i else b) ∷ noise_over hit key (i + 1) bytes) (none i)
    ∙ ap (λ (l : List ℕ). b ∷ l) (noise_nowhere hit key (i + 1) bytes none)

both : (c s t : Bool) → ((c && s) || (c && t)) ≡ (c && (s || t))
both true s t = refl
both false s t = refl

-- one hit after another
pub noise_twice : (first second : ℕ → Bool) (key i : ℕ) (bytes : List ℕ)
    → noise_over second key i (noise_over first key i bytes) ≡ noise_over (λ p. first p || second p) key i bytes
noise_twice first second key i [] = refl
noise_twice first second key i (b ∷ bytes) =
    ap (λ (x : ℕ). x ∷ noise_over second key (i + 1) (noise_over first key (i + 1) bytes)) (either (first i) (second i) (noise key i) b)
    ∙ ap (λ (l : List ℕ). (if first i || second i then noise key i else b) ∷ l) (noise_twice first second key (i + 1) bytes)
  where
    either : (s t : Bool) (x y : ℕ) → (if t then x else (if s then x else y)) ≡ (if s || t then x else y)
    either true true x y = refl
    either true false x y = refl
    either false true x y = refl
    either false false x y = refl

-- one place more
noise_set : (hit more : ℕ → Bool) (key i : ℕ) (bytes : List ℕ) (k : ℕ) → more (i + k) ≡ true → ((p : ℕ) → p ≢ i + k → hit p ≡ more p)
    → set (noise_over hit key i bytes) k (noise key (i + k)) ≡ noise_over more key i bytes
noise_set hit more key i [] k here there = refl
noise_set hit more key i (b ∷ bytes) zero here there =
    let e : i + 0 ≡ i = omega arith in
    let hits : more i ≡ true = ap more (sym e) ∙ here in
    ap (λ (n : ℕ). noise key n ∷ noise_over hit key (i + 1) bytes) e
    ∙ ap (λ (l : List ℕ). noise key i ∷ l) (rest hit more key (i + 1) bytes (λ p le. there p (λ is. omega (arith, is, le))))
    ∙ ap (λ (t : Bool). (if t then noise key i else b) ∷ noise_over more key (i + 1) bytes) (sym hits)
  where
    rest : (hit more : ℕ → Bool) (key i : ℕ) (bytes : List ℕ) → ((p : ℕ) → i ≤ p → hit p ≡ more p)
        → noise_over hit key i bytes ≡ noise_over more key i bytes
    rest hit more key i [] each = refl
    rest hit more key i (b ∷ bytes) each =
        ap (λ (t : Bool). (if t then noise key i else b) ∷ noise_over hit key (i + 1) bytes) (each i (omega arith))
        ∙ ap (λ (l : List ℕ). (if more i then noise key i else b) ∷ l) (rest hit more key (i + 1) bytes (λ p le. each p (omega (arith, le))))
noise_set hit more key i (b ∷ bytes) (suc k) here there =
    let e : i + suc k ≡ (i + 1) + k = omega arith in
    ap (λ (t : Bool). (if t then noise key i else b) ∷ set (noise_over hit key (i + 1) bytes) k (noise key (i + suc k)))
    (there i (λ is. omega (arith, is)))
    ∙ ap (λ (n : ℕ). (if more i then noise key i else b) ∷ set (noise_over hit key (i + 1) bytes) k (noise key n)) e
    ∙ ap (λ (l : List ℕ). (if more i then noise key i else b) ∷ l)
    (noise_set hit more key (i + 1) bytes k (ap more (sym e) ∙ here) (λ p ne. there p (λ is. ne (is ∙ e))))

-- the places from one up to another
abbrev pub ranged : ℕ → ℕ → ℕ → Bool
ranged from upto place = leb from place && ltb place upto

pub ranged_none : (from p : ℕ) → ranged from from p ≡ false
ranged_none from p = grind (arith, nat_tests)

pub ranged_at : (from p : ℕ) → from ≤ p → ranged from (p + 1) p ≡ true
ranged_at from p le = grind (arith, nat_tests)

pub ranged_other : (from i p : ℕ) → p ≢ i → ranged from i p ≡ ranged from (i + 1) p
ranged_other from i p ne = grind (arith, nat_tests)

pub noise_next : (key from i : ℕ) (now old : List ℕ) (x : ℕ) → from ≤ i → now ≡ noise_over (ranged from i) key 0 old → x ≡ noise key i
    → set now i x ≡ noise_over (ranged from (i + 1)) key 0 old
noise_next key from i now old x le so_far is =
    let e : 0 + i ≡ i = omega arith in
    ap (λ (l : List ℕ). set l i x) so_far ∙ ap (λ (y : ℕ). set (noise_over (ranged from i) key 0 old) i y) (is ∙ ap (noise key) (sym e))
    ∙ noise_set (ranged from i) (ranged from (i + 1)) key 0 old i (ap (ranged from (i + 1)) e ∙ ranged_at from i le)
    (λ p ne. ranged_other from i p (λ same. ne (same ∙ sym e)))

-- the changes so far and one more
is_hit_more : (changes : List Change) (i key : ℕ) (none : Change) (p : ℕ) → i < length changes
    → (is_hit (spans_of (take i changes)) key p || (coin key (2 ^ 32 + sector p) && spoils (get_or changes i none).span p))
    ≡ is_hit (spans_of (take (i + 1) changes)) key p
is_hit_more changes i key none p lt =
    let before = spans_of (take i changes) in
    let change = get_or changes i none in
    both (coin key (2 ^ 32 + sector p)) (any_spoils before p) (spoils change.span p)
    ∙ ap (λ (b : Bool). coin key (2 ^ 32 + sector p) && b) (sym (
    ap (λ (l : List Span). any_spoils l p) spans ∙ list_any-append (λ (s : Span). spoils s p) before (change.span ∷ [])
    ∙ alone (any_spoils before p) (spoils change.span p)))
  where
    alone : (s t : Bool) → (s || (t || false)) ≡ (s || t)
    alone true t = refl
    alone false true = refl
    alone false false = refl

    spans : spans_of (take (i + 1) changes) ≡ spans_of (take i changes) ++ (get_or changes i none).span ∷ []
    spans = ap spans_of (take_more changes i none lt) ∙ map-append (λ (c : Change). c.span) (take i changes) (get_or changes i none ∷ [])

pub spoiled_none : (key : ℕ) (bytes : List ℕ) → bytes ≡ noise_over (is_hit [] key) key 0 bytes
spoiled_none key bytes = sym (noise_nowhere (is_hit [] key) key 0 bytes (λ p. and_right (coin key (2 ^ 32 + sector p)) false refl))

pub spoiled_more : (changes : List Change) (i key : ℕ) (none : Change) (old now after : List ℕ) → i < length changes
    → now ≡ noise_over (is_hit (spans_of (take i changes)) key) key 0 old
    → after ≡ noise_over (λ p. coin key (2 ^ 32 + sector p) && spoils (get_or changes i none).span p) key 0 now
    → after ≡ noise_over (is_hit (spans_of (take (i + 1) changes)) key) key 0 old
spoiled_more changes i key none old now after lt so_far more =
    more ∙ ap (noise_over (λ p. coin key (2 ^ 32 + sector p) && spoils (get_or changes i none).span p) key 0) so_far
    ∙ noise_twice (is_hit (spans_of (take i changes)) key) (λ p. coin key (2 ^ 32 + sector p) && spoils (get_or changes i none).span p) key 0 old
    ∙ noise_same _ _ key 0 old (λ p low. is_hit_more changes i key none p lt)

-- one sector
sector_hit : (key number from upto count p : ℕ) → coin key (2 ^ 32 + number) ≡ true → from ≡ 512 * number → upto ≡ min count (from + 512) → p < count
    → ranged from upto p ≡ (coin key (2 ^ 32 + sector p) && eqb (sector p) number)
sector_hit key number from upto count p coined is_from is_upto lt = elim (cases_eq (p / 512) number) [
  | inl e ↦
      and_from (leb from p) (ltb p upto) (le-leb from p (omega arith)) (lt-ltb p upto (omega arith))
      ∙ sym (and_from (coin key (2 ^ 32 + p / 512)) (eqb (p / 512) number) (ap (λ (n : ℕ). coin key (2 ^ 32 + n)) e ∙ coined) (eq-eqb (p / 512) number e))
  | inr ne ↦
      (elim (cases_lt p from) [
        | inl low ↦ and_left (leb from p) (ltb p upto) (lt-leb from p low)
        | inr high ↦ and_right (leb from p) (ltb p upto) (le-ltb p upto (omega arith))
      ]) ∙ sym (and_right (coin key (2 ^ 32 + p / 512)) (eqb (p / 512) number) (ne_eqb (p / 512) number ne))
]

pub sector_spoiled : (key number from upto : ℕ) (old now : List ℕ) → coin key (2 ^ 32 + number) ≡ true → from ≡ 512 * number
    → upto ≡ min (length old) (from + 512)
    → now ≡ noise_over (ranged from upto) key 0 old → now ≡ noise_over (λ p. coin key (2 ^ 32 + sector p) && eqb (sector p) number) key 0 old
sector_spoiled key number from upto old now coined is_from is_upto is =
    is ∙ noise_same _ _ key 0 old (λ p lt. sector_hit key number from upto (length old) p coined is_from is_upto (omega (arith, lt)))

pub sector_spared : (key number : ℕ) (old : List ℕ) → coin key (2 ^ 32 + number) ≡ false
    → old ≡ noise_over (λ p. coin key (2 ^ 32 + sector p) && eqb (sector p) number) key 0 old
sector_spared key number old coined = sym (noise_nowhere _ key 0 old (λ p. elim (cases_eq (p / 512) number) [
  | inl e ↦ and_left (coin key (2 ^ 32 + p / 512)) (eqb (p / 512) number) (ap (λ (n : ℕ). coin key (2 ^ 32 + n)) e ∙ coined)
  | inr ne ↦ and_right (coin key (2 ^ 32 + p / 512)) (eqb (p / 512) number) (ne_eqb (p / 512) number ne)
]))

-- some sectors, one after another
pub sectors_none : (key from : ℕ) (bytes : List ℕ) → bytes ≡ noise_over (λ p. coin key (2 ^ 32 + sector p) && ranged from from (sector p)) key 0 bytes
sectors_none key from bytes = sym (noise_nowhere _ key 0 bytes (λ p. and_right (coin key (2 ^ 32 + p / 512)) _ (ranged_none from (p / 512))))

ranged_more : (from i q : ℕ) → from ≤ i → (ranged from i q || eqb q i) ≡ ranged from (i + 1) q
ranged_more from i q le = grind (arith, nat_tests)

pub sectors_more : (key from i : ℕ) (old now after : List ℕ) → from ≤ i
    → now ≡ noise_over (λ p. coin key (2 ^ 32 + sector p) && ranged from i (sector p)) key 0 old
    → after ≡ noise_over (λ p. coin key (2 ^ 32 + sector p) && eqb (sector p) i) key 0 now
    → after ≡ noise_over (λ p. coin key (2 ^ 32 + sector p) && ranged from (i + 1) (sector p)) key 0 old
sectors_more key from i old now after le so_far more =
    more ∙ ap (noise_over (λ p. coin key (2 ^ 32 + sector p) && eqb (sector p) i) key 0) so_far
    ∙ noise_twice (λ p. coin key (2 ^ 32 + sector p) && ranged from i (sector p)) (λ p. coin key (2 ^ 32 + sector p) && eqb (sector p) i) key 0 old
    ∙ noise_same _ _ key 0 old (λ p low.
    both (coin key (2 ^ 32 + p / 512)) (ranged from i (p / 512)) (eqb (p / 512) i)
    ∙ ap (λ (b : Bool). coin key (2 ^ 32 + p / 512) && b) (ranged_more from i (p / 512) le))

-- the sectors that a span meets
meets_range : (span : Span) (count sum end p : ℕ) → 0 < span.length → p < count → sum ≡ min (span.at + span.length) (2 ^ 64 - 1) → end ≡ min sum count
    → count < 2 ^ 64
    → ranged (span.at / 512) ((end + 512 - 1) / 512) (sector p) ≡ spoils span p
meets_range span count sum end p some lt is_sum is_end few = elim (cases_lt (512 * (p / 512)) (span.at + span.length)) [
  | inl meets ↦
      let a : ltb (p / 512) ((end + 512 - 1) / 512) ≡ true = lt-ltb (p / 512) ((end + 512 - 1) / 512) (omega arith) in
      let b : ltb (512 * (p / 512)) (span.at + span.length) ≡ true = lt-ltb (512 * (p / 512)) (span.at + span.length) meets in
      let c : ltb 0 span.length ≡ true = lt-ltb 0 span.length some in
      ap (λ (t : Bool). leb (span.at / 512) (p / 512) && t) (a ∙ sym b)
      ∙ ap (λ (t : Bool). t && (leb (span.at / 512) (p / 512) && ltb (512 * (p / 512)) (span.at + span.length))) (sym c)
  | inr past ↦
      let a : ltb (p / 512) ((end + 512 - 1) / 512) ≡ false = le-ltb (p / 512) ((end + 512 - 1) / 512) (omega arith) in
      let b : ltb (512 * (p / 512)) (span.at + span.length) ≡ false = le-ltb (512 * (p / 512)) (span.at + span.length) past in
      and_right (leb (span.at / 512) (p / 512)) (ltb (p / 512) ((end + 512 - 1) / 512)) a
      ∙ sym (and_right (ltb 0 span.length) _ (and_right (leb (span.at / 512) (p / 512)) (ltb (512 * (p / 512)) (span.at + span.length)) b))
]

pub span_spoiled : (span : Span) (key sum end : ℕ) (old now : List ℕ) → 0 < span.length → sum ≡ min (span.at + span.length) (2 ^ 64 - 1)
    → end ≡ min sum (length old) → length old < 2 ^ 64
    → now ≡ noise_over (λ p. coin key (2 ^ 32 + sector p) && ranged (span.at / 512) ((end + 512 - 1) / 512) (sector p)) key 0 old
    → now ≡ noise_over (λ p. coin key (2 ^ 32 + sector p) && spoils span p) key 0 old
span_spoiled span key sum end old now some is_sum is_end few is =
    is ∙ noise_same _ _ key 0 old (λ p lt.
    ap (λ (b : Bool). coin key (2 ^ 32 + p / 512) && b) (meets_range span (length old) sum end p some (omega (arith, lt)) is_sum is_end few))

pub empty_spoiled : (span : Span) (key : ℕ) (old : List ℕ) → span.length ≡ 0
    → old ≡ noise_over (λ p. coin key (2 ^ 32 + sector p) && spoils span p) key 0 old
empty_spoiled span key old none = sym (noise_nowhere _ key 0 old (λ p.
    and_right (coin key (2 ^ 32 + p / 512)) (spoils span p) (and_left (ltb 0 span.length) _ (le-ltb 0 span.length (omega arith)))))
