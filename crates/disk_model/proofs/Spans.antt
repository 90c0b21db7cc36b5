-- Lists of spans, and where the trail's begin.
use Rattle.std.proofs.Common.{◌≡◌, ◌⊎◌, inl, inr, ⊎_elim, ℕ, zero, suc, ◌+◌, ◌<◌, ◌≤◌, List, [], ◌∷◌, ◌++◌, length, true, false, leb, ltb, drop, refl, ap, subst, arith}
use Rattle.std.proofs.lemmas.Bool.{cases_Bool, or_parts, or_from, leb-false, ltb-false, leb-true, ltb-true, and_cases, and_parts}
use Rattle.disk_model.specs.declared.span.Span.{Span}
use Rattle.disk_model.specs.declared.span.Change.{Change}
use Rattle.disk_model.specs.Images.{in_span, in_spans}
use Rattle.disk_model.specs.State.{spans_of, base_at}

-- a place lies outside a span
pub out_of_span : (s : Span) (p : ℕ) → in_span s p ≡ false → (p < s.at) ⊎ (s.at + s.length ≤ p)
out_of_span s p e = ⊎_elim (λ low. inl (leb-false s.at p low)) (λ high. inr (ltb-false p (s.at + s.length) high)) (and_cases (leb s.at p) (ltb p (s.at + s.length)) e)

-- a place lies in a span
pub within_span : (s : Span) (p : ℕ) → in_span s p ≡ true → (s.at ≤ p) × (p < s.at + s.length)
within_span s p e = let both = and_parts (leb s.at p) (ltb p (s.at + s.length)) e in (leb-true s.at p both.0, ltb-true p (s.at + s.length) both.1)

pub in_spans-append : (a b : List Span) (p : ℕ) → in_spans a p ≡ false → in_spans b p ≡ false → in_spans (a ++ b) p ≡ false
in_spans-append [] b p e f = f
in_spans-append (s ∷ a) b p e f = let parts = or_parts (in_span s p) (in_spans a p) e in or_from (in_span s p) (in_spans (a ++ b) p) parts.0 (in_spans-append a b p parts.1 f)

pub in_spans_front : (a b : List Span) (p : ℕ) → in_spans (a ++ b) p ≡ false → in_spans a p ≡ false
in_spans_front [] b p e = refl
in_spans_front (s ∷ a) b p e = let parts = or_parts (in_span s p) (in_spans (a ++ b) p) e in or_from (in_span s p) (in_spans a p) parts.0 (in_spans_front a b p parts.1)

pub in_spans_back : (a b : List Span) (p : ℕ) → in_spans (a ++ b) p ≡ false → in_spans b p ≡ false
in_spans_back [] b p e = e
in_spans_back (s ∷ a) b p e = in_spans_back a b p ((or_parts (in_span s p) (in_spans (a ++ b) p) e).1)

-- one span alone
pub one_span : (s : Span) (p : ℕ) → in_span s p ≡ false → in_spans (s ∷ []) p ≡ false
one_span s p out = or_from (in_span s p) false out refl

pub alone : (s : Span) (p : ℕ) → in_spans (s ∷ []) p ≡ false → in_span s p ≡ false
alone s p e = (or_parts (in_span s p) false e).0

-- a span with no place
pub no_place : (s : Span) (p : ℕ) → (in_span s p ≡ true → ⊥) → in_span s p ≡ false
no_place s p never = ⊎_elim (λ hit. absurd (never hit)) (λ miss. miss) (cases_Bool (in_span s p))

pub spans_of-append : (a b : List Change) → spans_of (a ++ b) ≡ spans_of a ++ spans_of b
spans_of-append [] b = refl
spans_of-append (c ∷ a) b = ap (λ (l : List Span). c.span ∷ l) (spans_of-append a b)

-- a place outside the spans from n on lies outside those from m on
pub in_spans_drop : (n m : ℕ) (cs : List Change) (p : ℕ) → n ≤ m → in_spans (spans_of (drop n cs)) p ≡ false → in_spans (spans_of (drop m cs)) p ≡ false
in_spans_drop n zero cs p le e = let z : n ≡ 0 = omega arith in subst (λ (k : ℕ). in_spans (spans_of (drop k cs)) p ≡ false) z e
in_spans_drop n (suc m) [] p le e = refl
in_spans_drop zero (suc m) (c ∷ cs) p le e = in_spans_drop zero m cs p (omega arith) ((or_parts (in_span c.span p) (in_spans (spans_of cs) p) e).1)
in_spans_drop (suc n) (suc m) (c ∷ cs) p le e = in_spans_drop n m cs p (omega arith) e

pub drop_push : (n : ℕ) (cs : List Change) (c : Change) → n ≤ length cs → spans_of (drop n (cs ++ c ∷ [])) ≡ spans_of (drop n cs) ++ c.span ∷ []
drop_push zero cs c le = spans_of-append cs (c ∷ [])
drop_push (suc n) [] c le = absurd (omega arith)
drop_push (suc n) (d ∷ cs) c le = drop_push n cs c (omega arith)

pub base_now : (cs : List Change) (now : ℕ) → base_at cs now (length cs) ≡ now
base_now [] now = refl
base_now (c ∷ cs) now = base_now cs now

pub base_push : (cs : List Change) (c : Change) (now later t : ℕ) → c.base ≡ now → t ≤ length cs → base_at (cs ++ c ∷ []) later t ≡ base_at cs now t
base_push [] c now later zero is le = is
base_push [] c now later (suc t) is le = absurd (omega arith)
base_push (d ∷ cs) c now later zero is le = refl
base_push (d ∷ cs) c now later (suc t) is le = base_push cs c now later t is (omega arith)

pub base_past : (cs : List Change) (now t : ℕ) → length cs ≤ t → base_at cs now t ≡ now
base_past [] now t le = refl
base_past (c ∷ cs) now zero le = absurd (omega arith)
base_past (c ∷ cs) now (suc t) le = base_past cs now t (omega arith)
