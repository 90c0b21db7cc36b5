-- The tests by numbers mean what they say.
use Rattle.std.proofs.Common.{◌≡◌, ◌⊎◌, ◌↔◌, inl, inr, ⊎_elim, ℕ, ◌+◌, ◌*◌, List, [], ◌∷◌, Bool, true, false, ◌||◌, leb, ltb, max, IsTrue, refl, sym, ◌∙◌, ap, arith}
use Rattle.std.proofs.lemmas.Bool.{and_from, and_parts, cases_Bool, false≢true, or_left, or_right, le-leb, leb-true, lt-ltb, ltb-true}
use Rattle.disk_model.specs.declared.span.Span.{Span}
use Rattle.disk_model.specs.Images.{AreEmpty, HavePlace, IsSpoiled, in_span, in_spans, sector}
use Rattle.disk_model.specs.Sectors.{spoils, any_spoils, any_has_place}
use Rattle.disk_model.proofs.Spans.{within_span}

-- a span that meets a place's sector has a place there
spoils_at : (s : Span) (p : ℕ) → spoils s p ≡ true → (q : ℕ) × (sector q ≡ sector p) × (in_span s q ≡ true)
spoils_at s p e =
    let some = and_parts (ltb 0 s.length) _ e in
    let near = and_parts (leb (sector s.at) (sector p)) _ some.1 in
    let n = ltb-true 0 s.length some.0 in
    let a = leb-true (sector s.at) (sector p) near.0 in
    let b = ltb-true (512 * sector p) (s.at + s.length) near.1 in
    let q = max s.at (512 * sector p) in
    (q, omega (arith, a), and_from (leb s.at q) (ltb q (s.at + s.length)) (le-leb s.at q (omega arith)) (lt-ltb q (s.at + s.length) (omega (arith, n, b))))

-- and one that has a place there meets it
spoils_from : (s : Span) (p q : ℕ) → sector q ≡ sector p → in_span s q ≡ true → spoils s p ≡ true
spoils_from s p q same hit =
    let w = within_span s q hit in
    and_from (ltb 0 s.length) _ (lt-ltb 0 s.length (omega (arith, w.0, w.1)))
    (and_from (leb (sector s.at) (sector p)) _ (le-leb (sector s.at) (sector p) (omega (arith, w.0, same))) (lt-ltb (512 * sector p) (s.at + s.length) (omega (arith, w.1, same))))

any_at : (spans : List Span) (p : ℕ) → any_spoils spans p ≡ true → IsSpoiled spans p
any_at [] p e = absurd (false≢true e)
any_at (s ∷ spans) p e = elim (cases_Bool (spoils s p)) [
  | inl hit ↦ let at = spoils_at s p hit in (at.0, at.1, or_left (in_span s at.0) (in_spans spans at.0) at.2)
  | inr miss ↦ let rest = any_at spans p (sym (ap (λ (b : Bool). b || any_spoils spans p) miss) ∙ e) in (rest.0, rest.1, or_right (in_span s rest.0) (in_spans spans rest.0) rest.2)
]

any_from : (spans : List Span) (p q : ℕ) → sector q ≡ sector p → in_spans spans q ≡ true → any_spoils spans p ≡ true
any_from [] p q same hit = absurd (false≢true hit)
any_from (s ∷ spans) p q same hit = elim (cases_Bool (in_span s q)) [
  | inl here ↦ or_left (spoils s p) (any_spoils spans p) (spoils_from s p q same here)
  | inr miss ↦ or_right (spoils s p) (any_spoils spans p) (any_from spans p q same (sym (ap (λ (b : Bool). b || in_spans spans q) miss) ∙ hit))
]

pub spoils_iff : (s : Span) (p : ℕ) → IsTrue (spoils s p) ↔ IsSpoiled (s ∷ []) p
spoils_iff s p = (λ e. any_at (s ∷ []) p (or_left (spoils s p) false e), λ at. both (spoils s p) (any_from (s ∷ []) p at.0 at.1 at.2))
  where
    both : (b : Bool) → (b || false) ≡ true → b ≡ true
    both true e = refl
    both false e = e

pub any_spoils_iff : (spans : List Span) (p : ℕ) → IsTrue (any_spoils spans p) ↔ IsSpoiled spans p
any_spoils_iff spans p = (λ e. any_at spans p e, λ at. any_from spans p at.0 at.1 at.2)

-- a place of one of them
place_at : (spans : List Span) → any_has_place spans ≡ true → HavePlace spans
place_at [] e = absurd (false≢true e)
place_at (s ∷ spans) e = elim (cases_Bool (ltb 0 s.length)) [
  | inl some ↦
      let n = ltb-true 0 s.length some in
      (s.at, or_left (in_span s s.at) (in_spans spans s.at) (and_from (leb s.at s.at) (ltb s.at (s.at + s.length)) (le-leb s.at s.at (omega arith)) (lt-ltb s.at (s.at + s.length) (omega (arith, n)))))
  | inr none ↦ let rest = place_at spans (sym (ap (λ (b : Bool). b || any_has_place spans) none) ∙ e) in (rest.0, or_right (in_span s rest.0) (in_spans spans rest.0) rest.1)
]

place_from : (spans : List Span) (p : ℕ) → in_spans spans p ≡ true → any_has_place spans ≡ true
place_from [] p hit = absurd (false≢true hit)
place_from (s ∷ spans) p hit = elim (cases_Bool (in_span s p)) [
  | inl here ↦ let w = within_span s p here in or_left (ltb 0 s.length) (any_has_place spans) (lt-ltb 0 s.length (omega (arith, w.0, w.1)))
  | inr miss ↦ or_right (ltb 0 s.length) (any_has_place spans) (place_from spans p (sym (ap (λ (b : Bool). b || in_spans spans p) miss) ∙ hit))
]

pub any_has_place_iff : (spans : List Span) → IsTrue (any_has_place spans) ↔ HavePlace spans
any_has_place_iff spans = (λ e. place_at spans e, λ at. place_from spans at.0 at.1)

pub empty_or_place : (spans : List Span) → AreEmpty spans ⊎ HavePlace spans
empty_or_place spans = elim (cases_Bool (any_has_place spans)) [
  | inl some ↦ inr (place_at spans some)
  | inr none ↦ inl (λ p. ⊎_elim (λ hit. absurd (false≢true (sym none ∙ place_from spans p hit))) (λ miss. miss) (cases_Bool (in_spans spans p)))
]
