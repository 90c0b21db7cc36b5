-- Choosing bytes in two lists, one part after another.
use Rattle.std.proofs.Common.{◌≡◌, inl, inr, ℕ, ◌+◌, ◌*◌, ◌/◌, ◌-◌, ◌%◌, ◌<◌, ◌≤◌, List, [], ◌∷◌, ◌++◌, length, get_or, take, Bool, true, false, if◌then◌else◌, ◌||◌, refl, sym, ◌∙◌, ap, arith}
use Rattle.std.proofs.lemmas.Bool.{cases_Bool, or_parts, both_ways}
use Rattle.std.proofs.lemmas.Bool.Decides.{nat_tests}
use Rattle.std.proofs.lemmas.List.{take_more, map-append}
use Rattle.std.proofs.lemmas.List.Folds.{list_any-append}
use Rattle.std.proofs.lemmas.Nat.{div-mul-add, div-add-mod'}
use Rattle.disk_model.specs.declared.span.Change.{Change}
use Rattle.disk_model.specs.declared.span.Span.{Span}
use Rattle.disk_model.specs.Images.{in_span, in_spans}
use Rattle.disk_model.specs.State.{spans_of}
use Rattle.mem_files.specs.Crash.{coin}
use Rattle.mem_files.specs.Choices.{Chooses, choice}
use Rattle.mem_files.proofs.Spoilings.{ranged}

choice_same : (is_newer : ℕ → Bool) (s b : List ℕ) (p x : ℕ) → get_or s p 0 ≡ x → get_or b p 0 ≡ x → choice is_newer s b p ≡ x
choice_same is_newer s b p x is_s is_b = either (is_newer p) (get_or b p 0) (get_or s p 0) x is_b is_s
  where
    either : (which : Bool) (y z x : ℕ) → y ≡ x → z ≡ x → (if which then y else z) ≡ x
    either true y z x is_y is_z = is_y
    either false y z x is_y is_z = is_z

choice_kept : (is_newer : ℕ → Bool) (s b t c : List ℕ) (p : ℕ) → get_or t p 0 ≡ get_or s p 0 → get_or c p 0 ≡ get_or b p 0
    → choice is_newer t c p ≡ choice is_newer s b p
choice_kept is_newer s b t c p is_s is_b =
    ap (λ (x : ℕ). if is_newer p then x else get_or t p 0) is_b ∙ ap (λ (x : ℕ). if is_newer p then get_or b p 0 else x) is_s

only_first : (x y w : Bool) → w ≡ (x || y) → w ≡ true → y ≡ false → x ≡ true
only_first true y w is hit out = refl
only_first false true w is hit out = absurd (both_ways true out refl)
only_first false false w is hit out = sym is ∙ hit

-- two steps are one
module _ (first second whole is_newer : ℕ → Bool) (s b s₁ b₁ s₂ b₂ : List ℕ) (even : length b₁ ≡ length b) (joined : (p : ℕ) → whole p ≡ (first p || second p))
    (one : Chooses first is_newer s b s₁ b₁) (two : Chooses second is_newer s₁ b₁ s₂ b₂) where
  again : (p : ℕ) → p < length b → choice is_newer s₁ b₁ p ≡ choice is_newer s b p
  again p lt = elim (cases_Bool (first p)) [
    | inl hit ↦ choice_same is_newer s₁ b₁ p _ (one.settled_in p lt hit) (one.bytes_in p lt hit)
    | inr out ↦ choice_kept is_newer s b s₁ b₁ p (one.settled_out p out) (one.bytes_out p out)
  ]

  outs : (p : ℕ) → whole p ≡ false → (first p ≡ false) × (second p ≡ false)
  outs p out = or_parts (first p) (second p) (sym (joined p) ∙ out)

  pub chooses_then : Chooses whole is_newer s b s₂ b₂
  chooses_then = record {
    settled_in = λ p lt hit. elim (cases_Bool (second p)) [
      | inl now ↦ two.settled_in p (omega (arith, lt, even)) now ∙ again p lt
      | inr out ↦ two.settled_out p out ∙ one.settled_in p lt (only_first (first p) (second p) (whole p) (joined p) hit out)
    ];
    bytes_in = λ p lt hit. elim (cases_Bool (second p)) [
      | inl now ↦ two.bytes_in p (omega (arith, lt, even)) now ∙ again p lt
      | inr out ↦ two.bytes_out p out ∙ one.bytes_in p lt (only_first (first p) (second p) (whole p) (joined p) hit out)
    ];
    settled_out = λ p out. two.settled_out p (outs p out).1 ∙ one.settled_out p (outs p out).0;
    bytes_out = λ p out. two.bytes_out p (outs p out).1 ∙ one.bytes_out p (outs p out).0;
  }

-- only the places that are in matter
pub chooses_like : (is_in is_newer other : ℕ → Bool) (s b settled bytes : List ℕ) → ((p : ℕ) → is_in p ≡ true → is_newer p ≡ other p)
    → Chooses is_in is_newer s b settled bytes → Chooses is_in other s b settled bytes
chooses_like is_in is_newer other s b settled bytes like chosen = record {
  settled_in = λ p lt hit. chosen.settled_in p lt hit ∙ ap (λ (t : Bool). if t then get_or b p 0 else get_or s p 0) (like p hit);
  bytes_in = λ p lt hit. chosen.bytes_in p lt hit ∙ ap (λ (t : Bool). if t then get_or b p 0 else get_or s p 0) (like p hit);
  settled_out = chosen.settled_out;
  bytes_out = chosen.bytes_out;
}

-- a part of a unit is chosen by that unit's coin
same_unit : (at p unit q r : ℕ) → q * unit + r ≡ at → r < unit → at ≤ p → p < at - r + unit → p / unit ≡ q
same_unit at p unit q r is small le lt =
    let e : p ≡ q * unit + (p - q * unit) = omega arith in
    ap (λ (n : ℕ). n / unit) e ∙ div-mul-add q unit (p - q * unit) (omega arith)

in_range : (at upto p : ℕ) → ranged at upto p ≡ true → (at ≤ p) × (p < upto)
in_range at upto p hit = (grind (arith, nat_tests), grind (arith, nat_tests))

ranged_then : (from at upto p : ℕ) → from ≤ at → at ≤ upto → ranged from upto p ≡ (ranged from at p || ranged at upto p)
ranged_then from at upto p le ge = grind (arith, nat_tests)

-- one part more
pub chosen_part : (from at upto unit key : ℕ) (is_newer : Bool) (s b s₁ b₁ s₂ b₂ : List ℕ) → from ≤ at → at ≤ upto → 0 < unit
    → upto ≤ at - at % unit + unit → is_newer ≡ coin key (at / unit)
    → length b₁ ≡ length b
    → Chooses (ranged from at) (λ p. coin key (p / unit)) s b s₁ b₁ → Chooses (ranged at upto) (λ p. is_newer) s₁ b₁ s₂ b₂
    → Chooses (ranged from upto) (λ p. coin key (p / unit)) s b s₂ b₂
chosen_part from at upto unit key is_newer s b s₁ b₁ s₂ b₂ le ge some short is even so_far part =
    chooses_then (ranged from at) (ranged at upto) (ranged from upto) (λ p. coin key (p / unit)) s b s₁ b₁ s₂ b₂ even
    (λ p. ranged_then from at upto p le ge) so_far
    (chooses_like (ranged at upto) (λ p. is_newer) (λ p. coin key (p / unit)) s₁ b₁ s₂ b₂ (λ p hit.
    let range = in_range at upto p hit in
    is ∙ ap (coin key) (sym (same_unit at p unit (at / unit) (at % unit) (div-add-mod' at unit) (omega arith) range.0 (omega (arith, range.1))))) part)

-- one change more
pub chosen_more : (changes : List Change) (i : ℕ) (none : Change) (is_newer : ℕ → Bool) (s b s₁ b₁ s₂ b₂ : List ℕ) → i < length changes
    → length b₁ ≡ length b
    → Chooses (in_spans (spans_of (take i changes))) is_newer s b s₁ b₁ → Chooses (in_span (get_or changes i none).span) is_newer s₁ b₁ s₂ b₂
    → Chooses (in_spans (spans_of (take (i + 1) changes))) is_newer s b s₂ b₂
chosen_more changes i none is_newer s b s₁ b₁ s₂ b₂ lt even so_far now =
    let before = spans_of (take i changes) in
    let change = get_or changes i none in
    chooses_then (in_spans before) (in_span change.span) (in_spans (spans_of (take (i + 1) changes))) is_newer s b s₁ b₁ s₂ b₂ even (λ p.
    ap (λ (l : List Span). in_spans l p) spans ∙ list_any-append (λ (span : Span). in_span span p) before (change.span ∷ [])
    ∙ alone (in_spans before p) (in_span change.span p)) so_far now
  where
    alone : (s t : Bool) → (s || (t || false)) ≡ (s || t)
    alone true t = refl
    alone false true = refl
    alone false false = refl

    spans : spans_of (take (i + 1) changes) ≡ spans_of (take i changes) ++ (get_or changes i none).span ∷ []
    spans = ap spans_of (take_more changes i none lt) ∙ map-append (λ (c : Change). c.span) (take i changes) (get_or changes i none ∷ [])
