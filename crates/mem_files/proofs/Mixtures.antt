-- A mixture of two lists, made in place.
use Rattle.std.proofs.Common.{◌≡◌, inl, inr, ℕ, zero, suc, ◌+◌, ◌-◌, ◌<◌, List, [], ◌∷◌, ◌++◌, length, get_or, take, drop, Bool, true, false, ◌==◌, if◌then◌else◌, refl, sym, ◌∙◌, ap, subst, arith, length-append, length-drop}
use Rattle.std.proofs.lemmas.Bool.{cases_lt, cases_Bool}
use Rattle.std.proofs.lemmas.List.{append-nil, ext_get_or, get_or_append_left, get_or-append_right, get_or-drop, get_or-take, length-take}
use Rattle.disk_model.specs.declared.span.Span.{Span}
use Rattle.disk_model.specs.Images.{Has, in_spans}
use Rattle.mem_files.specs.Choices.{Chooses, choice, evened, united}
use Rattle.mem_files.specs.Crash.{crash_mixture, mixture}
use Rattle.mem_files.specs.Held.{DifferIn}

module _ (is_newer : ℕ → Bool) where
  -- of two equal lists it is either
  pub mixture_alike : (is_long : Bool) (i : ℕ) (bytes : List ℕ) → mixture is_newer is_long i bytes bytes ≡ bytes
  mixture_alike true i [] = refl
  mixture_alike false i [] = refl
  mixture_alike is_long i (b ∷ bytes) =
      ap (λ (x : ℕ). x ∷ mixture is_newer is_long (i + 1) bytes bytes) (either (is_newer i) b)
      ∙ ap (λ (l : List ℕ). b ∷ l) (mixture_alike is_long (i + 1) bytes)
    where
      either : (which : Bool) (x : ℕ) → (if which then x else x) ≡ x
      either true x = refl
      either false x = refl

  -- the end of the longer one may go to both first, or to neither
  pub mixture-evened : (is_long : Bool) (i : ℕ) (s b : List ℕ)
      → mixture is_newer is_long i (evened is_long s b) (evened is_long b s) ≡ mixture is_newer is_long i s b
  mixture-evened true i [] b = ap (λ (l : List ℕ). mixture is_newer true i b l) (nothing b) ∙ mixture_alike true i b
    where
      nothing : (b : List ℕ) → b ++ drop (length b) [] ≡ b
      nothing [] = refl
      nothing (x ∷ b) = append-nil (x ∷ b)
  mixture-evened false i [] b = ap (λ (l : List ℕ). mixture is_newer false i l []) (none (length b))
    where
      none : (n : ℕ) → take {A = ℕ} n [] ≡ []
      none zero = refl
      none (suc n) = refl
  mixture-evened true i (a ∷ s) [] = ap (λ (l : List ℕ). mixture is_newer true i l (a ∷ s)) (append-nil (a ∷ s)) ∙ mixture_alike true i (a ∷ s)
  mixture-evened false i (a ∷ s) [] = refl
  mixture-evened true i (a ∷ s) (b ∷ bs) = ap (λ (l : List ℕ). (if is_newer i then b else a) ∷ l) (mixture-evened true (i + 1) s bs)
  mixture-evened false i (a ∷ s) (b ∷ bs) = ap (λ (l : List ℕ). (if is_newer i then b else a) ∷ l) (mixture-evened false (i + 1) s bs)

  pub length-mixture : (is_long : Bool) (i : ℕ) (s b : List ℕ) → length s ≡ length b → length (mixture is_newer is_long i s b) ≡ length b
  length-mixture true i [] b same = refl
  length-mixture false i [] b same = same
  length-mixture is_long i (a ∷ s) [] same = absurd (omega (arith, same))
  length-mixture is_long i (a ∷ s) (b ∷ bs) same = ap suc (length-mixture is_long (i + 1) s bs (omega (arith, same)))

  mixture_from : (is_long : Bool) (i : ℕ) (s b : List ℕ) (p : ℕ) → p < length s → p < length b
      → get_or (mixture is_newer is_long i s b) p 0 ≡ (if is_newer (i + p) then get_or b p 0 else get_or s p 0)
  mixture_from is_long i [] b p lt gt = absurd (omega (arith, lt))
  mixture_from is_long i (a ∷ s) [] p lt gt = absurd (omega (arith, gt))
  mixture_from is_long i (a ∷ s) (b ∷ bs) zero lt gt = ap (λ (n : ℕ). if is_newer n then b else a) (let e : i ≡ i + 0 = omega arith in e)
  mixture_from is_long i (a ∷ s) (b ∷ bs) (suc p) lt gt =
      mixture_from is_long (i + 1) s bs p (omega (arith, lt)) (omega (arith, gt))
      ∙ ap (λ (n : ℕ). if is_newer n then get_or bs p 0 else get_or s p 0) (let e : (i + 1) + p ≡ i + suc p = omega arith in e)

  -- at a place that both have it has the byte of one of them
  pub mixture_at : (is_long : Bool) (s b : List ℕ) (p : ℕ) → p < length s → p < length b
      → get_or (mixture is_newer is_long 0 s b) p 0 ≡ choice is_newer s b p
  mixture_at is_long s b p lt gt =
      mixture_from is_long 0 s b p lt gt ∙ ap (λ (n : ℕ). if is_newer n then get_or b p 0 else get_or s p 0) (let e : 0 + p ≡ p = omega arith in e)

pub length-evened : (is_long : Bool) (s b : List ℕ) → length (evened is_long s b) ≡ length (evened is_long b s)
length-evened true s b =
    omega (arith, length-append s (drop (length s) b), length-drop (length s) b, length-append b (drop (length b) s), length-drop (length b) s)
length-evened false s b = omega (arith, length-take (length b) s, length-take (length s) b)

-- outside the spans the two have the same bytes then too
evened_has : (is_long : Bool) (s b : List ℕ) (p x : ℕ) → (Has s p x → Has b p x) → Has (evened is_long s b) p x → Has (evened is_long b s) p x
evened_has true s b p x to has = elim (cases_lt p (length s)) [
  | inl low ↦
      let mine : Has s p x = record { below = low; is = sym (get_or_append_left s (drop (length s) b) 0 p low) ∙ has.is } in
      let other = to mine in
      record {
        below = omega (arith, other.below, length-append b (drop (length b) s));
        is = get_or_append_left b (drop (length b) s) 0 p other.below ∙ other.is;
      }
  | inr high ↦
      let within : p < length b = omega (arith, has.below, high, length-append s (drop (length s) b), length-drop (length s) b) in
      let e : length s + (p - length s) ≡ p = omega (arith, high) in
      let is : get_or b p 0 ≡ x =
      ap (λ (n : ℕ). get_or b n 0) (sym e) ∙ sym (get_or-drop (length s) b (p - length s) 0)
      ∙ sym (get_or-append_right s (drop (length s) b) (length s) p 0 refl high) ∙ has.is in
      record {
        below = omega (arith, within, length-append b (drop (length b) s));
        is = get_or_append_left b (drop (length b) s) 0 p within ∙ is;
      }
]
evened_has false s b p x to has =
    let low : p < length b = omega (arith, has.below, length-take (length b) s) in
    let mine_low : p < length s = omega (arith, has.below, length-take (length b) s) in
    let other = to (record { below = mine_low; is = sym (get_or-take (length b) s p 0 low) ∙ has.is }) in
    record { below = omega (arith, low, mine_low, length-take (length s) b); is = get_or-take (length s) b p 0 mine_low ∙ other.is }

pub differ-evened : (spans : List Span) (is_long : Bool) (s b : List ℕ) → DifferIn spans s b
    → DifferIn spans (evened is_long s b) (evened is_long b s)
differ-evened spans is_long s b differ =
    λ p x free. (evened_has is_long s b p x (differ p x free).0, evened_has is_long b s p x (differ p x free).1)

pub differ_turned : (spans : List Span) (s b : List ℕ) → DifferIn spans s b → DifferIn spans b s
differ_turned spans s b differ = λ p x free. ((differ p x free).1, (differ p x free).0)

module _ (spans : List Span) (is_newer : ℕ → Bool) (s b settled bytes : List ℕ) (even : length s ≡ length b) (differ : DifferIn spans s b)
    (chosen : Chooses (in_spans spans) is_newer s b settled bytes) where
  -- outside the spans it does not matter which is chosen
  kept : (p : ℕ) → p < length b → in_spans spans p ≡ false → (get_or s p 0 ≡ choice is_newer s b p) × (get_or b p 0 ≡ choice is_newer s b p)
  kept p lt free =
      let same : get_or b p 0 ≡ get_or s p 0 = ((differ p (get_or s p 0) free).0 (record { below = omega (arith, lt, even); is = refl })).is in
      either (is_newer p) (get_or s p 0) (get_or b p 0) same
    where
      either : (which : Bool) (x y : ℕ) → y ≡ x → (x ≡ (if which then y else x)) × (y ≡ (if which then y else x))
      either true x y same = (sym same, refl)
      either false x y same = (refl, same)

  pub mixture_bytes : (is_long : Bool) → length bytes ≡ length b → bytes ≡ mixture is_newer is_long 0 s b
  mixture_bytes is_long same =
      ext_get_or 0 bytes (mixture is_newer is_long 0 s b) (same ∙ sym (length-mixture is_newer is_long 0 s b even)) (λ p lt.
      let below : p < length b = omega (arith, same, lt) in
      (elim (cases_Bool (in_spans spans p)) [
        | inl hit ↦ chosen.bytes_in p below hit
        | inr free ↦ chosen.bytes_out p free ∙ (kept p below free).1
      ]) ∙ sym (mixture_at is_newer is_long s b p (omega (arith, below, even)) below))

  pub mixture_settled : (is_long : Bool) → length settled ≡ length s → settled ≡ mixture is_newer is_long 0 s b
  mixture_settled is_long same =
      ext_get_or 0 settled (mixture is_newer is_long 0 s b) (same ∙ even ∙ sym (length-mixture is_newer is_long 0 s b even)) (λ p lt.
      let below : p < length b = omega (arith, same, even, lt) in
      (elim (cases_Bool (in_spans spans p)) [
        | inl hit ↦ chosen.settled_in p below hit
        | inr free ↦ chosen.settled_out p free ∙ (kept p below free).0
      ]) ∙ sym (mixture_at is_newer is_long s b p (omega (arith, below, even)) below))

-- what was mixed, of two lists that were evened out
module _ (spans : List Span) (is_newer : ℕ → Bool) (is_long : Bool) (s b mine other settled bytes : List ℕ) (differ : DifferIn spans s b)
    (is_mine : mine ≡ evened is_long s b) (is_other : other ≡ evened is_long b s)
    (chosen : Chooses (in_spans spans) is_newer mine other settled bytes) where
  moved : Chooses (in_spans spans) is_newer (evened is_long s b) (evened is_long b s) settled bytes
  moved = subst (λ (l : List ℕ). Chooses (in_spans spans) is_newer (evened is_long s b) l settled bytes) is_other
      (subst (λ (l : List ℕ). Chooses (in_spans spans) is_newer l other settled bytes) is_mine chosen)

  pub mixed_bytes : length bytes ≡ length other → bytes ≡ mixture is_newer is_long 0 s b
  mixed_bytes same =
      mixture_bytes spans is_newer (evened is_long s b) (evened is_long b s) settled bytes (length-evened is_long s b)
      (differ-evened spans is_long s b differ) moved is_long (same ∙ ap length is_other)
      ∙ mixture-evened is_newer is_long 0 s b

  pub mixed_settled : length settled ≡ length mine → settled ≡ mixture is_newer is_long 0 s b
  mixed_settled same =
      mixture_settled spans is_newer (evened is_long s b) (evened is_long b s) settled bytes (length-evened is_long s b)
      (differ-evened spans is_long s b differ) moved is_long (same ∙ ap length is_mine)
      ∙ mixture-evened is_newer is_long 0 s b

-- what is settled already stays
pub united_alike : (bytes : List ℕ) (key seed : ℕ) → bytes ≡ united bytes bytes key seed
united_alike bytes key seed = either (seed == 0) (seed == 1) bytes (crash_mixture bytes bytes key seed) (sym (mixture_alike _ _ 0 bytes))
  where
    either : (first second : Bool) (a c : List ℕ) → a ≡ c → a ≡ (if first then a else (if second then a else c))
    either true second a c is = refl
    either false true a c is = refl
    either false false a c is = is
