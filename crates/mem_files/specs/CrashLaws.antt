-- What a simulated crash leaves is an image.
use Rattle.std.proofs.Common.{◌≡◌, ℕ, zero, suc, ◌+◌, List, [], ◌∷◌, Bool, true, false, if◌then◌else◌, ◌==◌, ◌%◌, ◌^◌, refl, sym, ◌∙◌, ap, subst, arith}
use Rattle.std.proofs.lemmas.Bool.{and_right, false_from_ne_true}
use Rattle.disk_model.specs.declared.span.Span.{Span}
use Rattle.disk_model.specs.Images.{AreEmpty, Has, IsSpared, sector}
use Rattle.disk_model.specs.Sectors.{any_spoils}
use Rattle.disk_model.specs.State.{FileState, Sound, LeftNow, pending}
use Rattle.disk_model.proofs.ImageLaws.{reads_left, spared_not}
use Rattle.disk_model.proofs.Sectors.{any_spoils_iff}
use Rattle.mem_files.specs.Crash.{coin, crash_key, crash_mixture, crash_of, is_hit, mixture, noise, noise_over}

-- a mixture has each byte that both lists have
mixture_has : (is_newer : ℕ → Bool) (is_long : Bool) (i : ℕ) (older newer : List ℕ) (p x : ℕ) → Has older p x → Has newer p x → Has (mixture is_newer is_long i older newer) p x
mixture_has is_newer is_long i [] newer p x old new = absurd (omega (arith, old.below))
mixture_has is_newer is_long i (a ∷ older) [] p x old new = absurd (omega (arith, new.below))
mixture_has is_newer is_long i (a ∷ older) (b ∷ newer) zero x old new = record {
  below = omega arith;
  is = elim (is_newer i) as (λ (which : Bool). (if which then b else a) ≡ x) [ true ↦ new.is | false ↦ old.is ];
}
mixture_has is_newer is_long i (a ∷ older) (b ∷ newer) (suc p) x old new =
    let rest = mixture_has is_newer is_long (i + 1) older newer p x (record { below = omega (arith, old.below); is = old.is }) (record { below = omega (arith, new.below); is = new.is }) in
    record { below = omega (arith, rest.below); is = rest.is }

-- a mixture of a list with itself is that list
mixture_same : (is_newer : ℕ → Bool) (is_long : Bool) (bytes : List ℕ) (i : ℕ) → mixture is_newer is_long i bytes bytes ≡ bytes
mixture_same is_newer is_long [] i = elim is_long as (λ (b : Bool). if◌then◌else◌ {A = List ℕ} b [] [] ≡ []) [ true ↦ refl | false ↦ refl ]
mixture_same is_newer is_long (b ∷ bytes) i =
    ap (λ (x : ℕ). x ∷ mixture is_newer is_long (i + 1) bytes bytes) (same_either (is_newer i) b) ∙ ap (λ (l : List ℕ). b ∷ l) (mixture_same is_newer is_long bytes (i + 1))
  where
    same_either : (which : Bool) (x : ℕ) → (if which then x else x) ≡ x
    same_either true x = refl
    same_either false x = refl

-- a choice of three lists has what all have
choice_has : (first second : Bool) (a b c : List ℕ) (p x : ℕ) → Has a p x → Has b p x → Has c p x → Has (if first then a else (if second then b else c)) p x
choice_has true second a b c p x old new both = old
choice_has false true a b c p x old new both = new
choice_has false false a b c p x old new both = both

choice_same : (first second : Bool) (a b c : List ℕ) → b ≡ a → c ≡ a → (if first then a else (if second then b else c)) ≡ a
choice_same true second a b c is_b is_c = refl
choice_same false true a b c is_b is_c = is_b
choice_same false false a b c is_b is_c = is_c

-- a place that is not hit keeps its byte
noise_has : (hit : ℕ → Bool) (key i : ℕ) (bytes : List ℕ) (p x : ℕ) → hit (i + p) ≡ false → Has bytes p x → Has (noise_over hit key i bytes) p x
noise_has hit key i [] p x miss has = absurd (omega (arith, has.below))
noise_has hit key i (b ∷ bytes) zero x miss has =
    let here : hit i ≡ false = ap hit (let e : i ≡ i + 0 = omega arith in e) ∙ miss in
    record { below = omega arith; is = ap (λ (which : Bool). if which then noise key i else b) here ∙ has.is }
noise_has hit key i (b ∷ bytes) (suc p) x miss has =
    let rest = noise_has hit key (i + 1) bytes p x (ap hit (let e : (i + 1) + p ≡ i + suc p = omega arith in e) ∙ miss) (record { below = omega (arith, has.below); is = has.is }) in
    record { below = omega (arith, rest.below); is = rest.is }

-- where none is hit all bytes stay
noise_none : (hit : ℕ → Bool) (key i : ℕ) (bytes : List ℕ) → ((p : ℕ) → hit p ≡ false) → noise_over hit key i bytes ≡ bytes
noise_none hit key i [] none = refl
noise_none hit key i (b ∷ bytes) none = (λ j. (if none i j then noise key i else b) ∷ noise_none hit key (i + 1) bytes none j)

-- a place whose sector meets no span is not hit
spares : (spans : List Span) (key p : ℕ) → IsSpared spans p → is_hit spans key p ≡ false
spares spans key p spared = and_right (coin key (2 ^ 32 + sector p)) (any_spoils spans p) (false_from_ne_true (any_spoils spans p) (λ hit. spared_not spans p spared ((any_spoils_iff spans p).0 hit)))

-- what both the settled bytes and those that the file reads as have in a sector that meets no span, the image has
pub crash_has : (settled reads : List ℕ) (spans : List Span) (seed file p x : ℕ) → IsSpared spans p → Has settled p x → Has reads p x → Has (crash_of settled reads spans seed file) p x
crash_has settled reads spans seed file p x spared old new =
    let key = crash_key seed file in
    let mixed : Has (crash_mixture settled reads key seed) p x = mixture_has _ _ 0 settled reads p x old new in
    let spoiled = noise_has (is_hit spans key) key 0 (crash_mixture settled reads key seed) p x (ap (is_hit spans key) (let e : 0 + p ≡ p = omega arith in e) ∙ spares spans key p spared) mixed in
    choice_has (seed == 0) (seed == 1) settled reads _ p x old new (choice_has (seed % 2 == 1) true _ _ (crash_mixture settled reads key seed) p x spoiled mixed mixed)

pub crash_same : (bytes : List ℕ) (spans : List Span) (seed file : ℕ) → AreEmpty spans → crash_of bytes bytes spans seed file ≡ bytes
crash_same bytes spans seed file empty =
    let key = crash_key seed file in
    let mixed : crash_mixture bytes bytes key seed ≡ bytes = mixture_same _ _ bytes 0 in
    let spoiled = noise_none (is_hit spans key) key 0 (crash_mixture bytes bytes key seed) (λ p. spares spans key p (λ q same. empty q)) in
    choice_same (seed == 0) (seed == 1) bytes bytes _ refl (choice_same (seed % 2 == 1) true _ _ (crash_mixture bytes bytes key seed) (sym spoiled) (sym spoiled) ∙ spoiled ∙ mixed)

pub crash_left : (s : FileState) (seed file : ℕ) → Sound s → LeftNow s (crash_of s.settled s.reads (pending s) seed file)
crash_left s seed file sound honest =
    let left = reads_left s sound honest in
    record {
      stays = λ p x free here. crash_has s.settled s.reads (pending s) seed file p x free here (left.stays p x free here);
      exact = λ none. subst (λ (l : List ℕ). crash_of s.settled l (pending s) seed file ≡ s.settled) (sym (left.exact none)) (crash_same s.settled (pending s) seed file none);
    }
