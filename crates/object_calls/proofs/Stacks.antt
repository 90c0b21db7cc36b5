-- A list that is taken from its end, and one that is turned over before: what comes of that is the list from its front on.
use Rattle.std.proofs.Common.{◌≡◌, ◌+◌, ◌-◌, ◌<◌, ℕ, List, length, take, get_or, reverse, Some, sym, ap, ◌∙◌, arith}
use Rattle.std.proofs.lemmas.List.{get_or-reverse, get_or-take, length-reverse, length-take-le, take-take, take_all}
use Rattle.std.proofs.lemmas.Option.{same_Some}

-- WHAT IS POPPED
-- the last element, and the others, where the list's length was told
module _ {X : Type 0} (items : List X) (count : ℕ) (many : count ≡ length items) where
  pub popped_last : (x : X) → Some x ≡ Some (get_or items (count - 1) x) → x ≡ get_or items (length items - 1) x
  popped_last x is = same_Some x (get_or items (count - 1) x) is ∙ ap (λ n. get_or items (n - 1) x) many

  pub popped_rest : (rest : List X) → rest ≡ take (count - 1) items → rest ≡ take (length items - 1) items
  popped_rest rest is = is ∙ ap (λ n. take (n - 1) items) many

-- FROM ITS END
module _ {X : Type 0} (items left : List X) (is : left ≡ take (length left) items) where
  pub last_of_all : (x : X) → 0 < length left → x ≡ get_or left (length left - 1) x → x ≡ get_or items (length left - 1) x
  last_of_all x some last =
      last ∙ ap (λ (l : List X). get_or l (length left - 1) x) is ∙ get_or-take (length left) items (length left - 1) x (omega (arith, some))

  pub rest_of_all : (rest : List X) → rest ≡ take (length left - 1) left → (length rest ≡ length left - 1) × (rest ≡ take (length rest) items)
  rest_of_all rest rest_is =
      let fewer : length rest ≡ length left - 1 = ap length rest_is ∙ length-take-le (length left - 1) left (omega arith) in (
        fewer,
        rest_is ∙ ap (take (length left - 1)) is ∙ take-take (length left - 1) (length left) items (omega arith) ∙ ap (λ (k : ℕ). take k items) (sym fewer),
      )

-- TURNED OVER
-- what is left of the list once so many were taken
abbrev pub left_of : {X : Type 0} → List X → (taken : ℕ) → List X
left_of items taken = take (length items - taken) (reverse items)

module _ {X : Type 0} (items : List X) where
  pub all_left : reverse items ≡ left_of items 0
  all_left = sym (take_all (length items - 0) (reverse items) (omega (arith, length-reverse items)))

  module _ (left : List X) (taken : ℕ) (is : left ≡ left_of items taken) where
    pub length-left : length left ≡ length items - taken
    length-left = ap length is ∙ length-take-le (length items - taken) (reverse items) (omega (arith, length-reverse items))

    pub last_left : (x : X) → taken < length items → x ≡ get_or left (length left - 1) x → x ≡ get_or items taken x
    last_left x more last =
        let place : length left - 1 ≡ length items - 1 - taken = omega (arith, length-left) in
        last ∙ ap (λ (k : ℕ). get_or left k x) place ∙ ap (λ (l : List X). get_or l (length items - 1 - taken) x) is
        ∙ get_or-take (length items - taken) (reverse items) (length items - 1 - taken) x (omega arith)
        ∙ get_or-reverse items (length items - 1 - taken) x (omega arith)
        ∙ ap (λ (k : ℕ). get_or items k x) (omega arith)

    pub rest_left : taken < length items → take (length left - 1) left ≡ left_of items (taken + 1)
    rest_left more =
        let fewer : length left - 1 ≡ length items - (taken + 1) = omega (arith, length-left) in
        ap (λ (k : ℕ). take k left) fewer ∙ ap (take (length items - (taken + 1))) is
        ∙ take-take (length items - (taken + 1)) (length items - taken) (reverse items) (omega arith)
