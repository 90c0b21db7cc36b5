-- Lists, place by place.
use Rattle.std.proofs.Common.{◌≡◌, ℕ, suc, ◌<◌, List, [], ◌∷◌, length, map, get_or, arith, ap, refl, sym, ◌∙◌}
use Rattle.std.proofs.lemmas.List.{get_or-map}

pub map-same : {X : Type 0} (f : X → ℕ) (xs : List X) (ys : List ℕ) → length xs ≡ length ys
    → ((k : ℕ) (d : X) → k < length xs → f (get_or xs k d) ≡ get_or ys k 0) → map f xs ≡ ys
map-same f [] [] len each = refl
map-same f [] (y ∷ ys) len each = cc
map-same f (x ∷ xs) [] len each = cc
map-same f (x ∷ xs) (y ∷ ys) len each =
    let head : f x ≡ y = each 0 x (omega arith) in
    let tail : map f xs ≡ ys = map-same f xs ys (cc) (λ k d lt. each (suc k) d (omega arith)) in
    cc

pub map-at : {X : Type 0} (f : X → ℕ) (xs : List X) (ys : List ℕ) → map f xs ≡ ys → (k : ℕ) (d : X) → k < length xs → f (get_or xs k d) ≡ get_or ys k 0
map-at f xs ys is k d lt = sym (get_or-map f xs k d 0 lt) ∙ ap (λ zs. get_or zs k 0) is

-- what holds at each place of a list holds at each number below its length
pub at_each : {X : Type 0} (xs : List X) (P : ℕ → Type 0) → ((i : ℕ) (d : X) → i < length xs → P i) → (i : ℕ) → i < length xs → P i
at_each [] P all i below = absurd (omega (arith, below))
at_each (x ∷ xs) P all i below = all i x below
