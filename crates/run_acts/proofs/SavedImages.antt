-- What files read as, one after another.
use Rattle.std.proofs.Common.{◌≡◌, ◌+◌, ◌<◌, ℕ, zero, suc, List, [], ◌∷◌, ◌++◌, length, Some, ap, arith}
use Rattle.std.specs.Prelude.{slice_get}

-- one image more
pub image_more : (reads : ℕ → List ℕ) (images : List (List ℕ)) (image : List ℕ) → ((k : ℕ) → k < length images → slice_get images k ≡ Some (reads k)) → image ≡ reads (length images)
    → (k : ℕ) → k < length images + 1 → slice_get (images ++ image ∷ []) k ≡ Some (reads k)
image_more reads [] image each is zero lt = ap Some is
image_more reads [] image each is (suc k) lt = absurd (omega (arith, lt))
image_more reads (first ∷ images) image each is zero lt = each zero (omega arith)
image_more reads (first ∷ images) image each is (suc k) lt = image_more (λ n. reads (suc n)) images image (λ n below. each (suc n) (omega (arith, below))) is k (omega (arith, lt))
