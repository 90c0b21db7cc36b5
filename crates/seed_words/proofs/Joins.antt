-- Lists one behind the other, one list more, and how long they are.
use Rattle.std.proofs.Common.{◌≡◌, ◌+◌, ◌*◌, ◌<◌, ◌≤◌, ℕ, zero, suc, List, [], ◌++◌, length, refl, ap, ◌∙◌, length-append, arith}
use Rattle.std.specs.List.{flat_map}
use Rattle.std.proofs.lemmas.Grind.{flat_map-append}
use Rattle.seed_words.specs.Joined.{joined}

pub joined-none : {A : Type 0} (f : ℕ → List A) → joined f 0 ≡ []
unfolding joined
joined-none f = refl

pub joined-more : {A : Type 0} (f : ℕ → List A) (count : ℕ) → joined f (count + 1) ≡ joined f count ++ f count
unfolding joined
joined-more f count = let next : count + 1 ≡ suc count = omega arith in ap (joined f) next

pub flat_map-joined : {A B : Type 0} (h : A → List B) (f : ℕ → List A) (count : ℕ) → flat_map h (joined f count) ≡ joined (λ k. flat_map h (f k)) count
unfolding joined
flat_map-joined h f zero = refl
flat_map-joined h f (suc k) = flat_map-append h (joined f k) (f k) ∙ ap (λ t. t ++ flat_map h (f k)) (flat_map-joined h f k)

more : (k most a b : ℕ) → a ≤ k * most → b ≤ most → a + b ≤ suc k * most
more k most a b h one = omega arith

-- where each is at most so long
pub length-joined : {A : Type 0} (f : ℕ → List A) (most count : ℕ) → ((k : ℕ) → k < count → length (f k) ≤ most) → length (joined f count) ≤ count * most
unfolding joined
length-joined f most zero each = omega arith
length-joined f most (suc k) each =
    let both : length (joined f k) + length (f k) ≤ suc k * most = more k most _ _ (length-joined f most k (λ j lt. each j (omega arith))) (each k (omega arith)) in
    omega (arith, both, length-append (joined f k) (f k))
