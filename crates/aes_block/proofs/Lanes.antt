-- An operation on vectors of 16 lanes, lane by lane, and facts on eight vectors.
use Rattle.std.proofs.Common.{◌≡◌, ℕ, zero, suc, ◌+◌, ◌*◌, ◌<◌, List, [], ◌∷◌, length, replicate, slice_index, refl, sym, ap, ◌∙◌, arith}
use Rattle.std.specs.Prelude.{slice_index_or}
use Rattle.std.specs.Int.{bit_at}
use lib.Lanes.{zip2}
use Rattle.std.proofs.lemmas.Simd.{get_or-zip2, length-zip2, get_or-replicate}
use Rattle.aes_block.specs.Planes.{ArePlanes, block_in, byte_at, lane}
use Rattle.aes_block.specs.SBox.{from_bits_of}
use Rattle.aes_block.specs.State.{state_of}
use Rattle.aes_block.proofs.ByteBits.{number}

pub length-op : (f : ℕ → ℕ → ℕ) (a b : List ℕ) → length a ≡ 16 → length b ≡ 16 → length (zip2 f a b) ≡ 16
length-op f a b la lb = length-zip2 f a b (la ∙ sym lb) ∙ la

pub lane-op : (f : ℕ → ℕ → ℕ) (a b : List ℕ) (j : ℕ) → j < 16 → length a ≡ 16 → length b ≡ 16
    → slice_index (zip2 f a b) j ≡ f (slice_index a j) (slice_index b j)
lane-op f a b j lane la lb = get_or-zip2 f a b j 0 0 0 (omega arith) (omega arith)

pub lane-splat : (f : ℕ → ℕ → ℕ) (a : List ℕ) (y j : ℕ) → j < 16 → length a ≡ 16
    → slice_index (zip2 f a (replicate 16 y)) j ≡ f (slice_index a j) y
lane-splat f a y j lane la =
    lane-op f a (replicate 16 y) j lane la refl ∙ ap (f (slice_index a j)) (get_or-replicate 16 j y 0 lane)

-- a fact of each number below 4
pub four_cases : (P : ℕ → Type 0) → P 0 → P 1 → P 2 → P 3 → (i : ℕ) → i < 4 → P i
four_cases P p0 p1 p2 p3 zero lt = p0
four_cases P p0 p1 p2 p3 (suc zero) lt = p1
four_cases P p0 p1 p2 p3 (suc (suc zero)) lt = p2
four_cases P p0 p1 p2 p3 (suc (suc (suc zero))) lt = p3
four_cases P p0 p1 p2 p3 (suc (suc (suc (suc i)))) lt = absurd (omega arith)

-- a fact of each number below 8
pub eight_cases : (P : ℕ → Type 0) → P 0 → P 1 → P 2 → P 3 → P 4 → P 5 → P 6 → P 7 → (i : ℕ) → i < 8 → P i
eight_cases P p0 p1 p2 p3 p4 p5 p6 p7 zero lt = p0
eight_cases P p0 p1 p2 p3 p4 p5 p6 p7 (suc zero) lt = p1
eight_cases P p0 p1 p2 p3 p4 p5 p6 p7 (suc (suc zero)) lt = p2
eight_cases P p0 p1 p2 p3 p4 p5 p6 p7 (suc (suc (suc zero))) lt = p3
eight_cases P p0 p1 p2 p3 p4 p5 p6 p7 (suc (suc (suc (suc zero)))) lt = p4
eight_cases P p0 p1 p2 p3 p4 p5 p6 p7 (suc (suc (suc (suc (suc zero))))) lt = p5
eight_cases P p0 p1 p2 p3 p4 p5 p6 p7 (suc (suc (suc (suc (suc (suc zero)))))) lt = p6
eight_cases P p0 p1 p2 p3 p4 p5 p6 p7 (suc (suc (suc (suc (suc (suc (suc zero))))))) lt = p7
eight_cases P p0 p1 p2 p3 p4 p5 p6 p7 (suc (suc (suc (suc (suc (suc (suc (suc i)))))))) lt = absurd (omega arith)

abbrev pub eight : {A : Type 0} → (ℕ → A) → List A
eight v = v 0 ∷ v 1 ∷ v 2 ∷ v 3 ∷ v 4 ∷ v 5 ∷ v 6 ∷ v 7 ∷ []

pub eight_at : (v : ℕ → List ℕ) (i : ℕ) → i < 8 → slice_index_or (eight v) i [] ≡ v i
eight_at v = eight_cases (λ i. slice_index_or (eight v) i [] ≡ v i) refl refl refl refl refl refl refl refl

pub eight_planes : (v : ℕ → List ℕ) → ((i : ℕ) → i < 8 → length (v i) ≡ 16) → ArePlanes (eight v)
eight_planes v h = λ i lt. ap length (eight_at v i lt) ∙ h i lt

-- eight vectors that are the same, place by place
pub same_planes : (x y : List (List ℕ)) → ((i : ℕ) → i < 8 → slice_index_or y i [] ≡ slice_index_or x i []) → ArePlanes x → ArePlanes y
same_planes x y same planes = λ i lt. ap length (same i lt) ∙ planes i lt

pub same_byte : (x y : List (List ℕ)) → ((i : ℕ) → i < 8 → slice_index_or y i [] ≡ slice_index_or x i [])
    → (t j : ℕ) → byte_at y t j ≡ byte_at x t j
unfolding from_bits_of
same_byte x y same t j =
    let bit = λ (i : ℕ) (lt : i < 8). ap (λ (v : List ℕ). bit_at (slice_index v j) t) (same i lt) in
    λ m. number
    (bit 0 (omega arith) m ∷ bit 1 (omega arith) m ∷ bit 2 (omega arith) m ∷ bit 3 (omega arith) m
    ∷ bit 4 (omega arith) m ∷ bit 5 (omega arith) m ∷ bit 6 (omega arith) m ∷ bit 7 (omega arith) m ∷ [])

pub same_blocks : (x y : List (List ℕ)) → ((i : ℕ) → i < 8 → slice_index_or y i [] ≡ slice_index_or x i [])
    → (t : ℕ) → block_in y t ≡ block_in x t
same_blocks x y same t = λ i. state_of (λ r c. same_byte x y same t (r + 4 * c) i)
