-- Bytes as blocks.
use Rattle.std.proofs.Common.{◌≡◌, ℕ, zero, suc, ◌+◌, ◌-◌, ◌*◌, ◌/◌, ◌%◌, ◌<◌, ◌≤◌, List, [], ◌∷◌, ◌++◌, length, take, drop, replicate, set, refl, sym, ap, ◌∙◌, arith, length-append, length-drop, append_assoc}
use Rattle.std.specs.Int.{w128, from_be_bytes}
use Rattle.std.proofs.lemmas.List.{append-nil, length-replicate, drop-append-le, drop-drop, drop_at, take-append-le, take_all, set-append_right}
use Rattle.gcm_mode.specs.ByteBlocks.{first_blocks, blocks, padded}

-- no block
pub first_blocks-none : (xs : List ℕ) → [] ≡ first_blocks xs 0
unfolding first_blocks
first_blocks-none xs = refl

-- one more block
pub first_blocks-more : (xs : List ℕ) (i : ℕ) → first_blocks xs i ++ from_be_bytes w128 (take 16 (drop (i * 16) xs)) ∷ [] ≡ first_blocks xs (i + 1)
unfolding first_blocks
first_blocks-more xs i = let e : suc i ≡ i + 1 = omega arith in ap (first_blocks xs) e

-- blocks of the front do not depend on what follows
first_blocks-front : (xs ys : List ℕ) (n : ℕ) → n * 16 ≤ length xs → first_blocks (xs ++ ys) n ≡ first_blocks xs n
unfolding first_blocks
first_blocks-front xs ys zero le = refl
first_blocks-front xs ys (suc n) le =
    let block : take 16 (drop (n * 16) (xs ++ ys)) ≡ take 16 (drop (n * 16) xs) =
    ap (take 16) (drop-append-le (n * 16) xs ys (omega arith)) ∙ take-append-le 16 (drop (n * 16) xs) ys (omega (arith, length-drop (n * 16) xs)) in
    λ i. first_blocks-front xs ys n (omega arith) i ++ from_be_bytes w128 (block i) ∷ []

-- blocks of two lists, the first of them whole
first_blocks-append : (xs ys : List ℕ) (n m : ℕ) → length xs ≡ n * 16 → first_blocks (xs ++ ys) (m + n) ≡ first_blocks xs n ++ first_blocks ys m
unfolding first_blocks
first_blocks-append xs ys n zero len =
    let e : 0 + n ≡ n = omega arith in
    ap (first_blocks (xs ++ ys)) e ∙ first_blocks-front xs ys n (omega arith) ∙ sym (append-nil (first_blocks xs n))
first_blocks-append xs ys n (suc m) len =
    let e : suc m + n ≡ suc (m + n) = omega arith in
    let place : (m + n) * 16 ≡ n * 16 + m * 16 = omega arith in
    let rest : drop ((m + n) * 16) (xs ++ ys) ≡ drop (m * 16) ys =
    ap (λ k. drop k (xs ++ ys)) place ∙ sym (drop-drop (m * 16) (n * 16) (xs ++ ys)) ∙ ap (drop (m * 16)) (drop_at xs ys (n * 16) len) in
    ap (first_blocks (xs ++ ys)) e
    ∙ (λ i. first_blocks-append xs ys n m len i ++ from_be_bytes w128 (take 16 (rest i)) ∷ [])
    ∙ append_assoc (first_blocks xs n) (first_blocks ys m) (from_be_bytes w128 (take 16 (drop (m * 16) ys)) ∷ [])

-- blocks of two lists, the first of them whole
pub blocks-append : (xs ys : List ℕ) → length xs % 16 ≡ 0 → blocks (xs ++ ys) ≡ blocks xs ++ blocks ys
unfolding blocks
blocks-append xs ys whole =
    let n : ℕ = length xs / 16 in
    let m : ℕ = length ys / 16 in
    let len : length xs ≡ n * 16 = omega arith in
    let count : length (xs ++ ys) / 16 ≡ m + n = omega (arith, length-append xs ys) in
    ap (first_blocks (xs ++ ys)) count ∙ first_blocks-append xs ys n m len

-- one block
pub blocks-one : (xs : List ℕ) → length xs ≡ 16 → blocks xs ≡ from_be_bytes w128 xs ∷ []
unfolding blocks first_blocks
blocks-one xs len =
    let one : length xs / 16 ≡ 1 = omega arith in
    ap (first_blocks xs) one ∙ ap (λ b. from_be_bytes w128 b ∷ []) (take_all 16 xs (omega arith))

-- padded bytes are whole blocks
pub padded-length : (xs : List ℕ) → length (padded xs) % 16 ≡ 0
unfolding padded
padded-length xs = omega (arith, length-append xs (replicate ((16 - length xs % 16) % 16) 0), length-replicate {A = ℕ} ((16 - length xs % 16) % 16) 0)

-- no partial block at the end
pub blocks-whole : (xs : List ℕ) → length xs % 16 ≡ 0 → first_blocks xs (length xs / 16) ≡ blocks (padded xs)
unfolding blocks padded
blocks-whole xs whole =
    let none : (16 - length xs % 16) % 16 ≡ 0 = omega arith in
    sym (ap (λ z. first_blocks (xs ++ replicate z 0) (length (xs ++ replicate z 0) / 16)) none ∙ ap (λ ys. first_blocks ys (length ys / 16)) (append-nil xs))

-- a partial block at the end, filled with zero bytes
pub blocks-partial : (xs rest : List ℕ) (n r : ℕ) → n ≡ length xs / 16 → rest ≡ drop (n * 16) xs → r ≡ length rest → 0 < r
    → first_blocks xs n ++ from_be_bytes w128 (rest ++ replicate (16 - r) 0) ∷ [] ≡ blocks (padded xs)
unfolding blocks padded
blocks-partial xs rest n r count tail len some =
    let z : ℕ = (16 - length xs % 16) % 16 in
    let rest_len : length rest ≡ length xs - n * 16 = ap length tail ∙ length-drop (n * 16) xs in
    let zeros : 16 - r ≡ z = omega arith in
    let all : length (xs ++ replicate z 0) / 16 ≡ n + 1 = omega (arith, length-append xs (replicate z 0), length-replicate {A = ℕ} z 0) in
    let last : take 16 (drop (n * 16) (xs ++ replicate z 0)) ≡ rest ++ replicate (16 - r) 0 =
    ap (take 16) (drop-append-le (n * 16) xs (replicate z 0) (omega arith) ∙ (λ i. sym tail i ++ replicate (sym zeros i) 0))
    ∙ take_all 16 (rest ++ replicate (16 - r) 0) (omega (arith, length-append rest (replicate (16 - r) 0), length-replicate {A = ℕ} (16 - r) 0)) in
    (λ i. sym (first_blocks-front xs (replicate z 0) n (omega arith)) i ++ from_be_bytes w128 (sym last i) ∷ [])
    ∙ first_blocks-more (xs ++ replicate z 0) n ∙ ap (first_blocks (xs ++ replicate z 0)) (sym all)

-- the blocks that the tag hashes, piece by piece
pub tag_blocks : (aad text lens : List ℕ) → length lens ≡ 16
    → (blocks (padded aad) ++ blocks (padded text)) ++ from_be_bytes w128 lens ∷ [] ≡ blocks (padded aad ++ (padded text ++ lens))
tag_blocks aad text lens len =
    append_assoc (blocks (padded aad)) (blocks (padded text)) (from_be_bytes w128 lens ∷ [])
    ∙ sym (blocks-append (padded aad) (padded text ++ lens) (padded-length aad)
    ∙ ap (λ bs. blocks (padded aad) ++ bs) (blocks-append (padded text) lens (padded-length text) ∙ ap (λ bs. blocks (padded text) ++ bs) (blocks-one lens len)))

-- the blocks that the pre-counter block hashes, piece by piece
pub counter_blocks : (iv lens : List ℕ) → length lens ≡ 16 → blocks (padded iv) ++ from_be_bytes w128 lens ∷ [] ≡ blocks (padded iv ++ lens)
counter_blocks iv lens len =
    sym (blocks-append (padded iv) lens (padded-length iv) ∙ ap (λ bs. blocks (padded iv) ++ bs) (blocks-one lens len))

-- the number 1 after an initialization vector of 12 bytes
pub set_last : (xs : List ℕ) → length xs ≡ 12 → set (xs ++ 0 ∷ 0 ∷ 0 ∷ 0 ∷ []) 15 1 ≡ xs ++ 0 ∷ 0 ∷ 0 ∷ 1 ∷ []
set_last xs len = set-append_right xs (0 ∷ 0 ∷ 0 ∷ 0 ∷ []) 12 15 1 len (omega arith)
