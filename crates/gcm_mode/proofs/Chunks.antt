-- The chunks of a slice of bytes as blocks, and those of the blocks as groups of four.
use Rattle.std.proofs.Common.{◌≡◌, ℕ, zero, suc, ◌+◌, ◌*◌, ◌/◌, ◌<◌, List, [], ◌∷◌, ◌++◌, length, get_or, take, drop, map, sym, ap, ◌∙◌, arith, append_assoc, length-drop}
use Rattle.std.specs.Int.{w128, from_be_bytes}
use Rattle.std.specs.Simd.{first_chunks}
use Rattle.std.proofs.lemmas.List.{drop-drop, get_or-drop, get_or-take, length-take-le}
use Rattle.gcm_mode.specs.ByteBlocks.{first_blocks}
use Rattle.gcm_mode.proofs.WholeBlocks.{first_blocks-more}
use Rattle.ghash_field.proofs.FourBlocks.{four_entries}

-- chunk i of n elements
pub chunk_at : {X : Type 0} (n k i : ℕ) (xs : List X) → i < k → get_or (first_chunks n k xs) i [] ≡ take n (drop (i * n) xs)
chunk_at n zero i xs lt = absurd (omega arith)
chunk_at n (suc k) zero xs lt = let e : 0 * n ≡ 0 = omega arith in ap (λ j. take n (drop j xs)) (sym e)
chunk_at n (suc k) (suc i) xs lt =
    let e : n + i * n ≡ suc i * n = omega arith in
    chunk_at n k i (drop n xs) (omega arith) ∙ ap (take n) (drop-drop (i * n) n xs ∙ ap (λ j. drop j xs) e)

-- the number of block j
abbrev pub number : List ℕ → ℕ → ℕ
number bytes j = from_be_bytes w128 (take 16 (drop (j * 16) bytes))

-- the blocks are the chunks of the bytes
abbrev pub AreChunks : List (List ℕ) → List ℕ → Type 0
AreChunks chunks bytes = (chunks ≡ first_chunks 16 (length bytes / 16) bytes) × (length chunks ≡ length bytes / 16)

-- one block more
pub block_more : (bytes : List ℕ) (chunks : List (List ℕ)) (j : ℕ) (block : List ℕ) → AreChunks chunks bytes → j < length bytes / 16
    → block ≡ get_or chunks j [] → first_blocks bytes j ++ from_be_bytes w128 block ∷ [] ≡ first_blocks bytes (j + 1)
block_more bytes chunks j block are lt e =
    let same : block ≡ take 16 (drop (j * 16) bytes) =
    e ∙ ap (λ c. get_or c j []) are.0 ∙ chunk_at 16 (length bytes / 16) j bytes lt in
    ap (λ b. first_blocks bytes j ++ from_be_bytes w128 b ∷ []) same ∙ first_blocks-more bytes j

-- four blocks more
pub group_more : (bytes : List ℕ) (chunks : List (List ℕ)) (i : ℕ) (group : List (List ℕ)) → AreChunks chunks bytes → i < length chunks / 4
    → group ≡ get_or (first_chunks 4 (length chunks / 4) chunks) i []
    → first_blocks bytes (4 * i) ++ map (from_be_bytes w128) group ≡ first_blocks bytes (4 * (i + 1))
group_more bytes chunks i group are lt e =
    let j : ℕ = 4 * i in
    let f : List ℕ → ℕ = from_be_bytes w128 in
    let place : i * 4 ≡ j = omega arith in
    let at : group ≡ take 4 (drop j chunks) =
    e ∙ chunk_at 4 (length chunks / 4) i chunks lt ∙ ap (λ k. take 4 (drop k chunks)) place in
    let long : length group ≡ 4 = ap length at ∙ length-take-le 4 (drop j chunks) (omega (arith, length-drop j chunks, are.1)) in
    let entry : (r : ℕ) → r < 4 → get_or group r [] ≡ get_or chunks (j + r) [] = λ r less.
    ap (λ g. get_or g r []) at ∙ get_or-take 4 (drop j chunks) r [] less ∙ get_or-drop j chunks r [] in
    let more : (k : ℕ) (b : List ℕ) (bs : List ℕ) → k < length bytes / 16 → b ≡ get_or chunks k []
    → first_blocks bytes k ++ f b ∷ bs ≡ first_blocks bytes (k + 1) ++ bs =
    λ k b bs less same. sym (append_assoc (first_blocks bytes k) (f b ∷ []) bs) ∙ ap (λ z. z ++ bs) (block_more bytes chunks k b are less same) in
    let g : ℕ → List ℕ = λ r. get_or group r [] in
    let zeroth : j + 0 ≡ j = omega arith in
    let second : j + 1 + 1 ≡ j + 2 = omega arith in
    let third : j + 2 + 1 ≡ j + 3 = omega arith in
    let last : j + 3 + 1 ≡ 4 * (i + 1) = omega arith in
    let first : g 0 ≡ get_or chunks j [] = entry 0 (omega arith) ∙ ap (λ k. get_or chunks k []) zeroth in
    ap (λ gs. first_blocks bytes j ++ map f gs) (four_entries group long)
    ∙ more j (g 0) (f (g 1) ∷ f (g 2) ∷ f (g 3) ∷ []) (omega (arith, are.1)) first
    ∙ more (j + 1) (g 1) (f (g 2) ∷ f (g 3) ∷ []) (omega (arith, are.1)) (entry 1 (omega arith))
    ∙ ap (λ k. first_blocks bytes k ++ f (g 2) ∷ f (g 3) ∷ []) second
    ∙ more (j + 2) (g 2) (f (g 3) ∷ []) (omega (arith, are.1)) (entry 2 (omega arith))
    ∙ ap (λ k. first_blocks bytes k ++ f (g 3) ∷ []) third
    ∙ block_more bytes chunks (j + 3) (g 3) are (omega (arith, are.1)) (entry 3 (omega arith))
    ∙ ap (first_blocks bytes) last
