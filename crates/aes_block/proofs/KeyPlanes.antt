-- The key expansion on planes: the columns of the next round key, one after another.
use Rattle.std.proofs.Common.{◌≡◌, ℕ, ◌+◌, ◌*◌, ◌<◌, List, [], ◌∷◌, ◌++◌, length, map, slice_index, sym, ap, ◌∙◌, arith, bit_xor}
use Rattle.std.specs.List.{range_with_len}
use Rattle.std.proofs.lemmas.List.{get_or-append-add, get_or-map, get_or_append_left}
use Rattle.std.proofs.lemmas.List.FromFn.{get_or-range_with_len}
use Rattle.aes_block.specs.CodeSteps.{next_round_key, stirred_byte}
use Rattle.aes_block.specs.State.{state_of}

-- four lanes of u and then twelve of v
abbrev pub joined : List ℕ → List ℕ → List ℕ
joined u v = map (λ k. slice_index (u ++ v) k) (range_with_len 0 4 ++ range_with_len 16 12)

pub joined_first : (u v : List ℕ) → length u ≡ 16 → (j : ℕ) → j < 4 → slice_index (joined u v) j ≡ slice_index u j
joined_first u v long j lt =
    let plain : 0 + j ≡ j = omega arith in
    get_or-map (λ k. slice_index (u ++ v) k) (range_with_len 0 4 ++ range_with_len 16 12) j 0 0 (omega arith)
    ∙ ap (λ (k : ℕ). slice_index (u ++ v) k)
    (get_or_append_left (range_with_len 0 4) (range_with_len 16 12) 0 j (omega arith) ∙ get_or-range_with_len 0 4 j 0 lt ∙ plain)
    ∙ get_or_append_left u v 0 j (omega arith)

pub joined_rest : (u v : List ℕ) → length u ≡ 16 → (j : ℕ) → j < 12 → slice_index (joined u v) (4 + j) ≡ slice_index v j
joined_rest u v long j lt =
    get_or-map (λ k. slice_index (u ++ v) k) (range_with_len 0 4 ++ range_with_len 16 12) (4 + j) 0 0 (omega arith)
    ∙ ap (λ (k : ℕ). slice_index (u ++ v) k)
    (get_or-append-add (range_with_len 0 4) (range_with_len 16 12) j 0 ∙ get_or-range_with_len 16 12 j 0 lt)
    ∙ ap (λ (n : ℕ). slice_index (u ++ v) (n + j)) (sym long) ∙ get_or-append-add u v j 0

-- to each column of x that of v before it is added, and to the first one that of g
pub record IsSum (x g v r : ℕ → ℕ) : Type 0 where
  pub first : (j : ℕ) → j < 4 → r j ≡ bit_xor (x j) (g j)
  pub rest : (j : ℕ) → j < 12 → r (4 + j) ≡ bit_xor (x (4 + j)) (v j)

pub next_key : (x g one two three four : ℕ → ℕ) (c : ℕ)
    → ((j : ℕ) → j < 4 → g j ≡ stirred_byte (state_of (λ r c. x (r + 4 * c))) c j)
    → ((j : ℕ) → j < 4 → one j ≡ bit_xor (x j) (g j)) → IsSum x g one two → IsSum x g two three → IsSum x g three four
    → state_of (λ r c. four (r + 4 * c)) ≡ next_round_key (state_of (λ r c. x (r + 4 * c))) c
unfolding next_round_key
next_key x g one two three four c stirred s1 s2 s3 s4 =
    let base = λ (j : ℕ) (lt : j < 4). ap (bit_xor (x j)) (stirred j lt) in
    let w0 = λ (j : ℕ) (lt : j < 4). s4.first j lt ∙ base j lt in
    let w1 = λ (j : ℕ) (lt : j < 4). s4.rest j (omega arith) ∙ ap (bit_xor (x (4 + j))) (s3.first j lt ∙ base j lt) in
    let w2 = λ (j : ℕ) (lt : j < 4).
    s4.rest (4 + j) (omega arith) ∙ ap (bit_xor (x (4 + (4 + j)))) (
    s3.rest j (omega arith) ∙ ap (bit_xor (x (4 + j))) (s2.first j lt ∙ base j lt)) in
    let w3 = λ (j : ℕ) (lt : j < 4).
    s4.rest (4 + (4 + j)) (omega arith) ∙ ap (bit_xor (x (4 + (4 + (4 + j))))) (
    s3.rest (4 + j) (omega arith) ∙ ap (bit_xor (x (4 + (4 + j)))) (
    s2.rest j (omega arith) ∙ ap (bit_xor (x (4 + j))) (s1 j lt ∙ base j lt))) in
    λ i.
    w0 0 (omega arith) i ∷ w0 1 (omega arith) i ∷ w0 2 (omega arith) i ∷ w0 3 (omega arith) i
    ∷ w1 0 (omega arith) i ∷ w1 1 (omega arith) i ∷ w1 2 (omega arith) i ∷ w1 3 (omega arith) i
    ∷ w2 0 (omega arith) i ∷ w2 1 (omega arith) i ∷ w2 2 (omega arith) i ∷ w2 3 (omega arith) i
    ∷ w3 0 (omega arith) i ∷ w3 1 (omega arith) i ∷ w3 2 (omega arith) i ∷ w3 3 (omega arith) i ∷ []
