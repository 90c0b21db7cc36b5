-- The stream of the counter mode, by its blocks.
use Rattle.std.proofs.Common.{◌≡◌, ℕ, zero, suc, ◌+◌, ◌*◌, ◌/◌, ◌%◌, ◌^◌, ◌<◌, ◌≤◌, List, [], ◌∷◌, ◌++◌, length, take, drop, get_or, bit_xor, refl, sym, ap, ◌∙◌, arith, length-drop}
use Rattle.std.specs.Int.{w32, from_be_bytes, to_be_bytes}
use Rattle.std.proofs.lemmas.List.{append-nil, get_or-take, get_or-drop, drop-drop, length-take-le, drop_all}
use Rattle.std.proofs.lemmas.List.FromFn.{fill_by_all, length-map-range_with_len, get_or-map-range_with_len}
use borrow.Rule.Slice.PartMut.{put_mid}
use Rattle.gcm_mode.specs.CounterMode.{counter_block, gctr, inc32, stream_byte}
use Rattle.gcm_mode.proofs.Writes.{IsAdded}

-- a byte of one enciphered counter block is a byte of the stream
pub block-stream : (e : List ℕ → List ℕ) (first : List ℕ) (i k : ℕ) → k < 16 → get_or (e (counter_block first i)) k 0 ≡ stream_byte e first (16 * i + k)
block-stream e first i k lt =
    let row : i ≡ (16 * i + k) / 16 = omega arith in
    let column : k ≡ (16 * i + k) % 16 = omega arith in
    λ t. get_or (e (counter_block first (row t))) (column t) 0

-- n steps after m steps are n + m steps
counter-add : (first : List ℕ) (m n : ℕ) → counter_block (counter_block first m) n ≡ counter_block first (n + m)
unfolding counter_block
counter-add first m zero = let e : m ≡ 0 + m = omega arith in ap (counter_block first) e
counter-add first m (suc n) = let e : suc (n + m) ≡ suc n + m = omega arith in ap inc32 (counter-add first m n) ∙ ap (counter_block first) e

-- eight steps from the start of a group lead to the next group
pub counter-eight : (first counter : List ℕ) (g : ℕ) → counter ≡ counter_block first (8 * g) → counter_block counter 8 ≡ counter_block first (8 * (g + 1))
counter-eight first counter g e =
    let all : 8 + 8 * g ≡ 8 * (g + 1) = omega arith in
    ap (λ b. counter_block b 8) e ∙ counter-add first (8 * g) 8 ∙ ap (counter_block first) all

-- a byte of the eight enciphered counter blocks of group g is a byte of the stream
pub eight-stream : (e : List ℕ → List ℕ) (first counter : List ℕ) (streams blocks : List (List ℕ)) (g k : ℕ) → k < 128
    → counter ≡ counter_block first (8 * g)
    → ((j : ℕ) → j < 8 → get_or blocks j [] ≡ counter_block counter j)
    → ((j : ℕ) → j < 8 → get_or streams j [] ≡ e (get_or blocks j []))
    → get_or (get_or streams (k / 16) []) (k % 16) 0 ≡ stream_byte e first (128 * g + k)
eight-stream e first counter streams blocks g k lt at made encrypted =
    let j : ℕ = k / 16 in
    let low : j < 8 = omega arith in
    let row : j + 8 * g ≡ (128 * g + k) / 16 = omega arith in
    let column : k % 16 ≡ (128 * g + k) % 16 = omega arith in
    let block : get_or streams j [] ≡ e (counter_block first (j + 8 * g)) =
    encrypted j low ∙ ap e (made j low ∙ ap (λ b. counter_block b j) at ∙ counter-add first (8 * g) j) in
    ap (λ b. get_or b (k % 16) 0) block
    ∙ (λ t. get_or (e (counter_block first (row t))) (column t) 0)

-- byte k of GCTR of a text
abbrev pub gctr_byte : (List ℕ → List ℕ) → List ℕ → List ℕ → ℕ → ℕ
gctr_byte e first text k = bit_xor (get_or text k 0) (stream_byte e first k)

-- GCTR keeps the length
pub length-gctr : (e : List ℕ → List ℕ) (first text : List ℕ) → length (gctr e first text) ≡ length text
unfolding gctr
length-gctr e first text = length-map-range_with_len (gctr_byte e first text) 0 (length text)

-- GCTR, by its bytes
pub get_or-gctr : (e : List ℕ → List ℕ) (first text : List ℕ) (k : ℕ) → k < length text → get_or (gctr e first text) k 0 ≡ gctr_byte e first text k
unfolding gctr
get_or-gctr e first text k lt = get_or-map-range_with_len (gctr_byte e first text) 0 (length text) k k 0 lt (omega arith)

-- GCTR of a text from the counter block m steps on, by the stream of the first
pub gctr-later : (e : List ℕ → List ℕ) (first counter text : List ℕ) (m k : ℕ) → counter ≡ counter_block first m → k < length text
    → get_or (gctr e counter text) k 0 ≡ bit_xor (get_or text k 0) (stream_byte e first (16 * m + k))
gctr-later e first counter text m k at lt =
    let row : k / 16 + m ≡ (16 * m + k) / 16 = omega arith in
    let column : k % 16 ≡ (16 * m + k) % 16 = omega arith in
    get_or-gctr e counter text k lt
    ∙ ap (λ b. bit_xor (get_or text k 0) (get_or (e (counter_block b (k / 16))) (k % 16) 0)) at
    ∙ ap (λ b. bit_xor (get_or text k 0) (get_or (e b) (k % 16) 0)) (counter-add first m (k / 16))
    ∙ (λ t. bit_xor (get_or text k 0) (get_or (e (counter_block first (row t))) (column t) 0))

-- a text to all of whose places the stream is added is GCTR of the text before
pub gctr-all : (e : List ℕ → List ℕ) (first orig text : List ℕ) → length text ≡ length orig → IsAdded (stream_byte e first) orig text (length orig) → text ≡ gctr e first orig
unfolding gctr
gctr-all e first orig text len done = fill_by_all (gctr_byte e first orig) text (length orig) 0 len done

-- one more step
pub counter-more : (first : List ℕ) (i : ℕ) → inc32 (counter_block first i) ≡ counter_block first (i + 1)
unfolding counter_block
counter-more first i = let e : suc i ≡ i + 1 = omega arith in ap (counter_block first) e

-- no step
pub counter-none : (first : List ℕ) → first ≡ counter_block first 0
unfolding counter_block
counter-none first = refl

-- the last four bytes, read, counted on and written back
pub inc32-write : (block part : List ℕ) (n : ℕ) → length block ≡ 16 → n ≡ from_be_bytes w32 (get_or block 12 0 ∷ get_or block 13 0 ∷ get_or block 14 0 ∷ get_or block 15 0 ∷ [])
    → part ≡ to_be_bytes w32 ((n + 1) % 2 ^ 32) → put_mid 12 4 block part ≡ inc32 block
unfolding inc32
inc32-write block part n len is e =
    let none : drop 4 (drop 12 block) ≡ [] = drop-drop 4 12 block ∙ drop_all 16 block (omega arith) in
    let at : (i : ℕ) → get_or block (12 + i) 0 ≡ get_or (drop 12 block) i 0 = λ i. sym (get_or-drop 12 block i 0) in
    let read : n ≡ from_be_bytes w32 (drop 12 block) = is ∙ (λ t. from_be_bytes w32 (at 0 t ∷ at 1 t ∷ at 2 t ∷ at 3 t ∷ [])) in
    (λ t. take 12 block ++ (e t ++ none t)) ∙ ap (λ z. take 12 block ++ z) (append-nil (to_be_bytes w32 ((n + 1) % 2 ^ 32)))
    ∙ ap (λ m. take 12 block ++ to_be_bytes w32 ((m + 1) % 2 ^ 32)) read

-- what a write of the stream to a part of the text says, by places of the text
pub stream-added : (text part stream key_stream : List ℕ) (a n : ℕ) → a + n ≤ length text → stream ≡ key_stream
    → ((k : ℕ) → k < length (take n (drop a text)) → get_or part k 0 ≡ bit_xor (get_or (take n (drop a text)) k 0) (get_or stream k 0))
    → (k : ℕ) → k < n → get_or part k 0 ≡ bit_xor (get_or text (a + k) 0) (get_or key_stream k 0)
stream-added text part stream key_stream a n fits same added k lt =
    let len : length (take n (drop a text)) ≡ n = length-take-le n (drop a text) (omega (arith, length-drop a text)) in
    added k (omega arith)
    ∙ (λ t. bit_xor ((get_or-take n (drop a text) k 0 lt ∙ get_or-drop a text k 0) t) (get_or (same t) k 0))
