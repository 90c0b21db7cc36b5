-- The state with which a block begins tells the block and the stream.
use Rattle.std.proofs.Common.{◌≡◌, ℕ, ◌<◌, ◌^◌, List, ap, arith, slice_index}
use Rattle.seed_words.specs.Words.{source_of}

pub apart : (seed : List ℕ) (stream other place there : ℕ) → stream < 2 ^ 64 → other < 2 ^ 64
    → place < 2 ^ 68 → there < 2 ^ 68 → source_of seed stream place ≡ source_of seed other there
    → (stream ≡ other) × (place ≡ there)
apart seed stream other place there a b c d h =
    let low = ap (λ (s : List ℕ × ℕ). slice_index s.0 12) h in
    let high = ap (λ (s : List ℕ × ℕ). slice_index s.0 13) h in
    let first = ap (λ (s : List ℕ × ℕ). slice_index s.0 14) h in
    let second = ap (λ (s : List ℕ × ℕ). slice_index s.0 15) h in
    let inside = ap (λ (s : List ℕ × ℕ). s.1) h in
    (omega (arith, first, second), omega (arith, low, high, inside))
