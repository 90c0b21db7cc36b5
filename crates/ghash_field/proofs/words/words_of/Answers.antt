use Rattle.std.proofs.Common.{ℕ, [], ◌∷◌, bit_xor}
use Rattle.ghash_field.specs.Words.{words_of}
use Rattle.ghash_field.proofs.WordSums.{nine_cases, word-a, word-b, word-c, word-d}
use Rattle.ghash_field.proofs.words.words_of.Goals as goal

pub returns : goal.returns
unfolding words_of
returns c =
    let p : ℕ = c.args.p in
    let q : ℕ = c.args.q in
    let pa = word-a p c.low_half.result c.low_half.ensures in
    let qa = word-a q c.low_half-2.result c.low_half-2.ensures in
    let pb = word-b p c.low_half.result c.low_half.ensures in
    let qb = word-b q c.low_half-2.result c.low_half-2.ensures in
    let pc = word-c p in
    let qc = word-c q in
    let pd = word-d p c.ranges.p.fits in
    let qd = word-d q c.ranges.q.fits in
    nine_cases _
    (λ i. pa i ∷ qa i ∷ []) (λ i. pb i ∷ qb i ∷ []) (λ i. pc i ∷ qc i ∷ []) (λ i. pd i ∷ qd i ∷ [])
    (λ i. bit_xor (pa i) (pc i) ∷ bit_xor (qa i) (qc i) ∷ []) (λ i. bit_xor (pb i) (pd i) ∷ bit_xor (qb i) (qd i) ∷ [])
    (λ i. bit_xor (pa i) (pb i) ∷ bit_xor (qa i) (qb i) ∷ []) (λ i. bit_xor (pc i) (pd i) ∷ bit_xor (qc i) (qd i) ∷ [])
    (λ i. bit_xor (bit_xor (pa i) (pc i)) (bit_xor (pb i) (pd i)) ∷ bit_xor (bit_xor (qa i) (qc i)) (bit_xor (qb i) (qd i)) ∷ [])
