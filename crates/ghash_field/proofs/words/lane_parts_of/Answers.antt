use Rattle.std.proofs.Common.{◌≡◌, ℕ, ◌<◌, List, [], length, arith}
use Rattle.std.specs.Prelude.{slice_index_or}
use Rattle.ghash_field.specs.Holes.{AreParts, vectors_of}
use Rattle.ghash_field.specs.Words.{two_words}
use Rattle.ghash_field.specs.declared.carryless.Parts.{Parts}
use Rattle.ghash_field.proofs.WordSums.{nine_cases, parts_at}
use Rattle.ghash_field.proofs.words.lane_parts_of.Goals as goal

pub returns : goal.returns
returns c =
    let p : ℕ = c.args.p in
    let q : ℕ = c.args.q in
    let lane : ℕ → List ℕ = λ k. slice_index_or c.words_of.result k [] in
    let at : (k : ℕ) (parts : Parts) → k < 9 → (length (lane k) ≡ 2 → AreParts (lane k) (vectors_of parts)) → AreParts (two_words p q k) (vectors_of parts) =
    λ k parts lt made. parts_at p q k (lane k) (vectors_of parts) (c.words_of.ensures k lt) made in
    nine_cases _
    (at 0 c.parts_of.result (omega arith) c.parts_of.ensures)
    (at 1 c.parts_of-2.result (omega arith) c.parts_of-2.ensures)
    (at 2 c.parts_of-3.result (omega arith) c.parts_of-3.ensures)
    (at 3 c.parts_of-4.result (omega arith) c.parts_of-4.ensures)
    (at 4 c.parts_of-5.result (omega arith) c.parts_of-5.ensures)
    (at 5 c.parts_of-6.result (omega arith) c.parts_of-6.ensures)
    (at 6 c.parts_of-7.result (omega arith) c.parts_of-7.ensures)
    (at 7 c.parts_of-8.result (omega arith) c.parts_of-8.ensures)
    (at 8 c.parts_of-9.result (omega arith) c.parts_of-9.ensures)
