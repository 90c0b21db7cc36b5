use Rattle.std.proofs.Common.{ℕ, suc, List, [], ◌∷◌, arith, refl, sym, subst}
use Rattle.std.specs.Prelude.{slice_index_or}
use Rattle.ghash_field.specs.Field.{block_power}
use Rattle.ghash_field.specs.Ghash.{ghash}
use Rattle.ghash_field.specs.Hasher.{Holds}
use Rattle.ghash_field.specs.Holes.{AreParts, vectors_of}
use Rattle.ghash_field.specs.Words.{AreLaneParts, no_parts}
use Rattle.ghash_field.specs.declared.carryless.Parts.{Parts}
use Rattle.ghash_field.proofs.FourBlocks.{power-zero}
use Rattle.ghash_field.proofs.WordSums.{nine_cases, no_words}
use Rattle.ghash_field.proofs.Ghash.of_zero.Goals as goal

pub returns : goal.returns
unfolding Holds ghash
returns c =
    let r : Parts = c.parts_of.result in
    let all : List Parts = r ∷ r ∷ r ∷ r ∷ r ∷ r ∷ r ∷ r ∷ r ∷ [] in
    let none : AreParts (0 ∷ 0 ∷ []) (vectors_of r) = c.parts_of.ensures refl in
    let zeros : AreLaneParts 0 0 all = λ k lt.
    subst (λ v. AreParts v (vectors_of (slice_index_or all k no_parts))) (sym (no_words k lt))
    (nine_cases (λ j. AreParts (0 ∷ 0 ∷ []) (vectors_of (slice_index_or all j no_parts))) none none none none none none none none none k lt) in
    let powers : (i j : ℕ) → AreLaneParts (block_power 0 (suc i)) (block_power 0 (suc j)) all = λ i j.
    subst (λ p. AreLaneParts p (block_power 0 (suc j)) all) (sym (power-zero i)) (subst (λ q. AreLaneParts 0 q all) (sym (power-zero j)) zeros) in (
      omega arith,
      (powers 3 2, powers 1 0),
      refl,
    )
