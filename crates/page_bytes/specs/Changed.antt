-- What a change of bytes leaves of the blocks.
use Rattle.std.specs.Prelude.{◌≡◌, ℕ, ◌<◌, List, Option, Some, true, false, IsSome}
use Rattle.page_bytes.specs.declared.range.ByteRange.{ByteRange}
use Rattle.page_bytes.specs.Ranges.{meets, needs}
use Rattle.page_bytes.specs.Rewriting.{IsRewritten}

-- Of the first blocks, those that the change misses keep their pages, good or bad, and those that it meets are good.
pub record IsChanged (r : ByteRange) (blocks : ℕ) (was now : ℕ → Option (List ℕ)) : Type 0 where
  pub same : (k : ℕ) → k < blocks → meets r.first r.last k ≡ false → now k ≡ was k
  pub good : (k : ℕ) → k < blocks → meets r.first r.last k ≡ true → IsSome (now k)

-- block k has the page that the change leaves, which was made over the old one where the change needs it
pub record HasRewritten (r : ByteRange) (at : ℕ) (bytes : List ℕ) (k : ℕ) (was now : Option (List ℕ)) : Type 0 where
  pub over : List ℕ
  pub page : List ℕ
  pub needed : needs r k ≡ true → was ≡ Some over
  pub rewritten : IsRewritten r at bytes k over page
  pub is : now ≡ Some page
