-- What a hasher `Ghash` has taken in.
use Rattle.std.specs.Prelude.{◌≡◌, ℕ, ◌^◌, ◌<◌, List, [], slice_index_or}
use Rattle.ghash_field.specs.Field.{block_power}
use Rattle.ghash_field.specs.Ghash.{ghash}
use Rattle.ghash_field.specs.Words.{AreLaneParts}
use Rattle.ghash_field.specs.declared.Ghash.{Ghash}
use Rattle.ghash_field.specs.declared.carryless.Parts.{Parts}

-- the parts of H ^ 4 and H ^ 3, and of H ^ 2 and H
abbrev pub ArePowers : ℕ → List (List Parts) → Type 0
ArePowers h powers =
    AreLaneParts (block_power h 4) (block_power h 3) (slice_index_or powers 0 [])
    × AreLaneParts (block_power h 2) (block_power h 1) (slice_index_or powers 1 [])

-- the hasher s of the hash subkey h has taken in the blocks xs
unfoldable pub Holds : Ghash → ℕ → List ℕ → Type 0
Holds s h xs = (h < 2 ^ 128) × (ArePowers h s.powers) × (s.sum ≡ ghash h xs)
