-- The text of bad blocks.
use Rattle.std.specs.Prelude.{ℕ, zero, suc, List, [], ◌∷◌, ◌++◌, Bool, true, false, codes, decimal, if◌then◌else◌}
use Rattle.tree_paths.specs.declared.node_set.NodeSet.{NodeSet}
use Rattle.tree_paths.specs.Paths.{holds}

-- numbers, each behind a comma
unfoldable pub commas_text : List ℕ → List ℕ
commas_text [] = []
commas_text (number ∷ numbers) = codes "," ++ decimal number ++ commas_text numbers

-- the numbers of bad blocks
unfoldable pub bad_text : List ℕ → List ℕ
bad_text [] = []
bad_text (block ∷ bad) = codes "bad:" ++ decimal block ++ commas_text bad

-- the numbers from 1 to the last that pass a test, rising
unfoldable pub passing : (ℕ → Bool) → (last : ℕ) → List ℕ
passing test zero = []
passing test (suc n) = passing test n ++ (if test (suc n) then suc n ∷ [] else [])

-- the numbers from 1 to 256 that a set has, rising
abbrev pub members_of : NodeSet → List ℕ
members_of set = passing (holds set) 256

abbrev pub is_some_of : List ℕ → Bool
is_some_of [] = false
is_some_of (number ∷ numbers) = true

-- what stands before a bad block's number, where there is one before it or not
abbrev pub member_word : Bool → List ℕ
member_word true = codes ","
member_word false = codes "bad:"
