-- A folder into which a store is exported: a file for each file of the bench, and one for the card's block.
use Rattle.std.specs.Prelude.{ℕ, zero, suc, ◌+◌, List, [], ◌∷◌}
use Rattle.tee_types.specs.Limits.{file_count}
use Rattle.disk_model.specs.State.{FileState}

-- how many files it has; the last holds the card's block
abbrev pub folder_count : ℕ
folder_count = file_count + 1

-- what is known of the file at a place of a list, and `none` where there is no file
abbrev pub states_of : {F : Type 0} → (none : FileState) → (F → FileState) → List F → ℕ → FileState
states_of none state [] number = none
states_of none state (file ∷ files) zero = state file
states_of none state (file ∷ files) (suc number) = states_of none state files number
