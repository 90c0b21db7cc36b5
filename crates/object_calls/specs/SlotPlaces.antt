-- The places that the files of objects come to as a phase ends.
use Rattle.std.specs.Prelude.{◌≡◌, All, List, length, Option, None, Some}
use Rattle.disk_model.specs.State.{FileState, no_file}
use Rattle.tee_types.specs.Limits.{last_file}

-- A place for each file of an object, and no file in any.
pub record AreFree {F : Type 0} (places : List (Option F)) : Type 0 where
  pub many : length places ≡ last_file
  pub none : All (λ place. place ≡ None) places

-- what is known of the file in a place, if there is one
abbrev pub place_state : {F : Type 0} → (F → FileState) → Option F → FileState
place_state state None = no_file
place_state state (Some f) = state f
