-- How a simulated crash makes its image in place, step by step.
use Rattle.std.specs.Prelude.{◌≡◌, ℕ, ◌<◌, ◌%◌, List, ◌++◌, length, take, drop, slice_index, Bool, true, false, ◌==◌, ◌&&◌, nat_lt, if◌then◌else◌}
use Rattle.mem_files.specs.Crash.{crash_mixture}

-- the image before sectors are spoiled
abbrev pub united : List ℕ → List ℕ → (key seed : ℕ) → List ℕ
united settled reads key seed =
    (if seed == 0 then settled else (if seed == 1 then reads else crash_mixture settled reads key seed))

-- the seed is one for which sectors are spoiled
abbrev pub is_spoiling : ℕ → Bool
is_spoiling seed = nat_lt 1 seed && seed % 2 == 1

-- a list with the end of a longer one, or without the end that a shorter one does not have
abbrev pub evened : Bool → List ℕ → List ℕ → List ℕ
evened is_long mine other = (if is_long then mine ++ drop (length mine) other else take (length other) mine)

-- the byte of one of the two
abbrev pub choice : (is_newer : ℕ → Bool) → (settled bytes : List ℕ) → ℕ → ℕ
choice is_newer settled bytes place = (if is_newer place then slice_index bytes place else slice_index settled place)

-- at some places both lists get the byte of one of them, and elsewhere they stay
pub record Chooses (is_in is_newer : ℕ → Bool) (settled bytes settled_then bytes_then : List ℕ) : Type 0 where
  pub settled_in : (place : ℕ) → place < length bytes → is_in place ≡ true → slice_index settled_then place ≡ choice is_newer settled bytes place
  pub bytes_in : (place : ℕ) → place < length bytes → is_in place ≡ true → slice_index bytes_then place ≡ choice is_newer settled bytes place
  pub settled_out : (place : ℕ) → is_in place ≡ false → slice_index settled_then place ≡ slice_index settled place
  pub bytes_out : (place : ℕ) → is_in place ≡ false → slice_index bytes_then place ≡ slice_index bytes place
