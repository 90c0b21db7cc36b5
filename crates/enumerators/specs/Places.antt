-- Lists of entries by number: where the entry of a number lies, and numbers that rise.
use Rattle.std.specs.Prelude.{◌≡◌, ◌==◌, ◌<◌, ◌≤◌, ◌+◌, ℕ, List, [], ◌∷◌, length, slice_get, slice_index_or, slice_set, remove}
use Rattle.std.specs.Option.{option_map}
use Rattle.std.specs.Map.{lookup, set_value, remove_entry}

-- Place i has the first entry of that number: a look-up finds it, and a change or a removal by number is one at i.
pub record IsPlaceOf {X : Type 0} (number : ℕ) (entries : List (ℕ × X)) (i : ℕ) : Type 0 where
  pub within : i < length entries
  pub found : lookup (λ n. n == number) entries ≡ option_map (λ e. e.1) (slice_get entries i)
  pub changed : (x : X) → set_value (λ n. n == number) entries x ≡ slice_set entries i (number, x)
  pub removed : remove_entry (λ n. n == number) entries ≡ remove entries i

-- the numbers of the entries rise from `low` on, each below the next number
abbrev pub IsNumbered : {X : Type 0} → ℕ → List (ℕ × X) → ℕ → Type 0
IsNumbered low [] next = low ≤ next
IsNumbered low (e ∷ entries) next = (low ≤ e.0) × IsNumbered (e.0 + 1) entries next

-- the number of each entry is above those before it
abbrev pub AreRising : {X : Type 0} → List (ℕ × X) → Type 0
AreRising {X} entries =
    (i j : ℕ) (d : ℕ × X) → i < j → j < length entries → (slice_index_or entries i d).0 < (slice_index_or entries j d).0
