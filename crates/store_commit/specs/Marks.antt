-- Marks of the files that are in use, by their numbers.
use Rattle.std.specs.Prelude.{◌≡◌, ◌⊎◌, ◌+◌, ◌<◌, ◌≤◌, ℕ, zero, suc, Bool, true, false, List, [], ◌∷◌, length, get_or, slice_set, Option, Some, None}
use Rattle.std.specs.Option.{option_map}
use Rattle.tee_types.specs.Limits.{last_file}
use Rattle.dir_records.specs.declared.entry.DirEntry.{DirEntry}

abbrev pub is_marked : List Bool → (file : ℕ) → Bool
is_marked marks file = get_or marks file false

-- with a mark more, if there is a file
abbrev pub marked : List Bool → Option ℕ → List Bool
marked marks None = marks
marked marks (Some file) = slice_set marks file true

-- how many are marked
unfoldable pub mark_count : List Bool → ℕ
mark_count [] = 0
mark_count (true ∷ marks) = suc (mark_count marks)
mark_count (false ∷ marks) = mark_count marks

abbrev pub one_if : Option ℕ → ℕ
one_if None = 0
one_if (Some file) = 1

-- how many of the first n use a file
unfoldable pub use_count : (uses : ℕ → Option ℕ) → (n : ℕ) → ℕ
use_count uses zero = 0
use_count uses (suc n) = use_count uses n + one_if (uses n)

-- The files that the first n use were marked besides.
pub record AreMarked (uses : ℕ → Option ℕ) (n : ℕ) (old new : List Bool) : Type 0 where
  pub long : length new ≡ length old
  pub kept : (file : ℕ) → is_marked old file ≡ true → is_marked new file ≡ true
  pub each : (i file : ℕ) → i < n → uses i ≡ Some file → is_marked new file ≡ true
  pub only : (file : ℕ) → is_marked new file ≡ true → (is_marked old file ≡ true) ⊎ ((i : ℕ) × (i < n) × (uses i ≡ Some file))
  pub few : mark_count new ≤ mark_count old + use_count uses n

-- the file that the entry of an index names
abbrev pub file_named : List (Option DirEntry) → (index : ℕ) → Option ℕ
file_named entries index = option_map (λ e. e.file) (get_or entries index None)

-- the least file from 1 on that is not marked
pub record IsFirstUnmarked (marks : List Bool) (file : ℕ) : Type 0 where
  pub from : 1 ≤ file
  pub upto : file ≤ last_file
  pub unmarked : is_marked marks file ≡ false
  pub least : (other : ℕ) → 1 ≤ other → other < file → is_marked marks other ≡ true
