-- The generation of a file.
use Rattle.std.specs.Prelude.{◌==◌, ℕ, if◌then◌else◌, List, [], ◌∷◌, Option, Some, None}
use Rattle.dir_records.specs.declared.entry.DirEntry.{DirEntry}

-- that of the entry that names it, and 0 where none does
abbrev pub generation_in : List (Option DirEntry) → (file : ℕ) → ℕ
generation_in [] file = 0
generation_in (None ∷ entries) file = generation_in entries file
generation_in (Some e ∷ entries) file = if e.file == file then e.generation else generation_in entries file
