-- Files of the old format. A store that has one is moved before it is served.
use Rattle.std.specs.Prelude.{◌==◌, ℕ, List, [], ◌∷◌, cond, Option, Some, None, Result, Ok, Err}
use Rattle.node_image.specs.declared.node.RootRef.{RootRef}
use Rattle.hmac_keys.specs.declared.Keys.{Keys}
use Rattle.dir_records.specs.declared.entry.DirEntry.{DirEntry}
use Rattle.crash_core.specs.Refusal.{Refusal}
use Rattle.crash_core.specs.CardBlock.{directory_at, old_format, root_in}
use Rattle.crash_core.specs.Pictures.{Picture, block_zero}
use Rattle.crash_core.specs.Mounting.{mounted_directory}

-- the file of the first entry whose file is of the old format
abbrev pub first_old : List (Option DirEntry) → Option ℕ
first_old [] = None
first_old (None ∷ entries) = first_old entries
first_old (Some e ∷ entries) = cond (e.format == old_format) (Some e.file) (first_old entries)

-- where the directory loads
abbrev pub old_entry : Result (List (Option DirEntry)) Refusal → Option ℕ
old_entry (Ok entries) = first_old entries
old_entry (Err refusal) = None

-- the directory's file, where it is of the old format, comes before those of the entries
abbrev pub old_under : Result RootRef Refusal → Result (List (Option DirEntry)) Refusal → Option ℕ
old_under (Ok root) directory = cond (root.format == old_format) (Some (directory_at root.format)) (old_entry directory)
old_under (Err refusal) directory = None

-- The file for which a mount refuses the picture as one of the old format, if there is one.
abbrev pub old_file : Keys → Picture → Option ℕ
old_file keys picture = old_under (root_in (block_zero picture.card)) (mounted_directory keys picture)
