-- What holds of every directory that is read, and of the block that names one.
use Rattle.std.specs.Prelude.{◌≡◌, ◌↔◌, ℕ, List, length, Option, Some, Ok}
use Rattle.node_image.specs.declared.node.RootRef.{RootRef}
use Rattle.htree_file.specs.Pages.{opened_of}
use Rattle.dir_records.specs.declared.entry.DirEntry.{DirEntry}
use Rattle.dir_records.specs.Form.{HasForm}
use Rattle.crash_core.specs.Directory.{directory_from, directory_of}
use Rattle.crash_core.specs.EntryLists.{AreDistinct, AreSingle, entry_at}
use Rattle.crash_core.specs.CardBlock.{IsReference, root_block, root_in}

-- The block that names a directory is read back.
abbrev pub BlocksAreReadBack : Type 0
BlocksAreReadBack = (root : RootRef) → IsReference root → root_in (root_block root) ≡ Ok root

-- Which entries a directory has is told by what its reference opens to.
abbrev pub DirectoriesAreOpened : Type 0
DirectoriesAreOpened =
    (tsk image : List ℕ) (root : RootRef) (entries : List (Option DirEntry))
    → (directory_of tsk image root ≡ Ok entries) ↔ (directory_from (opened_of tsk image root) ≡ Ok entries)

-- 256 entries in their forms, no two of one name or one file
pub record AreEntries (entries : List (Option DirEntry)) : Type 0 where
  pub whole : length entries ≡ 256
  pub forms : (index : ℕ) (e : DirEntry) → entry_at entries index ≡ Some e → HasForm e
  pub distinct : AreDistinct entries
  pub single : AreSingle entries

-- A directory that is read has such entries.
abbrev pub DirectoriesHaveEntries : Type 0
DirectoriesHaveEntries = (tsk image : List ℕ) (root : RootRef) (entries : List (Option DirEntry)) → directory_of tsk image root ≡ Ok entries → AreEntries entries
