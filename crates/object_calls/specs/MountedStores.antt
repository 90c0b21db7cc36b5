-- When a store is the one of a mounted bench.
use Rattle.std.specs.Prelude.{◌≡◌, ℕ, List, [], Option, Some}
use Rattle.disk_model.specs.State.{FileState, Sound, pending}
use Rattle.dir_records.specs.declared.entry.DirEntry.{DirEntry}
use Rattle.crash_core.specs.DirectoryLaws.{AreEntries}
use Rattle.crash_core.specs.EntryLists.{AreCurrent, entry_at}
use Rattle.crash_core.specs.Opening.{opening_map}
use Rattle.core_laws.specs.Masked.{told_taints}
use Rattle.core_laws.specs.Stores.{Store}
use Rattle.object_calls.specs.MountedEntries.{mounted_entries}

-- Its mount tells of the directory's entries, and its objects are those that the entries name, as the files read. Nothing is pending on a
-- file that an entry names, and its masks are those that the files tell.
pub record IsMountedStore (store : Store) (files : ℕ → FileState) (entries : List (Option DirEntry)) : Type 0 where
  pub forms : AreEntries entries
  pub current : AreCurrent entries
  pub sound : (file : ℕ) → Sound (files file)
  pub synced : (index : ℕ) (e : DirEntry) → entry_at entries index ≡ Some e → pending (files e.file) ≡ []
  pub told : store.mounted.entries ≡ mounted_entries store.keys files entries
  pub objects : store.objects ≡ opening_map store.keys files entries
  pub taints : (file : ℕ) → store.taints file ≡ told_taints (files file)
