-- Sharing by the file of an entry is sharing by its name.
use Rattle.std.specs.Prelude.{◌≡◌, ℕ, List, Option, Some}
use Rattle.std.specs.List.{list_all, list_any}
use Rattle.tee_types.specs.declared.flags.Flags.{Flags}
use Rattle.dir_records.specs.declared.entry.DirEntry.{DirEntry}
use Rattle.open_table.specs.Table.{TableState, allows_on_file, is_file_open}
use Rattle.store_model.specs.Machine.{Session}
use Rattle.store_model.specs.Handles.{allows_open, has_open}
use Rattle.core_laws.specs.Entries.{name_of}
use Rattle.core_laws.specs.EntryLists.{AreDistinct, AreSingle, entry_at}
use Rattle.call_rules.specs.OpenHandles.{AreOpen}

-- The table allows a handle on an entry's file where each session allows one on its object.
abbrev pub FilesAllowAsNames : Type 0
FilesAllowAsNames =
    (entries : List (Option DirEntry)) (table : TableState) (sessions : List Session) → AreOpen entries table sessions → AreSingle entries → AreDistinct entries
    → (index : ℕ) (e : DirEntry) → entry_at entries index ≡ Some e → (flags : Flags)
    → allows_on_file table e.file flags ≡ list_all (allows_open (name_of e) flags) sessions

-- The table has a handle on an entry's file where some session has one on its object.
abbrev pub FilesAreOpenAsNames : Type 0
FilesAreOpenAsNames =
    (entries : List (Option DirEntry)) (table : TableState) (sessions : List Session) → AreOpen entries table sessions → AreSingle entries → AreDistinct entries
    → (index : ℕ) (e : DirEntry) → entry_at entries index ≡ Some e → is_file_open table e.file ≡ list_any (has_open (name_of e)) sessions
