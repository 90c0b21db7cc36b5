-- The directory's entries by index beside those that the history gives by name.
use Rattle.std.specs.Prelude.{◌≡◌, ℕ, List, Option, Some}
use Rattle.dir_records.specs.declared.entry.DirEntry.{DirEntry}
use Rattle.crash_core.specs.Entries.{name_of}
use Rattle.crash_core.specs.EntryLists.{AreDistinct, AreSingle, entry_at}
use Rattle.history_seats.specs.Records.{Version}
use Rattle.history_seats.specs.Mounts.{Entry}
use Rattle.core_laws.specs.GateParts.{IsVersionOf}
use Rattle.core_laws.specs.Listed.{AreListed, history_entry}
use Rattle.core_laws.specs.Stores.{entry_named}
use Rattle.core_laws.specs.Mapped.{AreApart, Versions}

-- Each entry of the directory has its version.
abbrev pub HaveListedVersions : List (Option DirEntry) → Versions → Type 0
HaveListedVersions listed versions =
    (index : ℕ) (e : DirEntry) → entry_at listed index ≡ Some e → (v : Version) × (versions e.file e.generation ≡ Some v) × IsVersionOf e v

-- Entries that a directory lists, no two of one file, are apart.
abbrev pub ListedEntriesAreApart : Type 0
ListedEntriesAreApart = (listed : List (Option DirEntry)) (entries : List Entry) → AreListed listed entries → AreSingle listed → AreApart entries

-- Each entry of a directory is found among the history's by its name, where no two have one name.
abbrev pub ListedEntriesAreNamed : Type 0
ListedEntriesAreNamed =
    (listed : List (Option DirEntry)) (entries : List Entry) → AreListed listed entries → AreDistinct listed
    → (index : ℕ) (e : DirEntry) → entry_at listed index ≡ Some e → entry_named (name_of e) entries ≡ Some (history_entry e)
