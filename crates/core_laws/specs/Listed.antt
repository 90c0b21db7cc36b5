-- The entries of the gate's directory are those of the history's, in whatever order either has them.
use Rattle.std.specs.Prelude.{◌≡◌, ℕ, List, Option, Some, Contains}
use Rattle.tee_types.specs.declared.call.Call.{Call}
use Rattle.store_model.specs.Machine.{MachineState, session_at}
use Rattle.store_model.specs.Makes.{MakesChange, MapChange}
use Rattle.store_model.specs.Object.{Object}
use Rattle.store_model.specs.Record.{Tag}
use Rattle.dir_records.specs.declared.entry.DirEntry.{DirEntry}
use Rattle.history_seats.specs.Records.{Version}
use Rattle.history_seats.specs.Mounts.{Entry}
use Rattle.history_seats.specs.Directory.{entries_committed}
use Rattle.crash_core.specs.Entries.{name_of}
use Rattle.crash_core.specs.EntryLists.{AreDistinct, AreSingle, entry_at}
use Rattle.crash_core.specs.declared.change.EntryChange.{EntryChange}
use Rattle.crash_core.specs.declared.change.EntryChange.TheVariants.{Clear, Put}
use Rattle.crash_core.specs.EntryChanges.{IsChange, changed}

-- what the history keeps of an entry
abbrev pub history_entry : DirEntry → Entry
history_entry e = record { name = name_of e; file = e.file; generation = e.generation }

-- an entry of the directory is that of the history
pub record IsInDirectory (entries : List (Option DirEntry)) (x : Entry) : Type 0 where
  pub index : ℕ
  pub entry : DirEntry
  pub at : entry_at entries index ≡ Some entry
  pub is : history_entry entry ≡ x

pub record AreListed (entries : List (Option DirEntry)) (listed : List Entry) : Type 0 where
  pub each : (index : ℕ) (e : DirEntry) → entry_at entries index ≡ Some e → Contains listed (history_entry e)
  pub back : (x : Entry) → Contains listed x → IsInDirectory entries x

-- the tag names the entry's file and generation
pub record IsTagOf (tag : Tag Version) (e : DirEntry) : Type 0 where
  pub file : tag.file ≡ e.file
  pub generation : tag.generation ≡ e.generation

-- it is of the entry that a change puts, or of the one that it clears
abbrev pub IsTagOfChange : List (Option DirEntry) → EntryChange → Tag Version → Type 0
IsTagOfChange entries (Put index e) tag = IsTagOf tag e
IsTagOfChange entries (Clear index) tag = (e : DirEntry) → entry_at entries index ≡ Some e → IsTagOf tag e

-- A commit under a tag leaves the same entries of both, where the change is the one that its call makes.
abbrev pub CommitsKeepListed : Type 0
CommitsKeepListed =
    (s : MachineState) (session : ℕ) (call : Call) (made : MapChange) (entries : List (Option DirEntry)) (counter : ℕ) (change : EntryChange) (object : Object) (tag : Tag Version) (listed : List Entry)
    → MakesChange s session call made → IsChange s.objects entries counter made change object → IsTagOfChange entries change tag
    → AreDistinct (changed entries change) → AreSingle entries → AreListed entries listed
    → AreListed (changed entries change) (entries_committed (session_at s session).application call (Some tag) listed)
