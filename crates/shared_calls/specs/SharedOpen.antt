-- What an Open found at the gate, and what its slot gave, before it is appended.
use Rattle.std.specs.Prelude.{List, Option, Some, false, ℕ, ◌≡◌}
use Rattle.call_rules.specs.Matches.{Matches}
use Rattle.call_rules.specs.Objects.{IsOpened}
use Rattle.dir_index.specs.Index.{named}
use Rattle.dir_records.specs.declared.entry.DirEntry.{DirEntry}
use Rattle.disk_model.specs.State.{FileState}
use Rattle.history_seats.specs.Records.{Version}
use Rattle.serial_calls.specs.GuardedReads.{GivesVersion}
use Rattle.serial_calls.specs.ReadyEntries.{IsReady}
use Rattle.serial_calls.specs.SlotValues.{SlotValue}
use Rattle.open_table.specs.Table.{TableState}
use Rattle.dir_index.specs.declared.Held.{Held}
use Rattle.dir_index.specs.EntryNames.{IsEntryNamed}
use Rattle.store_model.specs.Machine.{MachineState, Session, has_all_handles}
use Rattle.serial_calls.specs.Stores.{Store}
use Rattle.tee_types.specs.declared.flags.Flags.{Flags}
use Rattle.tee_types.specs.declared.reply.Reply.{Reply}

-- The entry is that of the session's object of that identifier. The session may have a handle more, and the machine opens the object where it
-- is sound.
pub record MayOpen (entries : List (Option DirEntry)) (table : TableState) (session : Session) (number : ℕ) (id : List ℕ) (flags : Flags) (held : Held) : Type 0 where
  pub is_named : IsEntryNamed entries (named session.application id) (Some held)
  pub few : has_all_handles session ≡ false
  pub opens : (m : MachineState) → Matches entries table session m number → IsOpened m number id flags held.entry.size

-- The slot gives a version, whose object is loaded, or that is the reply to any call on it.
pub record HasLoaded (store : Store) (slot : SlotValue) (unloaded : Option Reply) : Type 0 where
  pub version : Version
  pub gives : GivesVersion slot version
  pub was : FileState
  pub ready : IsReady store was slot version unloaded
