-- The states of the machine that a directory's entries, a table of open handles and a session stand for.
use Rattle.std.specs.Prelude.{◌≡◌, ◌<◌, ℕ, List, length, Option}
use Rattle.store_model.specs.Machine.{Session, MachineState, session_at}
use Rattle.dir_records.specs.declared.entry.DirEntry.{DirEntry}
use Rattle.open_table.specs.Table.{TableState}
use Rattle.call_rules.specs.Shapes.{HasShape}
use Rattle.call_rules.specs.OpenHandles.{AreOpen}

-- The objects have the names and the sizes of the entries, the open handles are those of the table, and session i is the caller's.
pub record Matches (entries : List (Option DirEntry)) (table : TableState) (caller : Session) (s : MachineState) (i : ℕ) : Type 0 where
  pub shaped : HasShape entries s.objects
  pub handles : AreOpen entries table s.sessions
  pub within : i < length s.sessions
  pub session : session_at s i ≡ caller
