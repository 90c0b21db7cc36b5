-- What a gate behind its lock tells of the machine, under each tamper scenario under which its history is answered.
use Rattle.std.specs.Prelude.{◌≡◌, ◌<◌, List, Option, length}
use Rattle.open_table.specs.Table.{TableState}
use Rattle.store_model.specs.Machine.{MachineState, session_at}
use Rattle.dir_records.specs.declared.entry.DirEntry.{DirEntry}
use Rattle.history_seats.specs.Views.{GateView}
use Rattle.crash_core.specs.EntryLists.{AreDistinct}
use Rattle.core_laws.specs.TamperScenarios.{TamperScenario}
use Rattle.core_laws.specs.Stores.{Store, replay_at}
use Rattle.core_laws.specs.Answered.{AreAnswered}
use Rattle.commit_gate.specs.CallerSessions.{CallerSession, IsCallerOf}
use Rattle.commit_gate.specs.SessionViews.{SeesAll}
use Rattle.store_commit.specs.Gates.{GateValue}
use Rattle.call_rules.specs.Shapes.{HasShape}
use Rattle.call_rules.specs.OpenHandles.{AreOpen}
use Rattle.call_rules.specs.WellOpened.{WellOpened}
use Rattle.commit_gate.specs.declared.guarded_gate.Closing.{Closing}
use Rattle.commit_gate.specs.GuardedGates.{GateInvariant}

-- The objects have the names and the sizes of the entries, the open handles are those of the table, and each is on an object that is there.
pub record IsMachineOf (entries : List (Option DirEntry)) (table : TableState) (s : MachineState) : Type 0 where
  pub shaped : HasShape entries s.objects
  pub handles : AreOpen entries table s.sessions
  pub opened : WellOpened s

-- so of the machine after these records, wherever all are answered
abbrev pub KnowsMachine : Store → GateView → List (Option DirEntry) → TableState → Type 0
KnowsMachine store knows entries table =
    (scenario : TamperScenario) → AreAnswered store scenario knows.all → IsMachineOf entries table (replay_at store scenario knows.all).state

-- A gate behind its lock knows the machine.
abbrev pub GuardedGatesKnow : (F R : Type 0) → Type 0
GuardedGatesKnow F R =
    (store : Store) (gate : GateValue F R) (knows : GateView) (closing : Option Closing) → GateInvariant store gate knows closing → AreDistinct gate.dir.dir.entries
    → KnowsMachine store knows gate.dir.dir.entries gate.open_handles

-- The machine has the caller's session, as that stands.
pub record IsSessionAt (s : MachineState) {E : Type 0} (caller : CallerSession E) : Type 0 where
  pub within : caller.number < length s.sessions
  pub is : session_at s caller.number ≡ caller.state

-- So it is of a session that sees the whole history.
abbrev pub ShownSessionsStand : (E : Type 0) → Type 0
ShownSessionsStand E =
    (store : Store) (knows : GateView) (caller : CallerSession E) → IsCallerOf store caller → SeesAll knows caller.pass → (scenario : TamperScenario)
    → AreAnswered store scenario knows.all → IsSessionAt (replay_at store scenario knows.all).state caller
