-- When the reply that an object's file gave may be appended.
use Rattle.std.specs.Prelude.{◌≡◌, ℕ, true, false, List, None, Option, Some}
use Rattle.tee_types.specs.declared.call.Call.{Call}
use Rattle.tee_types.specs.declared.reply.Reply.{Reply}
use Rattle.tee_types.specs.declared.reply.Reply.TheVariants.{CounterSpent}
use Rattle.rpmb_card.specs.Protocol.{last_counter}
use Rattle.dir_records.specs.declared.entry.DirEntry.{DirEntry}
use Rattle.open_table.specs.Table.{TableState}
use Rattle.store_model.specs.Calls.{state_after}
use Rattle.store_model.specs.Machine.{MachineState, Session, session_at}
use Rattle.store_model.specs.ReplayState.{is_undone}
use Rattle.crash_core.specs.EntryLists.{entry_at}
use Rattle.history_seats.specs.Records.{Version}
use Rattle.history_seats.specs.Views.{GateView}
use Rattle.core_laws.specs.Stores.{Store}
use Rattle.commit_gate.specs.CallerSessions.{CallerSession, IsCallerOf}
use Rattle.commit_gate.specs.SessionViews.{SeesAll}
use Rattle.call_rules.specs.Matches.{Matches}
use Rattle.commit_gate.specs.Gates.{GateValue}
use Rattle.object_slots.specs.SlotValues.{SlotValue}
use Rattle.call_steps.specs.SlotCatchUp.{IsAtEntry}
use Rattle.call_steps.specs.FileAnswers.{IsFileAnswer}
use Rattle.call_steps.specs.EntryAnswers.{IsEntryCall, MeansAlike}

-- The session saw the whole history, as it stood before its call changed its state, and no commit of its own is in doubt. It is as the
-- machine's, where that answers so.
pub record MovesAlike {E : Type 0} (store : Store) (knows : GateView) (entries : List (Option DirEntry)) (table : TableState) (call : Call) (reply : Reply) (before : Session) (s : CallerSession E) : Type 0 where
  pub was : IsCallerOf store (record s { state = before })
  pub sees : SeesAll knows s.pass
  pub settled : s.doubt ≡ None
  pub application : s.state.application ≡ before.application
  pub undone : is_undone reply ≡ true → s.state ≡ before
  pub done : is_undone reply ≡ false → (m : MachineState) → Matches entries table before m s.number → MeansAlike m s.number call reply
      → session_at (state_after m s.number call) s.number ≡ s.state

-- that the card's counter is at its end is told only where it is
abbrev pub TellsCounter : (counter : ℕ) → Reply → Type 0
TellsCounter counter (CounterSpent last) = counter ≡ last_counter
TellsCounter counter reply = Unit {0}

-- The call is on the object of one of the gate's entries, the slot is at that entry, and its file gave the reply.
pub record MayBeServed {F R E : Type 0} (store : Store) (gate : GateValue F R) (knows : GateView) (slot : SlotValue) (call : Call) (reply : Reply) (s : CallerSession E) : Type 0 where
  pub idle : gate.doubt ≡ None
  pub index : ℕ
  pub entry : DirEntry
  pub held : entry_at gate.dir.dir.entries index ≡ Some entry
  pub version : Version
  pub at : IsAtEntry knows slot entry version
  pub position : ℕ
  pub answers : IsFileAnswer store slot.file slot.number version position call reply
  pub counter : TellsCounter gate.counter reply
  pub before : Session
  pub moves : MovesAlike store knows gate.dir.dir.entries gate.open_handles call reply before s
  pub on : (m : MachineState) → Matches gate.dir.dir.entries gate.open_handles before m s.number → IsEntryCall m s.number entry position call reply
