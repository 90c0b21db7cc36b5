-- When a reply may be appended with the slot of its call's object, which changes nothing of it.
use Rattle.std.specs.Prelude.{IsTrue, None, Some, false, ℕ, ◌≡◌}
use Rattle.call_steps.specs.CallerSessions.{CallerSession}
use Rattle.call_rules.specs.Matches.{Matches}
use Rattle.crash_core.specs.EntryLists.{entry_at}
use Rattle.dir_records.specs.declared.entry.DirEntry.{DirEntry}
use Rattle.history_seats.specs.Numbers.{is_in}
use Rattle.history_seats.specs.Records.{Version}
use Rattle.history_seats.specs.Views.{GateView}
use Rattle.call_steps.specs.Commits.{IsCalm}
use Rattle.call_steps.specs.ReplyLaws.{told_record}
use Rattle.call_rules.specs.WellOpened.{WellOpened}
use Rattle.call_steps.specs.SlotCatchUp.{IsAtEntry}
use Rattle.call_steps.specs.SlotValues.{SlotValue}
use Rattle.call_steps.specs.Gates.{GateValue}
use Rattle.store_model.specs.Calls.{is_handle}
use Rattle.store_model.specs.Machine.{MachineState, session_at}
use Rattle.store_model.specs.Record.{fault_in_reply}
use Rattle.store_model.specs.ReplayState.{state_unless_undone}
use Rattle.core_laws.specs.Answered.{AreAnswered, IsFairAt, IsLegalAt}
use Rattle.core_laws.specs.TamperScenarios.{TamperScenario}
use Rattle.core_laws.specs.Stores.{Store}
use Rattle.tee_types.specs.declared.call.Call.{Call}
use Rattle.tee_types.specs.declared.reply.Reply.{Reply}

-- The call is on the object of one of the gate's entries, at which the slot is, and comes from a session that saw the whole history. The reply
-- gives no handle and accuses no object's file; it leaves the session, is fair, and is legal where the file is honest.
pub record MayBeAppended {F R E : Type 0} (store : Store) (gate : GateValue F R) (knows : GateView) (slot : SlotValue) (call : Call) (reply : Reply) (s : CallerSession E) : Type 0 where
  pub idle : gate.doubt ≡ None
  pub calm : IsCalm store knows s
  pub index : ℕ
  pub entry : DirEntry
  pub held : entry_at gate.dir.dir.entries index ≡ Some entry
  pub version : Version
  pub at : IsAtEntry knows slot entry version
  pub no_handle : is_handle reply ≡ false
  pub no_file : fault_in_reply reply ≡ None
  pub stays : (m : MachineState) → Matches gate.dir.dir.entries gate.open_handles s.state m s.number → WellOpened m → session_at (state_unless_undone m s.number call reply) s.number ≡ s.state
  pub fair : (scenario : TamperScenario) → IsFairAt store scenario knows.all (told_record s.number s.made call reply entry.file entry.generation version)
  pub legal : IsTrue slot.file.honest → (scenario : TamperScenario) → is_in slot.number scenario.tampered ≡ false → AreAnswered store scenario knows.all
      → IsLegalAt store scenario knows.all (told_record s.number s.made call reply entry.file entry.generation version)
