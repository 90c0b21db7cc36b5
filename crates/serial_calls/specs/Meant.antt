-- A call on an open object that the machine answers whatever the object's bytes are, and that changes nothing.
use Rattle.std.specs.Prelude.{Some, false, ℕ, ◌≡◌}
use Rattle.call_steps.specs.CallerSessions.{CallerSession}
use Rattle.call_rules.specs.Matches.{Matches}
use Rattle.crash_core.specs.Entries.{name_of}
use Rattle.dir_records.specs.declared.entry.DirEntry.{DirEntry}
use Rattle.call_rules.specs.WellOpened.{WellOpened}
use Rattle.call_steps.specs.Gates.{GateValue}
use Rattle.store_model.specs.Calls.{is_commit, reply_of, state_after}
use Rattle.store_model.specs.Files.{object_named}
use Rattle.store_model.specs.Machine.{MachineState, session_at}
use Rattle.tee_types.specs.declared.call.Call.{Call}
use Rattle.tee_types.specs.declared.reply.Reply.{Reply}

-- The call names the entry's object. The machine answers it so, which is no commit, and leaves the session.
pub record IsMeantCall (m : MachineState) (session : ℕ) (e : DirEntry) (call : Call) (reply : Reply) : Type 0 where
  pub named : object_named m session call ≡ Some (name_of e)
  pub replied : reply_of m session call ≡ reply
  pub quiet : is_commit m session call reply ≡ false
  pub stays : session_at (state_after m session call) session ≡ session_at m session

-- so wherever the machine has the gate's entries and open handles, whose objects are sound
abbrev pub IsMeantAnyhow : {F R E : Type 0} → GateValue F R → CallerSession E → DirEntry → Call → Reply → Type 0
IsMeantAnyhow gate s e call reply =
    (m : MachineState) → Matches gate.dir.dir.entries gate.open_handles s.state m s.number → WellOpened m → IsMeantCall m s.number e call reply
