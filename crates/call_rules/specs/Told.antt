-- Calls that are answered whole without an object's file.
use Rattle.std.specs.Prelude.{◌≡◌, ℕ, false}
use Rattle.tee_types.specs.declared.call.Call.{Call}
use Rattle.tee_types.specs.declared.reply.Reply.{Reply}
use Rattle.store_model.specs.Machine.{Session, MachineState, Outcome, with_session}
use Rattle.store_model.specs.Calls.{outcome_of, is_commit}
use Rattle.store_model.specs.Files.{reads_file}

-- the reply, and the state with that session in place of session i
abbrev pub told : MachineState → ℕ → Reply → Session → Outcome
told s i reply session = record { reply = reply; next = with_session s i session }

-- The machine answers the call so, and leaves the session so and all else as it was. That is no commit, and what an object's file holds
-- has no part in it.
pub record IsTold (s : MachineState) (i : ℕ) (call : Call) (reply : Reply) (session : Session) : Type 0 where
  pub outcome : outcome_of s i call ≡ told s i reply session
  pub no_commit : is_commit s i call reply ≡ false
  pub no_file : reads_file call reply ≡ false
