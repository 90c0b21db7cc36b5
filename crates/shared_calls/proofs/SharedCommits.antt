-- What a commit on an object leaves of the session whose call it was.
use Rattle.std.proofs.Common.{ℕ}
use Rattle.serial_calls.specs.CallerSessions.{CallerSession}
use Rattle.disk_model.specs.State.{FileState}
use Rattle.serial_calls.specs.declared.PlacedReply.{PlacedReply}
use Rattle.serial_calls.specs.GateEnds.{mark_told}
use Rattle.serial_calls.specs.GuardedGates.{GuardedGateValue}
use Rattle.serial_calls.specs.ObjectCommits.{IsCommitted}
use Rattle.rpmb_card.specs.Port.{PortState}
use Rattle.serial_calls.specs.declared.EntryChange.{EntryChange}
use Rattle.serial_calls.specs.Stores.{Store}
use Rattle.tee_types.specs.declared.call.Call.{Call}
use Rattle.tee_types.specs.declared.reply.Reply.{Reply}
use Rattle.shared_calls.specs.Attempts.{IsAnswered}

module _ {F R E : Type 0} (of_file : F → FileState) (of_port : R → PortState) (draws : E → ℕ) (store : Store) (old new : GuardedGateValue F R) (file : ℕ) (was now : CallerSession E) (call : Call) (own : Reply)
    (change : EntryChange) (Reliable : Type 0) (answer : PlacedReply) (c : IsCommitted of_file of_port store old new file was now call own change Reliable (draws was.entropy) (draws now.entropy) answer) where
  -- the call is answered by how its commit ended
  pub committed-answers : IsAnswered store was now call answer
  committed-answers = record { mark = mark_told c.end; appends = c.appends }
