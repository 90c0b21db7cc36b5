-- A create that ended at the gate, as a call that was answered, and what always holds behind it.
use Rattle.std.proofs.Common.{◌≡◌, [], ℕ, Err, IfSome, IsNone, None, Ok, Option, Result, Some, ap, refl, subst, sym}
use Rattle.tee_types.specs.Limits.{IsObjectFile}
use Rattle.serial_calls.specs.CallerSessions.{CallerSession}
use Rattle.call_rules.specs.declared.decision.NewPlace.{NewPlace}
use Rattle.serial_calls.specs.CreateEnds.{IsCommittableNew, IsFinished, IsToldWhy}
use Rattle.serial_calls.specs.CreateEnds.IsCommittableOrSpent.{Committable, Uncommittable}
use Rattle.serial_calls.specs.Rules.{NewObject, create_call}
use Rattle.serial_calls.specs.CreateFailure.{reply_unmade}
use Rattle.serial_calls.specs.declared.create_failure.CreateFailure.{CreateFailure}
use Rattle.serial_calls.specs.declared.create_failure.CreateFailure.TheVariants.{Failed, Spent}
use Rattle.disk_model.specs.State.{FileState}
use Rattle.hmac_keys.specs.KeyTable.{rpmb_key}
use Rattle.serial_calls.specs.GuardedGates.{GuardedGateValue}
use Rattle.serial_calls.specs.declared.PlacedReply.{PlacedReply}
use Rattle.serial_calls.specs.Fits.{SeesWhole}
use Rattle.node_image.specs.declared.node.RootRef.{RootRef}
use Rattle.serial_calls.specs.SlotValues.{SlotValue}
use Rattle.rpmb_card.specs.Port.{PortState}
use Rattle.serial_calls.specs.Stores.{Store}
use Rattle.tee_types.specs.declared.call.Call.{Call}
use Rattle.tee_types.specs.declared.reply.Cause.TheVariants.{CardResult, Fault, Frame}
use Rattle.tee_types.specs.declared.reply.Device.TheVariants.{Card, Dir, Entropy, File}
use Rattle.tee_types.specs.declared.reply.Reply.{Reply}
use Rattle.serial_calls.specs.DeviceCounts.{told_of}
use Rattle.serial_calls.specs.Devices.{Devices, Grows}
use Rattle.serial_calls.specs.ServeReady.{KnowsCard}
use Rattle.shared_calls.specs.SharedCounts.{CarriesDraws}
use Rattle.shared_calls.specs.SharedCreate.{AccusesAtMost, CarriesMade, told_made}
use Rattle.shared_calls.specs.Kept.{KeepsGate, KeepsSlot}
use Rattle.shared_calls.specs.Attempts.{EndsAttempt, IsAnswered}
use Rattle.serial_calls.specs.SessionEvents.{IsWaiting}
use Rattle.shared_calls.proofs.AnsweredSlots.{keeps-committable, keeps-served}
use Rattle.shared_calls.proofs.CarriedAttempts.{carries-grown}
use Rattle.shared_calls.proofs.CarriedDraws.{carries-committed}
use Rattle.shared_calls.proofs.SharedCommits.{committed-answers}
use Rattle.shared_calls.proofs.KeptCalls.{keeps-committed}
use Rattle.shared_calls.proofs.Served.{slot-answers}
use Rattle.shared_calls.proofs.SparedGates.{SparesGate, keeps-spared}
use Rattle.shared_calls.proofs.Waiting.{answers-then}

-- that an object was not made is an answer
module _ {F R E : Type 0} (store : Store) (old new : GuardedGateValue F R) (file : ℕ) (was now : CallerSession E) (object : NewObject) (why : CreateFailure) (answer : PlacedReply)
    (t : IsToldWhy store old new file was now object why answer) where
  unmade-answers : IsAnswered store was now (create_call object) answer
  unmade-answers = slot-answers store (create_call object) was now answer old new file t.told.served

-- neither the directory's file nor the card is accused
unmade-spares : (file : ℕ) (why : CreateFailure) → AccusesAtMost file (Err why) → SparesGate (reply_unmade why)
unmade-spares file (Failed (Fault (File n) count)) accuses = tt
unmade-spares file (Failed (Fault Entropy count)) accuses = tt
unmade-spares file (Failed (Fault Dir count)) accuses = absurd accuses
unmade-spares file (Failed (Fault Card count)) accuses = absurd accuses
unmade-spares file (Failed (Frame fault)) accuses = absurd accuses
unmade-spares file (Failed (CardResult result)) accuses = absurd accuses
unmade-spares file Spent accuses = tt

module _ {F R E : Type 0} (of_file : F → FileState) (of_port : R → PortState) (store : Store) (old new : GuardedGateValue F R) (file : ℕ) (was now : CallerSession E)
    (faults : E → ℕ) (object : NewObject) (place : NewPlace) (Reliable : Type 0) (answer : PlacedReply) where
  abbrev drew : ℕ
  drew = faults was.entropy

  abbrev draws : ℕ
  draws = faults now.entropy

  abbrev Brings : Type 0
  Brings = IsCommittableNew of_file of_port store old new file was now object place Reliable drew draws answer

  abbrev Finishes : Result RootRef CreateFailure → Type 0
  Finishes made = IsFinished of_file of_port store old new file was now object place Reliable drew draws made answer

  committable-answers : Brings → IsAnswered store was now (create_call object) answer
  committable-answers b = committed-answers of_file of_port faults store old new file was now (create_call object) _ _ Reliable answer b.committed

  pub finished-answers : (made : Result RootRef CreateFailure) → Finishes made → IsAnswered store was now (create_call object) answer
  finished-answers (Ok root) (Committable b low) = committable-answers b.0
  finished-answers (Ok root) (Uncommittable t spent) = unmade-answers store old new file was now object Spent answer t
  finished-answers (Err why) t = unmade-answers store old new file was now object why answer t

  -- A reply that accuses the entropy carries its count, if that of the object's making did: the gate knows its card.
  pub finished-carries : KnowsCard (of_port old.gate.host.port) old.gate.host.key (rpmb_key store.keys.huk) old.gate.counter → (first : ℕ) → Grows first drew
      → (made : Result RootRef CreateFailure) → Finishes made → CarriesMade first drew made → CarriesDraws first draws answer.reply
  finished-carries known first grows (Ok root) (Committable b low) carries =
      carries-grown first drew draws answer.reply grows
      (carries-committed of_file of_port faults store old new file was now (create_call object) _ _ Reliable answer (λ d0 d1. tt) known (b.0).committed)
  finished-carries known first grows (Ok root) (Uncommittable t spent) carries = subst (CarriesDraws first draws) (sym t.reply) tt
  finished-carries known first grows (Err why) t carries = subst (λ (p : ℕ × Reply). CarriesDraws first p.0 p.1) (λ i. (sym (ap faults t.undrawn) i, sym t.reply i)) carries

  -- The gate, which knows its card.
  module _ (before : Devices) (of_object : IsObjectFile file) (known : KnowsCard (of_port old.gate.host.port) old.gate.host.key (rpmb_key store.keys.huk) old.gate.counter)
      (k : KeepsGate of_file of_port store before old) where
    gate-told : (why : CreateFailure) → AccusesAtMost file (Err why) → IsToldWhy store old new file was now object why answer → KeepsGate of_file of_port store before new
    gate-told why accuses t =
        keeps-spared of_file of_port store before old new was now file of_object (create_call object) answer t.told.served (subst SparesGate (sym t.reply) (unmade-spares file why accuses)) k

    pub finished-gate : (made : Result RootRef CreateFailure) → AccusesAtMost file made → Finishes made → KeepsGate of_file of_port store before new
    finished-gate (Ok root) accuses (Committable b low) =
        keeps-committed of_file of_port store before faults old new file of_object was now (create_call object) _ _ Reliable answer (λ d0 d1. tt) known (b.0).committed k
    finished-gate (Ok root) accuses (Uncommittable t spent) = gate-told Spent tt t
    finished-gate (Err why) accuses t = gate-told why accuses t

  -- The slot, which was shown the history.
  module _ (before : Devices) (from to : SlotValue) (number : to.number ≡ from.number) (rests : to.file ≡ from.file) (saw : SeesWhole old.journal.knows from) (sees : SeesWhole new.journal.knows to) where
    slot-told : (why : CreateFailure) → IsToldWhy store old new file was now object why answer → KeepsSlot before from (told_of (File from.number) (reply_unmade why)) → KeepsSlot before to []
    slot-told why t k =
        keeps-served before from to number rests store old new was now (create_call object) answer sees file t.told.served saw
        (subst (λ (r : Reply). KeepsSlot before from (told_of (File from.number) r)) (sym t.reply) k)

    pub finished-slot : (made : Result RootRef CreateFailure) → Finishes made → KeepsSlot before from (told_made from.number made) → KeepsSlot before to []
    finished-slot (Ok root) (Committable b low) k =
        keeps-committable before from to number rests store old new was now (create_call object) answer sees of_file of_port file _ _ Reliable drew draws (b.0).committed refl saw k
    finished-slot (Ok root) (Uncommittable t spent) k = slot-told Spent t k
    finished-slot (Err why) t k = slot-told why t k

-- it was answered, or has to be begun again
pub finish-ends : {E : Type 0} (X : Type 0) (store : Store) (was between now : CallerSession E) → IsWaiting store was between → (call : Call) (result : Option PlacedReply)
    → IfSome result (IsAnswered store between now call) → (IsNone result → now ≡ between) → EndsAttempt {X = X} store was now call (Ok result)
finish-ends X store was between now first call (Some answer) answered waits = answers-then store was between now first call answer answered
finish-ends X store was between now first call None answered waits = subst (IsWaiting store was) (sym (waits refl)) first
