-- How a create is answered, and what it leaves.
use Rattle.std.specs.Prelude.{Err, Ok, Result, ℕ, ◌<◌, ◌≡◌}
use Rattle.call_steps.specs.CallerSessions.{CallerSession}
use Rattle.call_rules.specs.declared.decision.NewPlace.{NewPlace}
use Rattle.serial_calls.specs.CreateEnds.{IsCommittableNew}
use Rattle.serial_calls.specs.FileReserving.{given_back}
use Rattle.serial_calls.specs.Rules.{NewObject, create_call}
use Rattle.serial_calls.specs.Seating.{reseated}
use Rattle.serial_calls.specs.CreateFailure.{IsToldUnmade, UnmadeCause, reply_unmade}
use Rattle.serial_calls.specs.declared.create_failure.CreateFailure.{CreateFailure as WhyUnmade}
use Rattle.disk_model.specs.State.{FileState}
use Rattle.htree_file.specs.Answers.{FilePassed}
use Rattle.call_steps.specs.GuardedGates.{GuardedGateValue}
use Rattle.call_steps.specs.declared.PlacedReply.{PlacedReply}
use Rattle.node_image.specs.declared.node.RootRef.{RootRef}
use Rattle.rpmb_card.specs.Port.{PortState}
use Rattle.rpmb_card.specs.Protocol.{last_counter}
use Rattle.core_laws.specs.Stores.{Store}

-- Why there is no object, or that one could be made: the card's counter was not at its end, and no device failed. The file counted faults from
-- `old` to `new`, and the generator from `drew` to `draws`.
abbrev pub TriedCause : (counter file : ℕ) → (old new : FileState) → (Reliable : Type 0) → (drew draws : ℕ) → Result RootRef WhyUnmade → Type 0
TriedCause counter file old new Reliable drew draws (Ok root) = FilePassed old new × (draws ≡ drew) × (counter < last_counter)
TriedCause counter file old new Reliable drew draws (Err why) = UnmadeCause counter file old new Reliable drew draws (reply_unmade why)

abbrev pub TriedCauseOrNot : {A : Type 0} → (counter file : ℕ) → (old new : FileState) → (Reliable : Type 0) → (drew draws : ℕ) → Result (Result RootRef WhyUnmade) A → Type 0
TriedCauseOrNot counter file old new Reliable drew draws (Ok made) = TriedCause counter file old new Reliable drew draws made
TriedCauseOrNot counter file old new Reliable drew draws (Err none) = FilePassed old new × (draws ≡ drew)

-- How a create was answered: the object was made in its file, and its commit ended; or it was not made, and the reply says why. The file
-- counted faults from `before` to `after`, and the session's generator from `drew` to `draws`.
pub data IsAnswered {F R E : Type 0} (of_file : F → FileState) (of_port : R → PortState) (store : Store) (old new : GuardedGateValue F R) (file : ℕ) (before after : FileState) (was now : CallerSession E)
    (object : NewObject) (place : NewPlace) (Reliable : Type 0) (drew draws : ℕ) (answer : PlacedReply) : Type 0 where
  Committable : IsCommittableNew of_file of_port store old new file was now object place Reliable drew draws answer → FilePassed before after
      → IsAnswered of_file of_port store old new file before after was now object place Reliable drew draws answer
  CreateFailure : IsToldUnmade store old new file was now (create_call object) answer → UnmadeCause old.gate.counter file before after Reliable drew draws answer.reply
      → IsAnswered of_file of_port store old new file before after was now object place Reliable drew draws answer

-- Memory ran out before anything was appended. No device failed.
pub record IsUntold {F R E : Type 0} (old new : GuardedGateValue F R) (before after : FileState) (was now : CallerSession E) (drew draws : ℕ) : Type 0 where
  pub gate : new ≡ old
  pub session : now ≡ record was { entropy = now.entropy }
  pub passed : FilePassed before after
  pub undrawn : draws ≡ drew

-- The slot of the file got a new seat, and then the create was answered; or memory ran out first.
abbrev pub IsAnsweredOrNot : {F R E A : Type 0} → (F → FileState) → (R → PortState) → Store → (old new : GuardedGateValue F R) → (file : ℕ) → (before after : FileState) → (was now : CallerSession E)
    → NewObject → NewPlace → (Reliable : Type 0) → (drew draws : ℕ) → Result PlacedReply A → Type 0
IsAnsweredOrNot of_file of_port store old new file before after was now object place Reliable drew draws (Ok answer) =
    IsAnswered of_file of_port store (reseated store file old) new file before after was now object place Reliable drew draws answer
IsAnsweredOrNot of_file of_port store old new file before after was now object place Reliable drew draws (Err none) = IsUntold old new before after was now drew draws

-- The create was answered, or memory ran out; and then the file was given back, unless the commit that puts it is in doubt.
pub record Creates {F R E A : Type 0} (of_file : F → FileState) (of_port : R → PortState) (store : Store) (old new : GuardedGateValue F R) (file : ℕ) (before after : FileState) (was now : CallerSession E)
    (object : NewObject) (place : NewPlace) (Reliable : Type 0) (drew draws : ℕ) (result : Result PlacedReply A) : Type 0 where
  pub behind : GuardedGateValue F R
  pub answered : IsAnsweredOrNot of_file of_port store old behind file before after was now object place Reliable drew draws result
  pub given_back : new ≡ given_back was.number behind
