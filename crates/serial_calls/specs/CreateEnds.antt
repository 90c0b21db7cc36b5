-- How a create ends at the gate, once its object was made or was not.
use Rattle.std.specs.Prelude.{Err, Ok, Result, ℕ, ◌+◌, ◌<◌, ◌≡◌}
use Rattle.call_steps.specs.CallerSessions.{CallerSession}
use Rattle.call_rules.specs.declared.decision.NewPlace.{NewPlace}
use Rattle.serial_calls.specs.Rules.{NewObject, create_call}
use Rattle.serial_calls.specs.CreateFailure.{IsToldUnmade, MayTell, reply_unmade}
use Rattle.serial_calls.specs.declared.create_failure.CreateFailure.{CreateFailure}
use Rattle.serial_calls.specs.declared.create_failure.CreateFailure.TheVariants.{Spent}
use Rattle.disk_model.specs.State.{FileState}
use Rattle.history_seats.specs.Records.{Version}
use Rattle.history_seats.specs.Views.{SlotView}
use Rattle.call_steps.specs.GuardedGates.{GuardedGateValue}
use Rattle.call_steps.specs.declared.PlacedReply.{PlacedReply}
use Rattle.call_steps.specs.NewObjects.{IsNewVersion}
use Rattle.node_image.specs.declared.node.RootRef.{RootRef}
use Rattle.call_steps.specs.ObjectCommits.{IsCommitted}
use Rattle.call_steps.specs.CreateLaws.{index_of_place, new_entry}
use Rattle.rpmb_card.specs.Port.{PortState}
use Rattle.rpmb_card.specs.Protocol.{last_counter}
use Rattle.call_steps.specs.declared.EntryChange.TheVariants.{Put}
use Rattle.core_laws.specs.Decodings.{IsReal}
use Rattle.core_laws.specs.Stores.{Store}
use Rattle.tee_types.specs.declared.reply.Reply.TheVariants.{Handle}

-- The object was made as a version of that file, of the generation that its commit makes; and its commit, which puts the entry that names the
-- version, ended.
pub record IsCommittableNew {F R E : Type 0} (of_file : F → FileState) (of_port : R → PortState) (store : Store) (old new : GuardedGateValue F R) (file : ℕ) (was now : CallerSession E) (object : NewObject) (place : NewPlace)
    (Reliable : Type 0) (drew draws : ℕ) (answer : PlacedReply) : Type 0 where
  pub view : SlotView
  pub file_is : view.file ≡ file
  pub generation : view.generation ≡ old.gate.counter + 1
  pub next : Version
  pub of : IsNewVersion next was.state.application object.attributes object.bytes next.root
  pub real : IsReal store.keys next
  pub committed : IsCommitted of_file of_port store old new file was now (create_call object) (Handle was.state.next_handle)
      (Put (index_of_place place) (new_entry was.state.application object.id view next)) Reliable drew draws answer

-- so it was with the object that the reference names
abbrev pub IsCommittableAs : {F R E : Type 0} → (F → FileState) → (R → PortState) → Store → (old new : GuardedGateValue F R) → (file : ℕ) → (was now : CallerSession E) → NewObject → NewPlace
    → (Reliable : Type 0) → (drew draws : ℕ) → RootRef → PlacedReply → Type 0
IsCommittableAs of_file of_port store old new file was now object place Reliable drew draws root answer =
    (committable : IsCommittableNew of_file of_port store old new file was now object place Reliable drew draws answer) × (committable.next.root ≡ root)

-- It was told that reason why there is no object, and nothing was drawn for it.
pub record IsToldWhy {F R E : Type 0} (store : Store) (old new : GuardedGateValue F R) (file : ℕ) (was now : CallerSession E) (object : NewObject) (why : CreateFailure) (answer : PlacedReply) : Type 0 where
  pub told : IsToldUnmade store old new file was now (create_call object) answer
  pub reply : answer.reply ≡ reply_unmade why
  pub undrawn : now.entropy ≡ was.entropy

-- The object that the reference names was brought to the gate; or the card's counter is at its end, and that was told.
pub data IsCommittableOrSpent {F R E : Type 0} (of_file : F → FileState) (of_port : R → PortState) (store : Store) (old new : GuardedGateValue F R) (file : ℕ) (was now : CallerSession E) (object : NewObject) (place : NewPlace)
    (Reliable : Type 0) (drew draws : ℕ) (root : RootRef) (answer : PlacedReply) : Type 0 where
  Committable : IsCommittableAs of_file of_port store old new file was now object place Reliable drew draws root answer → old.gate.counter < last_counter
      → IsCommittableOrSpent of_file of_port store old new file was now object place Reliable drew draws root answer
  Uncommittable : IsToldWhy store old new file was now object Spent answer → old.gate.counter ≡ last_counter
      → IsCommittableOrSpent of_file of_port store old new file was now object place Reliable drew draws root answer

-- that, where the object was made; else it was told why it was not
abbrev pub IsFinished : {F R E : Type 0} → (F → FileState) → (R → PortState) → Store → (old new : GuardedGateValue F R) → (file : ℕ) → (was now : CallerSession E) → NewObject → NewPlace
    → (Reliable : Type 0) → (drew draws : ℕ) → Result RootRef CreateFailure → PlacedReply → Type 0
IsFinished of_file of_port store old new file was now object place Reliable drew draws (Ok root) answer =
    IsCommittableOrSpent of_file of_port store old new file was now object place Reliable drew draws root answer
IsFinished of_file of_port store old new file was now object place Reliable drew draws (Err why) answer = IsToldWhy store old new file was now object why answer

-- why an object is not made may be told, where it is not
abbrev pub MayTellIfUnmade : (counter file : ℕ) → Result RootRef CreateFailure → Type 0
MayTellIfUnmade counter file (Ok root) = Unit {0}
MayTellIfUnmade counter file (Err why) = MayTell counter file why
