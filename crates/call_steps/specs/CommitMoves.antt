-- A commit that is brought with the slot of its object, as steps of the core machine.
use Rattle.std.specs.Prelude.{◌≡◌, ◌⊎◌, ℕ, Some, None, IsTrue}
use Rattle.disk_model.specs.State.{FileState, Sound}
use Rattle.rpmb_card.specs.Card.{CardState}
use Rattle.rpmb_card.specs.Port.{PortState}
use Rattle.tee_types.specs.declared.call.Call.{Call}
use Rattle.tee_types.specs.declared.reply.Reply.{Reply}
use Rattle.store_model.specs.Legal.{IsLegalEvent}
use Rattle.store_model.specs.Record.{file_of}
use Rattle.history_seats.specs.Changes.{TagVersions}
use Rattle.crash_core.specs.CoreState.{IsTrusted}
use Rattle.core_laws.specs.GateSteps.{Handed}
use Rattle.core_laws.specs.Answered.{AreAnswered}
use Rattle.core_laws.specs.TamperScenarios.{TamperScenario}
use Rattle.core_laws.specs.Stores.{Store, replay_at}
use Rattle.commit_gate.specs.declared.EntryChange.{EntryChange}
use Rattle.object_slots.specs.SlotValues.{SlotValue}
use Rattle.commit_gate.specs.CallerSessions.{CallerSession}
use Rattle.commit_gate.specs.FinishedPhases.{phase_under}
use Rattle.commit_gate.specs.declared.placed_reply.PlacedReply.{PlacedReply}
use Rattle.commit_gate.specs.Commits.{EndsUnder}
use Rattle.commit_gate.specs.GuardedGates.{GuardedGateValue}
use Rattle.call_steps.specs.ObjectCommits.{IsCommittable, IsCommitted}
use Rattle.call_steps.specs.ServiceCores.{IsDirectoryHonest, IsPart, StepsOn}

-- the slot that a commit is handed, with whose lock it is brought
abbrev pub handed_slot : SlotValue → Handed
handed_slot slot = record { file = slot.number; state = slot.file }

module _ {F R E : Type 0} (of_file : F → FileState) (of_port : R → PortState) where
  -- What `bring` asks of gate, slot and session, and what it leaves.
  pub record BringsCommit (store : Store) (old new : GuardedGateValue F R) (slot : SlotValue) (was now : CallerSession E) (call : Call) (own : Reply) (change : EntryChange) (versions : TagVersions)
      (Reliable : Type 0) (drew draws : ℕ) (answer : PlacedReply) : Type 0 where
    pub idle : old.gate.doubt ≡ None
    pub committable : IsCommittable store old.gate old.journal.knows slot was call own change versions
    pub committed : IsCommitted of_file of_port store old new slot.number was now call own change Reliable drew draws answer
    -- what holds of every file
    pub sound : Sound (of_file new.gate.dir.file)
    pub slot_sound : Sound slot.file

-- From the gate's part at rest it leads to the next, by steps that are the core machine's whatever the other slots are; or the promises end
-- at the call.
abbrev pub ObjectCommitsAreSteps : (F R E : Type 0) → (reliable : E → Type 0) → (faults : E → ℕ) → Type 0
ObjectCommitsAreSteps F R E reliable faults =
    (of_file : F → FileState) (of_port : R → PortState) (store : Store) (scenario : TamperScenario) (old new : GuardedGateValue F R) (slot : SlotValue) (was now : CallerSession E) (call : Call) (own : Reply)
    (change : EntryChange) (versions : TagVersions) (answer : PlacedReply) (card : CardState)
    → IsPart of_file of_port store old card → AreAnswered store scenario old.journal.knows.all
    → (b : BringsCommit of_file of_port store old new slot was now call own change versions (reliable was.entropy) (faults was.entropy) (faults now.entropy) answer)
    → IsLegalEvent scenario.tampered (replay_at store scenario old.journal.knows.all) b.committed.last.event (file_of b.committed.last) → IsDirectoryHonest of_file of_port store scenario new
    → (IsTrusted (phase_under store scenario) slot.number → IsTrue slot.file.honest)
    → StepsOn of_file of_port store scenario (Some (handed_slot slot)) old card new ⊎ EndsUnder store scenario old.journal.knows.all was.number was.made call own b.committable.seat.knows
