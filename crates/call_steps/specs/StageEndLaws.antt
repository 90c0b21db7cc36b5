-- A slot behind the end of its commit.
use Rattle.std.specs.Prelude.{None, Option, length, ℕ, ◌≡◌}
use Rattle.commit_gate.specs.CallerSessions.{CallerSession}
use Rattle.crash_core.specs.declared.change.EntryChange.{EntryChange}
use Rattle.history_seats.specs.Changes.{TagVersions, slot_renewed}
use Rattle.history_seats.specs.Views.{GateView, Sight, SlotView}
use Rattle.commit_gate.specs.Commits.{IsCalm}
use Rattle.commit_gate.specs.GateEnds.{IsCommitEnd, end_event, versions_told}
use Rattle.commit_gate.specs.GuardedGates.{GateInvariant}
use Rattle.commit_gate.specs.declared.guarded_gate.Closing.{Closing}
use Rattle.object_slots.specs.GuardedSlots.{SlotInvariant}
use Rattle.object_slots.specs.OwnEvents.{IsOwnEvent, seat_after}
use Rattle.call_steps.specs.CommittableSlots.{IsCommittableSlot, SeesWhole}
use Rattle.call_steps.specs.StageEnds.{slot_behind}
use Rattle.call_steps.specs.SlotCommits.{IsSlotCommit}
use Rattle.object_slots.specs.SlotValues.{SlotValue}
use Rattle.commit_gate.specs.Gates.{GateValue}
use Rattle.commit_gate.specs.declared.CommitEnd.{CommitEnd}
use Rattle.core_laws.specs.Stores.{Store}
use Rattle.tee_types.specs.declared.call.Call.{Call}
use Rattle.tee_types.specs.declared.reply.Reply.{Reply}

-- The commit of a slot ended so, and its event was appended at that place, which the seat sees.
pub record IsEndedSlot (store : Store) (slot : SlotValue) (seat : Sight SlotView) (end : CommitEnd) (place : ℕ) : Type 0 where
  pub knows : GateView
  pub was : Sight SlotView
  pub session : ℕ
  pub number : ℕ
  pub call : Call
  pub reply : Reply
  pub versions : TagVersions
  pub committable : IsCommittableSlot store slot was versions
  pub whole : slot_renewed knows was.knows ≡ was.knows
  pub event : IsOwnEvent store knows slot.number slot.file was (end_event end session number call reply) (versions_told end versions)
  pub sees : seat ≡ seat_after knows was (end_event end session number call reply) (versions_told end versions)
  pub at : place ≡ length knows.all

-- So does each end of a commit that was brought with its slot.
abbrev pub CommitsEndSlots : (F R E : Type 0) → Type 0
CommitsEndSlots F R E =
    (store : Store) (gate : GateValue F R) (knows : GateView) (closing : Option Closing) (caller : CallerSession E) (call : Call) (reply : Reply) (change : EntryChange) (slot : SlotValue) (seat : Sight SlotView)
    (versions : TagVersions) (end : CommitEnd) → GateInvariant store gate knows closing → gate.doubt ≡ None → IsCalm store knows caller
    → IsSlotCommit store knows gate.dir.dir.entries gate.counter caller.number caller.made call reply change slot.file seat.knows versions → IsCommittableSlot store slot seat versions
    → SeesWhole knows seat → IsCommitEnd gate.counter end
    → IsEndedSlot store slot (seat_after knows seat (end_event end caller.number caller.made call reply) (versions_told end versions)) end (length knows.all)

-- Behind it the slot may stand behind its lock.
abbrev pub EndedSlotsAreGuarded : Type 0
EndedSlotsAreGuarded =
    (store : Store) (slot : SlotValue) (seat : Sight SlotView) (end : CommitEnd) (place : ℕ) → IsEndedSlot store slot seat end place → SlotInvariant store (slot_behind slot seat end place)
