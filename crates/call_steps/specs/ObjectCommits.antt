-- What a call brings to the gate with the slot of its object, and what it leaves once the commit has ended.
use Rattle.std.specs.Prelude.{IsTrue, Some, length, ℕ, ◌+◌, ◌≡◌, ◌↔◌, ◌≤◌}
use Rattle.commit_gate.specs.CallerSessions.{CallerSession}
use Rattle.crash_core.specs.declared.change.EntryChange.{EntryChange}
use Rattle.disk_model.specs.State.{FileState}
use Rattle.history_seats.specs.Changes.{TagVersions, with_record}
use Rattle.history_seats.specs.Records.{HistoryRecord}
use Rattle.history_seats.specs.Views.{GateView, Sight, SlotView}
use Rattle.commit_gate.specs.declared.placed_reply.PlacedReply.{PlacedReply}
use Rattle.commit_gate.specs.GateEnds.{HandlesBehind, IsCommitEnd, closing_behind, end_event, mark_told, reply_told}
use Rattle.commit_gate.specs.GuardedGates.{GuardedGateValue}
use Rattle.call_steps.specs.CommittableSlots.{IsCommittableSlot, SeesWhole}
use Rattle.call_steps.specs.SessionEvents.{Appends}
use Rattle.call_steps.specs.SlotCommits.{IsSlotCommit}
use Rattle.object_slots.specs.SlotValues.{SlotValue}
use Rattle.rpmb_card.specs.Port.{PortState}
use Rattle.rpmb_card.specs.Protocol.{last_counter}
use Rattle.commit_gate.specs.Causes.{DoubtIsByCard, EndCause, EndIsDrawn, EndNotDrawn, EndNotOfCard, KeepsPortArms, StaysCalm, counts}
use Rattle.commit_gate.specs.Counts.{EndCounts}
use Rattle.commit_gate.specs.Ends.{Leaves, Throughout}
use Rattle.commit_gate.specs.Gates.{GateValue, LeavesHolds, doubt_left, gate_sides}
use Rattle.commit_gate.specs.Heard.{EndHeard}
use Rattle.commit_gate.specs.Steps.{Steps}
use Rattle.commit_gate.specs.declared.CommitEnd.{CommitEnd}
use Rattle.commit_gate.specs.declared.CommitEnd.TheVariants.{Spent}
use Rattle.store_model.specs.Record.{file_of}
use Rattle.core_laws.specs.Stores.{Store}
use Rattle.tee_types.specs.declared.call.Call.{Call}
use Rattle.tee_types.specs.declared.reply.Reply.{Reply}

-- The slot has its seat, which sees the whole history; the commit of the session's call may be brought with it, and the slot is as such a
-- commit wants it. The machine's own reply is `own`.
pub record IsCommittable {F R E : Type 0} (store : Store) (gate : GateValue F R) (knows : GateView) (slot : SlotValue) (caller : CallerSession E) (call : Call) (own : Reply) (change : EntryChange) (versions : TagVersions) : Type 0 where
  pub seat : Sight SlotView
  pub is : slot.seat ≡ Some seat
  pub number : seat.knows.file ≡ slot.number
  pub commit : IsSlotCommit store knows gate.dir.dir.entries gate.counter caller.number caller.made call own change slot.file seat.knows versions
  pub committable : IsCommittableSlot store slot seat versions
  pub sees : SeesWhole knows seat

-- What the gate did of the commit of a session's call on the object in that file. `Reliable` says that the session's generator never fails;
-- it counted faults from `drew` to `draws`.
pub record CommitsGate {F R : Type 0} (of_file : F → FileState) (of_port : R → PortState) (old new : GuardedGateValue F R) (file session : ℕ) (call : Call) (own : Reply) (change : EntryChange) (end : CommitEnd)
    (Reliable : Type 0) (drew draws : ℕ) : Type 0 where
  pub leaves : Leaves (gate_sides of_file of_port old.gate) (gate_sides of_file of_port new.gate) change end
  pub doubt : new.gate.doubt ≡ doubt_left change end
  pub closing : new.closing ≡ closing_behind end session call old.closing
  pub holds : LeavesHolds change end old.gate.holds new.gate.holds
  pub open_handles : HandlesBehind end old.gate.open_handles new.gate.open_handles file session call own
  pub room : old.gate.room ≤ new.gate.room + 1
  pub throughout : Throughout (gate_sides of_file of_port old.gate) (gate_sides of_file of_port new.gate)
  pub steps : Steps (gate_sides of_file of_port old.gate) (gate_sides of_file of_port new.gate) change end
  pub is_end : IsCommitEnd old.gate.counter end
  pub spent : (end ≡ Spent) ↔ (old.gate.counter ≡ last_counter)
  pub drawn : Reliable → EndNotDrawn end
  pub untouched : EndIsDrawn end → (new.gate.dir ≡ old.gate.dir) × (new.gate.host ≡ old.gate.host)
  pub calm : IsTrue (of_port old.gate.host.port).calm → StaysCalm (of_port old.gate.host.port) (of_port new.gate.host.port) × EndNotOfCard end
  pub heard : EndHeard old.gate.host.key old.gate.counter (of_port new.gate.host.port) end
  pub counts_are : EndCounts (counts (of_file old.gate.dir.file) (of_port old.gate.host.port) drew) (counts (of_file new.gate.dir.file) (of_port new.gate.host.port) draws) end
  pub cause : EndCause old.gate.host.key old.gate.counter (counts (of_file old.gate.dir.file) (of_port old.gate.host.port) drew)
      (counts (of_file new.gate.dir.file) (of_port new.gate.host.port) draws) end
  pub doubtful : DoubtIsByCard end
  pub arms : KeepsPortArms (of_port old.gate.host.port) (of_port new.gate.host.port)

-- The call was committed with that end, and its event appended: the last of the history, with the file's tag. The session is the store's
-- behind it.
pub record IsCommitted {F R E : Type 0} (of_file : F → FileState) (of_port : R → PortState) (store : Store) (old new : GuardedGateValue F R) (file : ℕ) (was now : CallerSession E) (call : Call) (own : Reply) (change : EntryChange)
    (Reliable : Type 0) (drew draws : ℕ) (answer : PlacedReply) : Type 0 where
  pub end : CommitEnd
  pub reply : answer.reply ≡ reply_told end own
  pub place : answer.place ≡ length old.journal.knows.all
  pub appends : Appends store was now call answer (mark_told end)
  pub last : HistoryRecord
  pub event : last.event ≡ end_event end was.number was.made call own
  pub tagged : file_of last ≡ Some file
  pub knows : new.journal.knows ≡ with_record last old.journal.knows
  pub spare : old.journal.spare ≤ new.journal.spare + 1
  pub gate : CommitsGate of_file of_port old new file was.number call own change end Reliable drew draws
