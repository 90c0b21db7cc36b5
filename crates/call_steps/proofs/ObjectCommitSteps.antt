-- A commit that was brought with its slot, once the gate has ended it.
use Rattle.std.proofs.Common.{None, Option, Some, ap, length, subst, sym, ℕ, ◌∙◌, ◌≡◌}
use Rattle.crash_core.specs.declared.change.EntryChange.{EntryChange}
use Rattle.history_seats.specs.Changes.{TagVersions, slot_renewed, with_record}
use Rattle.history_seats.specs.Views.{GateView, Sight, SlotView}
use Rattle.commit_gate.specs.Commits.{IsCalm, IsReadyCommit}
use Rattle.commit_gate.specs.GateEnds.{IsCommitEnd, end_event, end_record, versions_told}
use Rattle.commit_gate.specs.GuardedGates.{GateInvariant}
use Rattle.commit_gate.specs.declared.guarded_gate.Closing.{Closing}
use Rattle.object_slots.specs.GuardedSlots.{IsSlotOf}
use Rattle.object_slots.specs.OwnEvents.{seat_after}
use Rattle.call_steps.proofs.SlotEnds.{commits_end}
use Rattle.call_steps.specs.ObjectCommits.{IsCommittable}
use Rattle.call_steps.specs.CommittableSlots.{IsCommittableSlot, SeesWhole}
use Rattle.call_steps.specs.StageEndLaws.{IsEndedSlot}
use Rattle.call_steps.specs.SlotCommits.{IsSlotCommit}
use Rattle.object_slots.specs.SlotValues.{SlotValue}
use Rattle.commit_gate.specs.CallerSessions.{CallerSession}
use Rattle.commit_gate.specs.Gates.{GateValue}
use Rattle.commit_gate.specs.declared.CommitEnd.{CommitEnd}
use Rattle.core_laws.proofs.Mending.{some_same}
use Rattle.core_laws.specs.Stores.{Store}
use Rattle.tee_types.specs.declared.call.Call.{Call}
use Rattle.tee_types.specs.declared.reply.Reply.{Reply}

-- What is brought with the seat that the slot lent.
module _ {F R E : Type 0} (store : Store) (gate : GateValue F R) (knows : GateView) (slot : SlotValue) (caller : CallerSession E) (call : Call) (own : Reply) (change : EntryChange) (versions : TagVersions)
    (committable : IsCommittable store gate knows slot caller call own change versions) (seat : Sight SlotView) (lends : slot.seat ≡ Some seat) where
  same : committable.seat ≡ seat
  same = some_same committable.seat seat (sym committable.is ∙ lends)

  pub lent_number : seat.knows.file ≡ slot.number
  lent_number = ap (λ (s : Sight SlotView). s.knows.file) (sym same) ∙ committable.number

  pub lent_ready : IsReadyCommit store knows gate.dir.dir.entries gate.counter caller.number caller.made call own change seat.knows versions
  lent_ready =
      subst (λ (s : Sight SlotView). IsReadyCommit store knows gate.dir.dir.entries gate.counter caller.number caller.made call own change s.knows versions) same committable.commit.ready

  pub lent_table : seat.table ≡ store.table
  lent_table =
      let before = committable.committable.before in
      let own_seat : IsSlotOf store slot.number slot.file seat =
      subst (IsSlotOf store slot.number slot.file) (sym (some_same committable.seat before.seat before.is) ∙ same) before.own in
      own_seat.table

  lent_commit : IsSlotCommit store knows gate.dir.dir.entries gate.counter caller.number caller.made call own change slot.file seat.knows versions
  lent_commit =
      subst (λ (s : Sight SlotView). IsSlotCommit store knows gate.dir.dir.entries gate.counter caller.number caller.made call own change slot.file s.knows versions) same committable.commit

  lent_slot : IsCommittableSlot store (record slot { seat = None }) seat versions
  lent_slot =
      let b = subst (λ (s : Sight SlotView). IsCommittableSlot store slot s versions) same committable.committable in
      record { settled = b.settled; before = b.before; held = b.held; after = b.after; real = b.real; stands = b.stands; masked = b.masked }

  -- the slot that lent it, once the seat is back from the gate
  pub lent_ended : (closing : Option Closing) (lent : SlotValue) (given : Sight SlotView) (end : CommitEnd) (place : ℕ) (after : GateView) → GateInvariant store gate knows closing → gate.doubt ≡ None
      → IsCalm store knows caller → IsCommitEnd gate.counter end → lent ≡ record slot { seat = None }
      → after ≡ with_record (end_record end caller.number caller.made call own seat.knows versions) knows → given ≡ record seat { knows = slot_renewed after seat.knows } → place ≡ length knows.all
      → IsEndedSlot store lent given end place
  lent_ended closing lent given end place after guarded idle calm at_end lent_is after_is given_is at =
      let seat_is : given ≡ seat_after knows seat (end_event end caller.number caller.made call own) (versions_told end versions) =
      given_is ∙ ap (λ (view : GateView). record seat { knows = slot_renewed view seat.knows }) after_is in
      subst (λ (x : SlotValue × Sight SlotView × ℕ). IsEndedSlot store x.0 x.1 end x.2) (λ i. (sym lent_is i, sym seat_is i, sym at i))
      (commits_end F R E store gate knows closing caller call own change (record slot { seat = None }) seat versions end guarded idle calm lent_commit lent_slot
      (subst (SeesWhole knows) same committable.sees) at_end)
