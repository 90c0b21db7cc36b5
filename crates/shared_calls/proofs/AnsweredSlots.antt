-- What always holds of a slot, as what was answered or committed with it is appended.
use Rattle.std.proofs.Common.{◌≡◌, ◌++◌, ◌∷◌, [], ℕ, None, Some, ap, refl, subst, sym}
use Rattle.serial_calls.specs.CallerSessions.{CallerSession}
use Rattle.serial_calls.specs.ChangeReplies.{IsDoneOrRefused}
use Rattle.disk_model.specs.State.{FileState}
use Rattle.history_seats.specs.Changes.{slot_renewed}
use Rattle.history_seats.specs.Records.{HistoryRecord}
use Rattle.history_seats.specs.Views.{GateView, Sight, SlotView}
use Rattle.serial_calls.specs.declared.PlacedReply.{PlacedReply}
use Rattle.serial_calls.specs.GateEnds.{IsCommitEnd, mark_told, reply_told}
use Rattle.serial_calls.specs.GuardedGates.{GuardedGateValue}
use Rattle.serial_calls.specs.Fits.{FitsGate, SeesWhole}
use Rattle.serial_calls.specs.GuardedSlots.{SlotInvariant}
use Rattle.serial_calls.specs.AnswerServed.{IsServed}
use Rattle.serial_calls.specs.ObjectCommits.{IsCommitted}
use Rattle.serial_calls.specs.SlotValues.{SlotValue}
use Rattle.rpmb_card.specs.Port.{PortState}
use Rattle.serial_calls.specs.declared.CommitEnd.{CommitEnd}
use Rattle.serial_calls.specs.declared.CommitEnd.TheVariants.{Doubtful, Dropped, Made, Spent}
use Rattle.serial_calls.specs.declared.EntryChange.{EntryChange}
use Rattle.store_model.specs.Record.{fault_in_reply}
use Rattle.store_model.specs.declared.event.Event.TheVariants.{Call as CallEvent}
use Rattle.store_model.specs.declared.event.Mark.{Mark}
use Rattle.store_model.specs.declared.event.Mark.TheVariants.{Unchanged}
use Rattle.serial_calls.specs.Stores.{Store}
use Rattle.tee_types.specs.declared.call.Call.{Call}
use Rattle.tee_types.specs.declared.reply.Cause.TheVariants.{CardResult, Fault, Frame}
use Rattle.tee_types.specs.declared.reply.Device.TheVariants.{Card, Dir, Entropy, File}
use Rattle.tee_types.specs.declared.reply.Reply.{Reply}
use Rattle.tee_types.specs.declared.reply.Reply.TheVariants.{NotAvailable}
use Rattle.serial_calls.specs.DeviceCounts.{told_of}
use Rattle.serial_calls.specs.Devices.{Devices}
use Rattle.shared_calls.specs.Kept.{KeepsSlot}
use Rattle.shared_calls.proofs.KeptSlots.{keeps-answered, keeps-shown, own-file}

-- a reply that accuses no object's file carries no count of one
pub told-none : (file : ℕ) (reply : Reply) → fault_in_reply reply ≡ None → told_of (File file) reply ≡ []
told-none file (NotAvailable (Fault (File n) count)) none = absurd (cc (none))
told-none file (NotAvailable (Fault Dir count)) none = refl
told-none file (NotAvailable (Fault Card count)) none = refl
told-none file (NotAvailable (Fault Entropy count)) none = refl
told-none file (NotAvailable (Frame fault)) none = refl
told-none file (NotAvailable (CardResult result)) none = refl
told-none file reply none = refl

pub done-faultless : (reply : Reply) → IsDoneOrRefused reply → fault_in_reply reply ≡ None
done-faultless (NotAvailable cause) done = absurd done
done-faultless reply done = refl

-- nor does a commit's end
end-faultless : (counter : ℕ) (end : CommitEnd) (own : Reply) → IsCommitEnd counter end → fault_in_reply own ≡ None → fault_in_reply (reply_told end own) ≡ None
end-faultless counter (Made n) own is none = none
end-faultless counter (Dropped cause) own is none = is
end-faultless counter (Doubtful n cause) own is none = is.2
end-faultless counter Spent own is none = refl

module _ (before : Devices) (old new : SlotValue) (number : new.number ≡ old.number) (file : new.file ≡ old.file) where
  abbrev Told : Reply → Type 0
  Told reply = KeepsSlot before old (told_of (File old.number) reply)

  -- it was shown the history first
  shown-answered : (store : Store) → SlotInvariant store old → (was now : GateView) → FitsGate was old → SeesWhole now new → (last : HistoryRecord) (session event : ℕ) (call : Call) (reply : Reply) (mark : Mark)
      → now.all ≡ was.all ++ last ∷ [] → last.event ≡ CallEvent session event call reply mark → Told reply → KeepsSlot before new []
  shown-answered store guarded was now agreed sees last session event call reply mark all is_event k =
      let seat : Sight SlotView = record agreed.seat { knows = slot_renewed was agreed.seat.knows } in
      let shown : SlotValue = record old { seat = Some seat } in
      let saw : SeesWhole was shown = record { seat = seat; is = refl; whole = refl } in
      keeps-answered before shown new number file was now last session event call reply mark saw sees all is_event
      (keeps-shown before old shown refl refl was (told_of (File old.number) reply) agreed (own-file store old guarded) saw k)

  module _ {F R E : Type 0} (store : Store) (gate behind : GuardedGateValue F R) (was now : CallerSession E) (call : Call) (answer : PlacedReply) (sees : SeesWhole behind.journal.knows new) where
    module _ (of : ℕ) (s : IsServed store gate behind was now of call answer) where
      all_served : behind.journal.knows.all ≡ gate.journal.knows.all ++ s.last ∷ []
      all_served = ap (λ (k : GateView). k.all) s.knows

      -- the call was answered with it
      pub keeps-served : SeesWhole gate.journal.knows old → Told answer.reply → KeepsSlot before new []
      keeps-served saw k =
          keeps-answered before old new number file gate.journal.knows behind.journal.knows s.last was.number was.made call answer.reply Unchanged saw sees all_served s.event k

      -- and it was shown the history before
      pub keeps-shown-served : SlotInvariant store old → FitsGate gate.journal.knows old → Told answer.reply → KeepsSlot before new []
      keeps-shown-served guarded agreed k =
          shown-answered store guarded gate.journal.knows behind.journal.knows agreed sees s.last was.number was.made call answer.reply Unchanged all_served s.event k

    -- a commit was brought with it
    pub keeps-committable : (of_file : F → FileState) (of_port : R → PortState) (of : ℕ) (own : Reply) (change : EntryChange) (Reliable : Type 0) (drew draws : ℕ)
        → IsCommitted of_file of_port store gate behind of was now call own change Reliable drew draws answer → fault_in_reply own ≡ None → SeesWhole gate.journal.knows old → KeepsSlot before old []
        → KeepsSlot before new []
    keeps-committable of_file of_port of own change Reliable drew draws c none saw k =
        let reply : Reply = reply_told c.end own in
        keeps-answered before old new number file gate.journal.knows behind.journal.knows c.last was.number was.made call reply (mark_told c.end) saw sees (ap (λ (k : GateView). k.all) c.knows) c.event
        (subst (KeepsSlot before old) (sym (told-none old.number reply (end-faultless gate.gate.counter c.end own c.gate.is_end none))) k)
