-- A slot that is shown the history, before what is brought or told with it is appended.
use Rattle.std.proofs.Common.{◌≡◌, ◌∙◌, [], ℕ, List, None, Some, ap, refl}
use Rattle.serial_calls.specs.CallerSessions.{CallerSession}
use Rattle.disk_model.specs.State.{FileState}
use Rattle.history_seats.specs.Changes.{seat_renewed, slot_renewed}
use Rattle.history_seats.specs.Views.{GateView, Sight, SlotView}
use Rattle.serial_calls.specs.declared.PlacedReply.{PlacedReply}
use Rattle.serial_calls.specs.GuardedGates.{GuardedGateValue}
use Rattle.serial_calls.specs.Fits.{FitsGate, SeesWhole}
use Rattle.serial_calls.specs.GuardedSlots.{SlotInvariant}
use Rattle.serial_calls.specs.ObjectCommits.{IsCommitted}
use Rattle.serial_calls.specs.SlotValues.{SlotValue, free}
use Rattle.rpmb_card.specs.Port.{PortState}
use Rattle.serial_calls.specs.declared.EntryChange.{EntryChange}
use Rattle.store_model.specs.Record.{fault_in_reply}
use Rattle.serial_calls.specs.Stores.{Store}
use Rattle.tee_types.specs.declared.call.Call.{Call}
use Rattle.tee_types.specs.declared.reply.Reply.{Reply}
use Rattle.serial_calls.specs.Devices.{Devices}
use Rattle.shared_calls.specs.Kept.{KeepsSlot}
use Rattle.shared_calls.proofs.AnsweredSlots.{keeps-committable}
use Rattle.shared_calls.proofs.KeptSlots.{keeps-moved, keeps-shown, own-file}

-- the slot then
abbrev pub shown_slot : (knows : GateView) (slot : SlotValue) → FitsGate knows slot → SlotValue
shown_slot knows slot agreed = record slot { seat = Some (record agreed.seat { knows = slot_renewed knows agreed.seat.knows }) }

module _ (knows : GateView) (slot : SlotValue) (agreed : FitsGate knows slot) where
  pub sees-shown : SeesWhole knows (shown_slot knows slot agreed)
  sees-shown = record { seat = record agreed.seat { knows = slot_renewed knows agreed.seat.knows }; is = refl; whole = refl }

  -- the seat is of its file
  pub keeps-shown_slot : (before : Devices) (then : List ℕ) → ((seat : Sight SlotView) → slot.seat ≡ Some seat → seat.knows.file ≡ slot.number) → KeepsSlot before slot then
      → KeepsSlot before (shown_slot knows slot agreed) then
  keeps-shown_slot before then own k = keeps-shown before slot (shown_slot knows slot agreed) refl refl knows then agreed own sees-shown k

-- what it held went, and its file is as it was
pub keeps-cleared : (before : Devices) (store : Store) (knows : GateView) (old new : SlotValue) → new ≡ record old { seat = seat_renewed knows old.seat; holds = free; doubt = None } → FitsGate knows old
    → SlotInvariant store old → KeepsSlot before old [] → KeepsSlot before new []
keeps-cleared before store knows old new is agreed guarded k =
    let seat : new.seat ≡ (shown_slot knows old agreed).seat = ap (λ (s : SlotValue). s.seat) is ∙ ap (seat_renewed knows) agreed.is in
    keeps-moved before (shown_slot knows old agreed) new (ap (λ (s : SlotValue). s.number) is) [] (ap (λ (s : SlotValue). s.file) is) seat
    (keeps-shown_slot knows old agreed before [] (own-file store old guarded) k)

-- a commit was brought with it
pub keeps-shown-committable : {F R E : Type 0} (before : Devices) (old new : SlotValue) → new.number ≡ old.number → new.file ≡ old.file → (of_file : F → FileState) (of_port : R → PortState) (store : Store)
    → SlotInvariant store old → (gate behind : GuardedGateValue F R) → FitsGate gate.journal.knows old → SeesWhole behind.journal.knows new → (of : ℕ) (was now : CallerSession E) (call : Call) (own : Reply)
    (change : EntryChange) (Reliable : Type 0) (drew draws : ℕ) (answer : PlacedReply) → IsCommitted of_file of_port store gate behind of was now call own change Reliable drew draws answer → fault_in_reply own ≡ None
    → KeepsSlot before old [] → KeepsSlot before new []
keeps-shown-committable before old new number file of_file of_port store guarded gate behind agreed sees of was now call own change Reliable drew draws answer c none k =
    let knows : GateView = gate.journal.knows in
    keeps-committable before (shown_slot knows old agreed) new number file store gate behind was now call answer sees of_file of_port of own change Reliable drew draws c none (sees-shown knows old agreed)
    (keeps-shown_slot knows old agreed before [] (own-file store old guarded) k)
