-- A change of data where no commit can follow: the slot is shown the history, its file is read, and what it gave is answered.
use Rattle.std.proofs.Common.{◌≡◌, ◌∙◌, [], ℕ, Err, IfOk, Ok, Result, refl, subst, sym}
use Rattle.serial_calls.specs.AnswerCauses.{HasToldCause}
use Rattle.serial_calls.specs.AnswerServed.{IsServedOrNot}
use Rattle.serial_calls.specs.CallerSessions.{CallerSession, IsCallerOf}
use Rattle.serial_calls.specs.Fits.{FitsGate, SeesWhole}
use Rattle.serial_calls.specs.GuardedGates.{GuardedGateValue}
use Rattle.serial_calls.specs.GuardedSlots.{SlotInvariant}
use Rattle.serial_calls.specs.SlotValues.{SlotValue}
use Rattle.serial_calls.specs.Stores.{Store}
use Rattle.serial_calls.specs.declared.PlacedReply.{PlacedReply}
use Rattle.serial_calls.specs.DeviceCounts.{told_of}
use Rattle.serial_calls.specs.Devices.{Devices}
use Rattle.serial_calls.proofs.CountGrowth.{grows_le}
use Rattle.disk_model.specs.Calls.{Rests}
use Rattle.disk_model.specs.State.{FileState}
use Rattle.disk_model.proofs.Goings.{rests_none}
use Rattle.history_seats.specs.Changes.{slot_renewed}
use Rattle.history_seats.specs.Views.{GateView}
use Rattle.tee_types.specs.declared.call.Call.{Call}
use Rattle.tee_types.specs.declared.reply.Cause.TheVariants.{CardResult, Fault, Frame}
use Rattle.tee_types.specs.declared.reply.Device.TheVariants.{Card, Dir, Entropy, File}
use Rattle.tee_types.specs.declared.reply.Reply.{Reply}
use Rattle.tee_types.specs.declared.reply.Reply.TheVariants.{NotAvailable}
use Rattle.serial_calls.specs.SessionEvents.{IsWaiting}
use Rattle.shared_calls.specs.Kept.{KeepsSlot}
use Rattle.shared_calls.specs.SharedChange.{OnlyReads}
use Rattle.shared_calls.specs.SharedCounts.{CarriesDraws}
use Rattle.shared_calls.proofs.AnsweredSlots.{keeps-served}
use Rattle.shared_calls.proofs.KeptAnswers.{told-rise}
use Rattle.shared_calls.proofs.KeptSlots.{keeps-called, keeps-seen, own-file}
use Rattle.shared_calls.proofs.SharedViews.{keeps-shown_slot, shown_slot}
use Rattle.serial_calls.proofs.GoingOn.{waits-same}

-- a reply that the file gave accuses no generator
pub told-undrawn : (from to : FileState) (number first last : ℕ) (reply : Reply) → HasToldCause from to number reply → CarriesDraws first last reply
told-undrawn from to number first last (NotAvailable (Fault Entropy count)) cause = absurd cause
told-undrawn from to number first last (NotAvailable (Fault Dir count)) cause = tt
told-undrawn from to number first last (NotAvailable (Fault Card count)) cause = tt
told-undrawn from to number first last (NotAvailable (Fault (File n) count)) cause = tt
told-undrawn from to number first last (NotAvailable (Frame fault)) cause = tt
told-undrawn from to number first last (NotAvailable (CardResult result)) cause = tt
told-undrawn from to number first last reply cause = tt

-- a session that is as it was waits still
pub stays-waiting : {E : Type 0} (store : Store) (was now : CallerSession E) → IsCallerOf store was → now ≡ was → IsWaiting store was now
stays-waiting store was now whole same = subst (IsWaiting store was) (sym same) (waits-same store was whole)

-- the file was not even read
pub reads-none : {E : Type 0} (from to : FileState) (was now : CallerSession E) → to ≡ from → now.entropy ≡ was.entropy → OnlyReads from to was now
reads-none from to was now same undrawn = record { file = subst (Rests from) (sym same) (rests_none from); entropy = undrawn }

-- nothing was drawn before
pub reads-behind : {E : Type 0} (from to : FileState) (was between now : CallerSession E) → between.entropy ≡ was.entropy → OnlyReads from to between now → OnlyReads from to was now
reads-behind from to was between now undrawn reads = record { file = reads.file; entropy = reads.entropy ∙ undrawn }

module _ {F R E : Type 0} (store : Store) (before : Devices) (gate behind : GuardedGateValue F R) (was now : CallerSession E) (call : Call) (old new : SlotValue) (number : new.number ≡ old.number)
    (guarded : SlotInvariant store old) (agreed : FitsGate gate.journal.knows old) (rests : Rests old.file new.file) (sees : SeesWhole behind.journal.knows new) (k : KeepsSlot before old []) where
  abbrev knows : GateView
  knows = gate.journal.knows

  -- the slot once it was shown the history and its file was read
  abbrev read : SlotValue
  read = record (shown_slot knows old agreed) { file = new.file }

  saw : SeesWhole knows read
  saw = record { seat = record agreed.seat { knows = slot_renewed knows agreed.seat.knows }; is = refl; whole = refl }

  keeps-shown : KeepsSlot before (shown_slot knows old agreed) []
  keeps-shown = keeps-shown_slot knows old agreed before [] (own-file store old guarded) k

  pub keeps-spent : {X : Type 0} (result : Result PlacedReply X) → IsServedOrNot store gate behind was now old.number call result
      → IfOk result (λ answer. HasToldCause old.file new.file old.number answer.reply) → KeepsSlot before new []
  keeps-spent (Ok answer) served cause =
      keeps-served before read new number refl store gate behind was now call answer sees old.number served saw
      (keeps-called before (shown_slot knows old agreed) read refl (told_of (File old.number) answer.reply) refl rests.goes_on
      (told-rise old.file new.file old.number answer.reply cause rests.goes_on.faults) keeps-shown)
  keeps-spent (Err none) stays cause =
      keeps-seen before read new number refl knows [] saw (subst (λ (g : GuardedGateValue F R). SeesWhole g.journal.knows new) stays.0 sees)
      (keeps-called before (shown_slot knows old agreed) read refl [] refl rests.goes_on (grows_le old.file.faults new.file.faults rests.goes_on.faults) keeps-shown)
