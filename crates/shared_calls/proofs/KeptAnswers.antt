-- What a slot keeps as its object is read, and as what was read is answered.
use Rattle.std.proofs.Common.{◌≡◌, ◌≤◌, [], ℕ, List, Err, IfOk, None, Ok, Option, Result, Some, ap, refl, subst, sym}
use Rattle.std.specs.Prelude.{MatchResult}
use Rattle.serial_calls.specs.CallerSessions.{CallerSession}
use Rattle.disk_model.specs.Calls.{Rests}
use Rattle.disk_model.specs.State.{FileState}
use Rattle.history_seats.specs.Records.{Version}
use Rattle.serial_calls.specs.declared.PlacedReply.{PlacedReply}
use Rattle.serial_calls.specs.GuardedGates.{GuardedGateValue}
use Rattle.serial_calls.specs.Fits.{SeesWhole}
use Rattle.serial_calls.specs.AnswerCauses.{HasToldCause}
use Rattle.serial_calls.specs.InfoAnswers.{DescribesObject}
use Rattle.serial_calls.specs.OpenAnswers.{open_reply}
use Rattle.serial_calls.specs.ReadAnswers.{ReadsAnswer}
use Rattle.serial_calls.specs.ReadyEntries.{IsReady}
use Rattle.serial_calls.specs.AnswerServed.{IsServed}
use Rattle.serial_calls.specs.SlotValues.{SlotValue}
use Rattle.store_model.specs.Machine.{Session}
use Rattle.store_model.specs.declared.session.Handle.{Handle}
use Rattle.serial_calls.specs.Stores.{Store}
use Rattle.tee_types.specs.declared.call.Call.{Call}
use Rattle.tee_types.specs.declared.reply.Device.TheVariants.{File}
use Rattle.tee_types.specs.declared.reply.Reply.{Reply}
use Rattle.serial_calls.specs.DeviceCounts.{Rise, told_of}
use Rattle.serial_calls.specs.Devices.{Devices}
use Rattle.serial_calls.proofs.CountGrowth.{grows_le}
use Rattle.serial_calls.proofs.Tellings.{Rise-told_of}
use Rattle.serial_calls.proofs.ToldCalls.{told_accuses_file}
use Rattle.shared_calls.specs.SharedCounts.{told_if}
use Rattle.rpmb_card.specs.Port.{PortState}
use Rattle.shared_calls.specs.Kept.{KeepsGate, KeepsSlot}
use Rattle.shared_calls.proofs.AnsweredSlots.{keeps-served}
use Rattle.shared_calls.proofs.KeptCalls.{keeps-told}
use Rattle.shared_calls.proofs.KeptSlots.{keeps-called}
use Rattle.shared_calls.proofs.StageCounts.{of_stage}

-- the file counted what the reply carries for it
pub told-rise : (from to : FileState) (number : ℕ) (reply : Reply) → HasToldCause from to number reply → from.faults ≤ to.faults → Rise from.faults to.faults (told_of (File number) reply)
told-rise from to number reply cause le =
    Rise-told_of [] (of_stage from 0) (of_stage to 0) (File number) reply (told_accuses_file [] (of_stage from 0) (of_stage to 0) number from to (λ n own. (refl, refl)) reply cause)
    (grows_le from.faults to.faults le)

-- why a read, an Info or a load accuses the file
pub read-cause : (store : Store) (old new : SlotValue) (v : Version) (at count : ℕ) {X : Type 0} (result : Result Reply X) → IfOk result (ReadsAnswer store old.file new v at count)
    → IfOk result (λ reply. HasToldCause old.file new.file new.number reply)
read-cause store old new v at count (Ok reply) reads = reads.cause
read-cause store old new v at count (Err e) reads = tt

pub info-cause : (store : Store) (old new : SlotValue) (v : Version) (handle : Handle) {X : Type 0} (result : Result Reply X) → IfOk result (DescribesObject store old.file new v handle)
    → IfOk result (λ reply. HasToldCause old.file new.file new.number reply)
info-cause store old new v handle (Ok reply) describes = describes.cause
info-cause store old new v handle (Err e) describes = tt

-- the reply to an Open is told by the file, or by no device
pub open-cause : (store : Store) (was : FileState) (slot : SlotValue) (v : Version) (unloaded : Option Reply) (session : Session) → IsReady store was slot v unloaded
    → HasToldCause was slot.file slot.number (open_reply unloaded session)
open-cause store was slot v None session ready = ready.1
open-cause store was slot v (Some reply) session ready = ready.cause

pub open-told : (file : ℕ) (unloaded : Option Reply) (session : Session) → told_if file unloaded ≡ told_of (File file) (open_reply unloaded session)
open-told file None session = refl
open-told file (Some reply) session = refl

module _ (before : Devices) where
  module _ (old new : SlotValue) (same : new ≡ record old { file = new.file; holds = new.holds }) (rests : Rests old.file new.file) (k : KeepsSlot before old []) where
    number : new.number ≡ old.number
    number = ap (λ (s : SlotValue). s.number) same

    seat : new.seat ≡ old.seat
    seat = ap (λ (s : SlotValue). s.seat) same

    counted : (told : List ℕ) → Rise old.file.faults new.file.faults told → KeepsSlot before new told
    counted told rise = keeps-called before old new number told seat rests.goes_on rise k

    none : KeepsSlot before new []
    none = counted [] (grows_le old.file.faults new.file.faults rests.goes_on.faults)

    -- its object was read
    pub keeps-read : (X : Type 0) (result : Result Reply X) → IfOk result (λ reply. HasToldCause old.file new.file new.number reply)
        → MatchResult result (λ reply. KeepsSlot before new (told_of (File new.number) reply)) (λ e. KeepsSlot before new [])
    keeps-read X (Ok reply) cause = counted (told_of (File new.number) reply) (told-rise old.file new.file new.number reply cause rests.goes_on.faults)
    keeps-read X (Err e) cause = none

    pub keeps-given : {X : Type 0} (result : Result Reply X) → IfOk result (λ reply. HasToldCause old.file new.file new.number reply)
        → IfOk result (λ reply. KeepsSlot before new (told_of (File new.number) reply))
    keeps-given (Ok reply) cause = counted (told_of (File new.number) reply) (told-rise old.file new.file new.number reply cause rests.goes_on.faults)
    keeps-given (Err e) cause = tt

    loaded : (store : Store) (v : Version) (unloaded : Option Reply) → IsReady store old.file new v unloaded → KeepsSlot before new (told_if new.number unloaded)
    loaded store v None ready = none
    loaded store v (Some reply) ready = counted (told_of (File new.number) reply) (told-rise old.file new.file new.number reply ready.cause rests.goes_on.faults)

    -- its object was loaded
    pub keeps-loaded : (X : Type 0) (store : Store) (v : Version) (result : Result (Option Reply) X) → IfOk result (IsReady store old.file new v)
        → MatchResult result (λ unloaded. KeepsSlot before new (told_if new.number unloaded)) (λ e. KeepsSlot before new [])
    keeps-loaded X store v (Ok unloaded) ready = loaded store v unloaded ready
    keeps-loaded X store v (Err e) ready = none

  -- A reply that a slot's file gave is appended, once the slot was shown the history: `first` is the slot before that, `met` behind it.
  module _ {F R E : Type 0} (of_file : F → FileState) (of_port : R → PortState) (store : Store) (gate after : GuardedGateValue F R) (was now : CallerSession E) (call : Call) (answer : PlacedReply) (first met new : SlotValue)
      (moved : met ≡ record first { seat = met.seat }) (from : FileState) (reply : Reply) (cause : HasToldCause from first.file first.number reply) (is : answer.reply ≡ reply)
      (s : IsServed store gate after was now met.number call answer) (k : KeepsSlot before met (told_of (File first.number) reply)) where
    met-number : met.number ≡ first.number
    met-number = ap (λ (x : SlotValue). x.number) moved

    pub gate-keeps : KeepsGate of_file of_port store before gate → KeepsGate of_file of_port store before after
    gate-keeps kept =
        keeps-told of_file of_port store before gate after was now met.number k.object call answer s kept from first.file
        (subst (λ (p : ℕ × Reply). HasToldCause from first.file p.0 p.1) (λ i. (sym met-number i, sym is i)) cause)

    pub slot-keeps : SeesWhole gate.journal.knows met → SeesWhole after.journal.knows new → new.number ≡ met.number → new.file ≡ met.file → KeepsSlot before new []
    slot-keeps saw sees number file =
        keeps-served before met new number file store gate after was now call answer sees met.number s saw
        (subst (λ (p : ℕ × Reply). KeepsSlot before met (told_of (File p.0) p.1)) (λ i. (sym met-number i, sym is i)) k)
