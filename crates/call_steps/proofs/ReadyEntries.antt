-- An object that was loaded, or could not be.
use Rattle.std.proofs.Common.{IfOk, ◌≡◌, ℕ, true, Option, Some, None, Result, Ok, Err, sym, ap, subst}
use Rattle.tee_types.specs.declared.call.Call.{Call}
use Rattle.tee_types.specs.declared.reply.Cause.TheVariants.{Fault}
use Rattle.tee_types.specs.declared.reply.Device.TheVariants.{File}
use Rattle.tee_types.specs.declared.reply.Reply.{Reply}
use Rattle.tee_types.specs.declared.reply.Reply.TheVariants.{Corrupt, NotAvailable}
use Rattle.dir_records.specs.declared.entry.DirEntry.{DirEntry}
use Rattle.store_model.specs.Object.{Damaged, Object}
use Rattle.store_model.specs.ReplayState.{is_undone}
use Rattle.disk_model.specs.State.{FileState}
use Rattle.history_seats.specs.Records.{Version}
use Rattle.history_seats.specs.Views.{GateView}
use Rattle.core_laws.specs.Stores.{Store}
use Rattle.core_laws.proofs.Mending.{none_some, some_same}
use Rattle.object_slots.specs.declared.fault.SlotFault.{SlotFault}
use Rattle.object_slots.specs.declared.fault.SlotFault.TheVariants.{Corrupt as IsCorrupt, Failed, NoEntropy, NoMemory}
use Rattle.object_slots.specs.SlotFaults.{FaultCause, HasCause}
use Rattle.object_slots.specs.SlotValues.{SlotValue}
use Rattle.object_slots.proofs.Filled.{with_fault}
use Rattle.commit_gate.specs.ReplyLaws.{Answers}
use Rattle.call_steps.specs.FileFaults.{reply_of_fault}
use Rattle.call_steps.specs.FileAnswers.{Fails, IsFileAnswer, Refuses}
use Rattle.call_steps.specs.ObjectLoading.{LoadsVersion}
use Rattle.call_steps.specs.SlotCatchUp.{IsAtEntry}
use Rattle.call_steps.specs.ReadyEntries.{IsReady, IsReadyEntry, IsUnloaded}
use Rattle.call_steps.proofs.AnswerCauses.{told-cause}
use Rattle.call_steps.proofs.Meetings.{at-stays}

damaged-answers : (o : Object) (size position : ℕ) (call : Call) → o ≡ Damaged size → Answers o position call Corrupt
damaged-answers o size position call is = subst (λ (x : Object). Answers x position call Corrupt) (sym is) tt

module _ (store : Store) (was : FileState) (slot : SlotValue) (v : Version) where
  answers-fault : (fault : SlotFault) (reply : Reply) → Some reply ≡ reply_of_fault slot.number fault → LoadsVersion store.keys slot v (with_fault fault) → (position : ℕ) (call : Call)
      → IsFileAnswer store slot.file slot.number v position call reply
  answers-fault IsCorrupt reply is loads position call =
      let same : reply ≡ Corrupt = some_same reply Corrupt is in
      Refuses same (λ honest. subst (Answers v.object position call) (sym same) (damaged-answers v.object v.size position call (loads honest)))
  answers-fault (Failed count) reply is loads position call = Fails count (some_same reply (NotAvailable (Fault (File slot.number) count)) is)
  answers-fault (NoEntropy count) reply is loads position call = absurd loads
  answers-fault NoMemory reply is loads position call = absurd (none_some reply (sym is))

  undone-fault : (fault : SlotFault) (reply : Reply) → Some reply ≡ reply_of_fault slot.number fault → is_undone reply ≡ true
  undone-fault IsCorrupt reply is = ap is_undone (some_same reply Corrupt is)
  undone-fault (Failed count) reply is = ap is_undone (some_same reply (NotAvailable (Fault (File slot.number) count)) is)
  undone-fault (NoEntropy count) reply is = absurd (none_some reply (sym is))
  undone-fault NoMemory reply is = absurd (none_some reply (sym is))

  unloaded : (fault : SlotFault) (reply : Reply) → Some reply ≡ reply_of_fault slot.number fault → LoadsVersion store.keys slot v (with_fault fault) → FaultCause was slot.file fault
      → IsUnloaded store was slot v reply
  unloaded fault reply is loads cause = record {
    answers = answers-fault fault reply is loads;
    undone = undone-fault fault reply is;
    cause = told-cause was slot.file slot.number fault reply is cause;
  }

module _ (store : Store) (was : FileState) (slot : SlotValue) (v : Version) (result : Result (Unit {0}) SlotFault) (loads : LoadsVersion store.keys slot v result) (cause : HasCause was slot.file result) where
  -- what loading answered
  abbrev Answered : Result (Unit {0}) SlotFault → Type 0
  Answered r = LoadsVersion store.keys slot v r × HasCause was slot.file r

  pub ready-none : (done : Unit {0}) → result ≡ Ok done → IsReady store was slot v None
  ready-none done is = subst Answered is (loads, cause)

  pub ready-some : (fault : SlotFault) (reply : Reply) → result ≡ Err fault → Some reply ≡ reply_of_fault slot.number fault → IsReady store was slot v (Some reply)
  ready-some fault reply is told =
      let answered : Answered (with_fault fault) = subst Answered is (loads, cause) in
      unloaded store was slot v fault reply told answered.0 answered.1

-- So it is of the entry at which the slot stood before.
pub ready-at : (store : Store) (knows : GateView) (was : FileState) (old new : SlotValue) (e : DirEntry) (v : Version) (reply : Option Reply) → IsAtEntry knows old e v
    → new ≡ record old { file = new.file; holds = new.holds } → IsReady store was new v reply → IsReadyEntry store knows was new e reply
ready-at store knows was old new e v reply stands same ready = record { version = v; at = at-stays knows old new e v same stands; ready = ready }

pub ready-ok : {A : Type 0} (store : Store) (knows : GateView) (was : FileState) (old new : SlotValue) (e : DirEntry) (v : Version) (result : Result (Option Reply) A) → IsAtEntry knows old e v
    → new ≡ record old { file = new.file; holds = new.holds } → IfOk result (IsReady store was new v) → IfOk result (IsReadyEntry store knows was new e)
ready-ok store knows was old new e v (Ok reply) stands same ready = ready-at store knows was old new e v reply stands same ready
ready-ok store knows was old new e v (Err none) stands same ready = tt
