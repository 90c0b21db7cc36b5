-- What a call that changes an object leaves of the store that serves it.
use Rattle.std.proofs.Common.{◌≡◌, ◌<◌, ℕ, List, Err, IfOk, None, Ok, OnErr, Result, length, slice_index_or, sym, ap, ◌∙◌, subst, inl, inr}
use Rattle.std.specs.Prelude.{slice_set}
use Rattle.call_steps.specs.CallerSessions.{CallerSession, IsCallerOf}
use Rattle.serial_calls.specs.ChangeCauses.{HasChangeCause}
use Rattle.serial_calls.specs.Changed.{IsChangedOrNot}
use Rattle.serial_calls.specs.Changed.IsChanged.{Meant, Tried}
use Rattle.serial_calls.specs.Changed.IsTried.{Committable, Failed}
use Rattle.serial_calls.specs.Renewed.{renewal}
use Rattle.serial_calls.specs.ChangeReplies.{IsDoneOrRefused}
use Rattle.disk_model.specs.Calls.{GoesOn as FileGoesOn}
use Rattle.disk_model.specs.Faults.{Rose}
use Rattle.disk_model.specs.State.{FileState}
use Rattle.hmac_keys.specs.KeyTable.{rpmb_key}
use Rattle.htree_file.specs.Answers.{FileFailed}
use Rattle.call_steps.specs.declared.PlacedReply.{PlacedReply}
use Rattle.call_steps.specs.GuardedGates.{GuardedGateValue}
use Rattle.call_steps.specs.ObjectCommits.{IsCommitted}
use Rattle.call_steps.specs.SlotValues.{SlotValue}
use Rattle.rpmb_card.specs.Port.{PortState}
use Rattle.call_steps.specs.declared.EntryChange.{EntryChange}
use Rattle.call_steps.specs.declared.Held.{Held}
use Rattle.core_laws.specs.Stores.{Store}
use Rattle.tee_types.specs.declared.call.Call.{Call}
use Rattle.tee_types.specs.declared.reply.Cause.TheVariants.{CardResult, Fault, Frame}
use Rattle.tee_types.specs.declared.reply.Device.TheVariants.{Card, Dir, Entropy, File}
use Rattle.store_model.specs.declared.event.Mark.{Mark}
use Rattle.tee_types.specs.declared.reply.Reply.{Reply}
use Rattle.tee_types.specs.declared.reply.Reply.TheVariants.{Done, NotAvailable, Refused}
use Rattle.call_steps.specs.Devices.{AccusesRightly, CostsDoubt, Devices, Grows}
use Rattle.serial_calls.specs.ServeReady.{KnowsCard}
use Rattle.call_steps.specs.Slots.{AreSlots}
use Rattle.serial_calls.specs.ServeReplay.{ServesObject}
use Rattle.call_steps.specs.Rising.{Serving, devices_in}
use Rattle.serial_calls.proofs.CommittedCalls.{committed_appends, committed_goes_on, committed_mark, end_accuses, end_costs, end_holds}
use Rattle.call_steps.proofs.CountGrowth.{same_file_goes_on}
use Rattle.serial_calls.proofs.ToldCalls.{file_from, file_to, is_object_file, quiet_goes_on, quiet_holds, served_appends, served_quiet, serves_ok, stays_serves}

-- a reply that is done or refused accuses no device
pub done_accuses : (key : List ℕ) (d0 d1 : Devices) (reply : Reply) → IsDoneOrRefused reply → AccusesRightly key d0 d1 reply
done_accuses key d0 d1 Done is = tt
done_accuses key d0 d1 (Refused code) is = tt
done_accuses key d0 d1 (NotAvailable cause) is = absurd is
done_accuses key d0 d1 reply is = tt

-- the draws, by why a change was not staged
pub change_drawn : (old new : FileState) (number : ℕ) (Reliable : Type 0) (drew draws : ℕ) (reply : Reply) → HasChangeCause old new number Reliable drew draws reply → Grows drew draws
change_drawn old new number Reliable drew draws (NotAvailable (Fault (File n) count)) cause = inl cause.2
change_drawn old new number Reliable drew draws (NotAvailable (Fault Entropy count)) cause = inr cause.1
change_drawn old new number Reliable drew draws (NotAvailable (Fault Dir count)) cause = absurd cause
change_drawn old new number Reliable drew draws (NotAvailable (Fault Card count)) cause = absurd cause
change_drawn old new number Reliable drew draws (NotAvailable (Frame fault)) cause = absurd cause
change_drawn old new number Reliable drew draws (NotAvailable (CardResult result)) cause = absurd cause
change_drawn old new number Reliable drew draws reply cause = inl cause.1

-- a reply that says why a change of the object in the file of that number was not staged
pub change_accuses_file : (key : List ℕ) (d0 d1 : Devices) (number : ℕ) (from to : FileState) → ((n : ℕ) → n ≡ number → (d0.file n ≡ from) × (d1.file n ≡ to)) → (Reliable : Type 0) (reply : Reply)
    → HasChangeCause from to number Reliable d0.draws d1.draws reply → AccusesRightly key d0 d1 reply
change_accuses_file key d0 d1 number from to files Reliable (NotAvailable (Fault (File n) count)) cause =
    let failed : FileFailed from to count = cause.1 in
    let there = files n cause.0 in (
      subst (λ (p : FileState × FileState). Rose (p.0).faults (p.1).faults) (λ i. (sym there.0 i, sym there.1 i)) failed.rose,
      failed.carried ∙ ap (λ (f : FileState). f.faults) (sym there.1),
    )
change_accuses_file key d0 d1 number from to files Reliable (NotAvailable (Fault Entropy count)) cause = (cause.1, cause.2)
change_accuses_file key d0 d1 number from to files Reliable (NotAvailable (Fault Dir count)) cause = absurd cause
change_accuses_file key d0 d1 number from to files Reliable (NotAvailable (Fault Card count)) cause = absurd cause
change_accuses_file key d0 d1 number from to files Reliable (NotAvailable (Frame fault)) cause = absurd cause
change_accuses_file key d0 d1 number from to files Reliable (NotAvailable (CardResult result)) cause = absurd cause
change_accuses_file key d0 d1 number from to files Reliable reply cause = tt

module _ {F R E : Type 0} (of_file : F → FileState) (of_port : R → PortState) (draws : E → ℕ) (store : Store) (old new : GuardedGateValue F R) (slots : List SlotValue) (place : ℕ) (before after : SlotValue)
    (was now : CallerSession E) (are : AreSlots slots) (within : place < length slots) (stands : before ≡ slice_index_or slots place before) (same : after.number ≡ before.number) where
  abbrev from : Serving F R E
  from = record { gate = old; slots = slots; session = was }

  abbrev to : Serving F R E
  to = record { gate = new; slots = slice_set slots place after; session = now }

  abbrev key : List ℕ
  key = rpmb_key store.keys.huk

  abbrev d0 : Devices
  d0 = devices_in of_file of_port draws from

  abbrev d1 : Devices
  d1 = devices_in of_file of_port draws to

  -- a reply that says why the change was not staged
  pub change_accuses : (Reliable : Type 0) (reply : Reply) → HasChangeCause before.file after.file before.number Reliable (draws was.entropy) (draws now.entropy) reply → AccusesRightly key d0 d1 reply
  change_accuses Reliable reply cause =
      change_accuses_file key d0 d1 before.number before.file after.file (λ n own. (
        file_from of_file of_port draws store old new slots place before after was now are within stands same n own,
        file_to of_file of_port draws store old new slots place before after was now are within stands same n own,
      )) Reliable reply cause

  abbrev Knows : Type 0
  Knows = KnowsCard (of_port old.gate.host.port) old.gate.host.key key old.gate.counter

  -- a commit with the slot of its object
  pub committed_serves : (call : Call) (own : Reply) (change : EntryChange) (Reliable : Type 0) (answer : PlacedReply) (X : Type 0)
      → IsCommitted of_file of_port store old new before.number was now call own change Reliable (draws was.entropy) (draws now.entropy) answer → AccusesRightly key d0 d1 own
      → Knows → old.gate.doubt ≡ None → FileGoesOn before.file after.file → ServesObject of_file of_port draws {X = X} store from to call (Ok answer)
  committed_serves call own change Reliable answer X c accuses known idle file =
      let object = is_object_file of_file of_port draws store old new slots place before after was now are within stands same in
      serves_ok of_file of_port draws store old new slots place before after was now are within stands same call answer
      (committed_appends of_file of_port draws store old new before.number was now call own change Reliable answer object c)
      (subst (AccusesRightly key d0 d1) (sym c.reply)
      (end_accuses of_file of_port draws old new slots (slice_set slots place after) was now key known c.end own c.gate.counts_are c.gate.cause c.gate.heard accuses))
      (subst (λ (p : Mark × Reply). CostsDoubt key d0 d1 p.0 p.1) (λ i. (sym (committed_mark of_file of_port draws store old new before.number was now call own change Reliable answer object c) i, sym c.reply i))
      (end_costs of_file of_port draws old new slots (slice_set slots place after) was now key known c.end own c.gate.cause c.gate.doubtful))
      (end_holds old.gate new.gate change c.end c.gate.holds idle)
      (committed_goes_on of_file of_port draws store old new before.number was now call own change Reliable answer c key known) file X

  -- a change of the object's data that was answered, or memory ran out
  pub changed_serves : (call : Call) (held : Held) (size : ℕ) (Reliable X : Type 0) (result : Result PlacedReply X)
      → IsChangedOrNot of_file of_port Reliable (draws was.entropy) (draws now.entropy) store old new before after was now call held size result → IsCallerOf store was
      → FileGoesOn before.file after.file → Knows → old.gate.doubt ≡ None → ServesObject of_file of_port draws store from to call result
  changed_serves call held size Reliable X (Ok answer) (Meant m) caller file known idle =
      serves_ok of_file of_port draws store old new slots place before after was now are within stands same call answer
      (served_appends of_file of_port draws store old new slots place before after was now are within stands same call answer m.served) (done_accuses key d0 d1 answer.reply m.kind)
      (served_quiet of_file of_port draws store old new slots place before after was now are within stands same call answer m.served)
      (quiet_holds old.gate new.gate m.served.gate) (quiet_goes_on of_file of_port draws key old.gate new.gate was now m.served.gate (inl m.undrawn)) file X
  changed_serves call held size Reliable X (Ok answer) (Tried (Failed served kind cause)) caller file known idle =
      serves_ok of_file of_port draws store old new slots place before after was now are within stands same call answer
      (served_appends of_file of_port draws store old new slots place before after was now are within stands same call answer served) (change_accuses Reliable answer.reply cause)
      (served_quiet of_file of_port draws store old new slots place before after was now are within stands same call answer served)
      (quiet_holds old.gate new.gate served.gate)
      (quiet_goes_on of_file of_port draws key old.gate new.gate was now served.gate
      (change_drawn before.file after.file before.number Reliable (draws was.entropy) (draws now.entropy) answer.reply cause))
      file X
  changed_serves call held size Reliable X (Ok answer) (Tried (Committable root c passed)) caller file known idle =
      committed_serves call Done (renewal held root size) Reliable answer X c tt known idle file
  changed_serves call held size Reliable X (Err e) stays caller file known idle =
      stays_serves of_file of_port draws store old new slots place before after was now are within stands same call X e stays caller file

  -- a rename that was committed, or was not done at all
  pub renamed_serves : (call : Call) (change : EntryChange) (Reliable X : Type 0) (result : Result PlacedReply X)
      → IfOk result (λ answer. IsCommitted of_file of_port store old new before.number was now call Done change Reliable (draws was.entropy) (draws now.entropy) answer)
      → OnErr result ((new ≡ old) × (now ≡ was) × (after ≡ before)) → after.file ≡ before.file → IsCallerOf store was → Knows → old.gate.doubt ≡ None
      → ServesObject of_file of_port draws store from to call result
  renamed_serves call change Reliable X (Ok answer) committed stays file caller known idle =
      committed_serves call Done change Reliable answer X committed tt known idle (same_file_goes_on before.file after.file file)
  renamed_serves call change Reliable X (Err e) committed stays file caller known idle =
      stays_serves of_file of_port draws store old new slots place before after was now are within stands same call X e (stays.0, stays.1) caller
      (same_file_goes_on before.file after.file file)
