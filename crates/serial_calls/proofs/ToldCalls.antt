-- What a call on an object leaves of the store that serves it.
use Rattle.std.proofs.Common.{◌≡◌, ◌+◌, ◌-◌, ◌<◌, ℕ, List, Err, IfOk, Ok, Result, Some, length, slice_index_or, refl, sym, ap, ◌∙◌, subst, inl, arith}
use Rattle.std.specs.Prelude.{slice_set}
use Rattle.std.proofs.lemmas.List.{get_or_default}
use Rattle.tee_types.specs.Limits.{IsObjectFile}
use Rattle.call_steps.specs.CallerSessions.{CallerSession, IsCallerOf}
use Rattle.disk_model.specs.Calls.{GoesOn as FileGoesOn}
use Rattle.disk_model.specs.Faults.{Rose}
use Rattle.disk_model.specs.State.{FileState}
use Rattle.history_seats.specs.Views.{GateView}
use Rattle.hmac_keys.specs.KeyTable.{rpmb_key}
use Rattle.htree_file.specs.Answers.{FileFailed}
use Rattle.call_steps.specs.declared.PlacedReply.{PlacedReply}
use Rattle.call_steps.specs.GuardedGates.{GuardedGateValue}
use Rattle.call_steps.specs.AnswerCauses.{HasToldCause}
use Rattle.call_steps.specs.AnswerServed.{IsServed, IsServedOrNot}
use Rattle.call_steps.specs.SlotValues.{SlotValue}
use Rattle.rpmb_card.specs.Port.{PortState}
use Rattle.call_steps.specs.Gates.{GateValue}
use Rattle.store_model.specs.declared.event.Mark.TheVariants.{Unchanged}
use Rattle.core_laws.specs.Stores.{Store}
use Rattle.tee_types.specs.declared.call.Call.{Call}
use Rattle.tee_types.specs.declared.reply.Cause.TheVariants.{CardResult, Fault, Frame}
use Rattle.tee_types.specs.declared.reply.Device.TheVariants.{Card, Dir, Entropy, File}
use Rattle.tee_types.specs.declared.reply.Reply.{Reply}
use Rattle.tee_types.specs.declared.reply.Reply.TheVariants.{NotAvailable}
use Rattle.serial_calls.specs.Appended.{AppendsCall, AppendsNone}
use Rattle.serial_calls.specs.HeldFiles.{HoldsForDoubt, KeepsHolds}
use Rattle.call_steps.specs.Devices.{AccusesRightly, CostsDoubt, Devices, DevicesGoOn, Grows, PortGoesOn, file_in, no_slot}
use Rattle.call_steps.specs.Slots.{AreSlots}
use Rattle.serial_calls.specs.ServeReplay.{ServesObject}
use Rattle.call_steps.specs.Rising.{Serving, devices_in}
use Rattle.call_steps.specs.SessionEvents.{IsWaiting}
use Rattle.call_steps.proofs.GoingOn.{waits-drawn}
use Rattle.call_steps.proofs.CountGrowth.{same_file_goes_on, same_port_goes_on}
use Rattle.serial_calls.proofs.SlotLists.{file_changed, files_go_on, slots_after}

-- the gate's devices go on, and the count of the session's entropy stands still or rose
pub record GatesGoOn {F R E : Type 0} (of_file : F → FileState) (of_port : R → PortState) (draws : E → ℕ) (key : List ℕ) (old new : GateValue F R) (was now : CallerSession E) : Type 0 where
  pub dir : FileGoesOn (of_file old.dir.file) (of_file new.dir.file)
  pub card : PortGoesOn key (of_port old.host.port) (of_port new.host.port)
  pub drawn : Grows (draws was.entropy) (draws now.entropy)

-- a gate of which at most the table of open handles changed
pub quiet_goes_on : {F R E : Type 0} (of_file : F → FileState) (of_port : R → PortState) (draws : E → ℕ) (key : List ℕ) (old new : GateValue F R) (was now : CallerSession E)
    → new ≡ record old { open_handles = new.open_handles } → Grows (draws was.entropy) (draws now.entropy) → GatesGoOn of_file of_port draws key old new was now
quiet_goes_on of_file of_port draws key old new was now same drawn = record {
  dir = same_file_goes_on (of_file old.dir.file) (of_file new.dir.file) (ap (λ (g : GateValue _ _). of_file g.dir.file) same);
  card = same_port_goes_on key (of_port old.host.port) (of_port new.host.port) (ap (λ (g : GateValue _ _). of_port g.host.port) same);
  drawn = drawn;
}

pub quiet_holds : {F R : Type 0} (old new : GateValue F R) → new ≡ record old { open_handles = new.open_handles } → KeepsHolds old new
quiet_holds old new same held = subst (λ (g : GateValue _ _). HoldsForDoubt g) (sym same) held

-- A session that was shown the history is as before, where it is the same.
pub none_appended : {F R E : Type 0} (store : Store) (old new : GuardedGateValue F R) (was now : CallerSession E) → IsCallerOf store was → new.journal.knows.all ≡ old.journal.knows.all
    → now ≡ record was { entropy = now.entropy } → AppendsNone store old new was now
none_appended store old new was now caller same session =
    record { all = same; waits = subst (IsWaiting store was) (sym session) (waits-drawn store was now.entropy caller) }

pub same_gate : {F R : Type 0} (old new : GateValue F R) → new ≡ old → new ≡ record old { open_handles = new.open_handles }
same_gate old new same = subst (λ (g : GateValue _ _). g ≡ record old { open_handles = g.open_handles }) (sym same) refl

-- the event of an answer that an object's file gave
pub told_appends : {F R E : Type 0} (store : Store) (old new : GuardedGateValue F R) (was now : CallerSession E) (file : ℕ) → IsObjectFile file → (call : Call) (answer : PlacedReply)
    → IsServed store old new was now file call answer → AppendsCall store old new was now call answer
told_appends store old new was now file object call answer s = record {
  mark = Unchanged;
  appends = s.appends;
  place = s.place;
  last = s.last;
  event = s.event;
  tagged = λ other is_tag. subst IsObjectFile (some_number other (sym s.tagged ∙ is_tag)) object;
  all = ap (λ (k : GateView). k.all) s.knows;
}
  where
    some_number : (other : ℕ) → Some file ≡ Some other → file ≡ other
    some_number other e = cc

pub told_mark : {F R E : Type 0} (store : Store) (old new : GuardedGateValue F R) (was now : CallerSession E) (file : ℕ) (object : IsObjectFile file) (call : Call) (answer : PlacedReply)
    (s : IsServed store old new was now file call answer) → (told_appends store old new was now file object call answer s).mark ≡ Unchanged
unfolding told_appends
told_mark store old new was now file object call answer s = refl

-- it changed nothing
pub told_quiet : {F R E : Type 0} (store : Store) (old new : GuardedGateValue F R) (was now : CallerSession E) (file : ℕ) (object : IsObjectFile file) (call : Call) (answer : PlacedReply)
    (s : IsServed store old new was now file call answer) → (key : List ℕ) (d0 d1 : Devices) → CostsDoubt key d0 d1 (told_appends store old new was now file object call answer s).mark answer.reply
unfolding told_appends
told_quiet store old new was now file object call answer s key d0 d1 = tt

-- a reply that an object's file gave
pub told_accuses_file : (key : List ℕ) (d0 d1 : Devices) (number : ℕ) (from to : FileState) → ((n : ℕ) → n ≡ number → (d0.file n ≡ from) × (d1.file n ≡ to)) → (reply : Reply)
    → HasToldCause from to number reply → AccusesRightly key d0 d1 reply
told_accuses_file key d0 d1 number from to files (NotAvailable (Fault (File n) count)) told =
    let failed : FileFailed from to count = told.1 in
    let there = files n told.0 in (
      subst (λ (p : FileState × FileState). Rose (p.0).faults (p.1).faults) (λ i. (sym there.0 i, sym there.1 i)) failed.rose,
      failed.carried ∙ ap (λ (f : FileState). f.faults) (sym there.1),
    )
told_accuses_file key d0 d1 number from to files (NotAvailable (Fault Dir count)) told = absurd told
told_accuses_file key d0 d1 number from to files (NotAvailable (Fault Card count)) told = absurd told
told_accuses_file key d0 d1 number from to files (NotAvailable (Fault Entropy count)) told = absurd told
told_accuses_file key d0 d1 number from to files (NotAvailable (Frame fault)) told = absurd told
told_accuses_file key d0 d1 number from to files (NotAvailable (CardResult result)) told = absurd told
told_accuses_file key d0 d1 number from to files reply told = tt

-- One slot was used.
module _ {F R E : Type 0} (of_file : F → FileState) (of_port : R → PortState) (draws : E → ℕ) (store : Store) (old new : GuardedGateValue F R) (slots : List SlotValue) (place : ℕ) (before after : SlotValue)
    (was now : CallerSession E) (are : AreSlots slots) (within : place < length slots) (stands : before ≡ slice_index_or slots place before) (same : after.number ≡ before.number) where
  abbrev pub from : Serving F R E
  from = record { gate = old; slots = slots; session = was }

  abbrev pub to : Serving F R E
  to = record { gate = new; slots = slice_set slots place after; session = now }

  abbrev key : List ℕ
  key = rpmb_key store.keys.huk

  abbrev d0 : Devices
  d0 = devices_in of_file of_port draws from

  abbrev d1 : Devices
  d1 = devices_in of_file of_port draws to

  is : slice_index_or slots place no_slot ≡ before
  is = get_or_default slots place no_slot before within ∙ sym stands

  numbered : before.number ≡ place + 1
  numbered = ap (λ (x : SlotValue). x.number) (sym is) ∙ are.numbered place no_slot within

  slots_to : AreSlots (slice_set slots place after)
  slots_to = slots_after slots place after are within (same ∙ numbered)

  -- the slot's file, by its number
  pub file_from : (n : ℕ) → n ≡ before.number → file_in slots n ≡ before.file
  file_from n own = let here : n - 1 ≡ place = omega (arith, own, numbered) in
      ap (λ (k : ℕ). (slice_index_or slots k no_slot).file) here ∙ ap (λ (x : SlotValue). x.file) is

  pub file_to : (n : ℕ) → n ≡ before.number → file_in (slice_set slots place after) n ≡ after.file
  file_to n own = file_changed slots place after are within n (omega (arith, own, numbered))

  pub is_object_file : IsObjectFile before.number
  is_object_file = (omega (arith, numbered), omega (arith, numbered, within, are.many))

  goes_on : GatesGoOn of_file of_port draws key old.gate new.gate was now → FileGoesOn before.file after.file → DevicesGoOn key d0 d1
  goes_on gates file = record { dir = gates.dir; file = files_go_on slots place after are within before is file; card = gates.card; draws = gates.drawn }

  -- a reply that the slot's file gave
  pub told_accuses : (reply : Reply) → HasToldCause before.file after.file before.number reply → AccusesRightly key d0 d1 reply
  told_accuses reply told = told_accuses_file key d0 d1 before.number before.file after.file (λ n own. (file_from n own, file_to n own)) reply told

  pub serves_ok : (call : Call) (answer : PlacedReply) → (appends : AppendsCall store old new was now call answer) → AccusesRightly key d0 d1 answer.reply → CostsDoubt key d0 d1 appends.mark answer.reply
      → KeepsHolds old.gate new.gate → GatesGoOn of_file of_port draws key old.gate new.gate was now → FileGoesOn before.file after.file → (X : Type 0)
      → ServesObject of_file of_port draws {X = X} store from to call (Ok answer)
  serves_ok call answer appends accuses costs held gates file X =
      record { answers = record { appends = appends; accuses = accuses; costs = costs }; slots = slots_to; held = held; devices = goes_on gates file }

  pub serves_err : (call : Call) (X : Type 0) (e : X) → AppendsNone store old new was now → KeepsHolds old.gate new.gate → GatesGoOn of_file of_port draws key old.gate new.gate was now
      → FileGoesOn before.file after.file → ServesObject of_file of_port draws {X = X} store from to call (Err e)
  serves_err call X e none held gates file = record { answers = none; slots = slots_to; held = held; devices = goes_on gates file }

  -- the event of an answer that the slot's file gave
  pub served_appends : (call : Call) (answer : PlacedReply) → IsServed store old new was now before.number call answer → AppendsCall store old new was now call answer
  served_appends call answer s = told_appends store old new was now before.number is_object_file call answer s

  -- it changed nothing
  pub served_quiet : (call : Call) (answer : PlacedReply) (s : IsServed store old new was now before.number call answer) → CostsDoubt key d0 d1 (served_appends call answer s).mark answer.reply
  unfolding served_appends
  served_quiet call answer s = told_quiet store old new was now before.number is_object_file call answer s key d0 d1

  -- memory ran out before anything was done
  pub stays_serves : (call : Call) (X : Type 0) (e : X) → (new ≡ old) × (now ≡ was) → IsCallerOf store was → FileGoesOn before.file after.file
      → ServesObject of_file of_port draws {X = X} store from to call (Err e)
  stays_serves call X e stays caller file =
      let gate : new.gate ≡ old.gate = ap (λ (g : GuardedGateValue F R). g.gate) stays.0 in
      serves_err call X e
      (none_appended store old new was now caller (ap (λ (g : GuardedGateValue F R). g.journal.knows.all) stays.0) (subst (λ (s : CallerSession E). s ≡ record was { entropy = s.entropy }) (sym stays.1) refl))
      (quiet_holds old.gate new.gate (same_gate old.gate new.gate gate))
      (quiet_goes_on of_file of_port draws key old.gate new.gate was now (same_gate old.gate new.gate gate) (inl (ap (λ (s : CallerSession E). draws s.entropy) stays.1)))
      file

  -- the call was answered as its object's file gave it, or memory ran out
  pub told_serves : (call : Call) (X : Type 0) (result : Result PlacedReply X) → IsServedOrNot store old new was now before.number call result → IsCallerOf store was
      → FileGoesOn before.file after.file → IfOk result (λ answer. HasToldCause before.file after.file before.number answer.reply) → now.entropy ≡ was.entropy
      → ServesObject of_file of_port draws store from to call result
  told_serves call X (Ok answer) served caller file cause entropy =
      serves_ok call answer (served_appends call answer served) (told_accuses answer.reply cause) (served_quiet call answer served) (quiet_holds old.gate new.gate served.gate)
      (quiet_goes_on of_file of_port draws key old.gate new.gate was now served.gate (inl (ap draws entropy))) file X
  told_serves call X (Err e) served caller file cause entropy = stays_serves call X e served caller file
