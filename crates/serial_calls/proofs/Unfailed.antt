-- Where memory ran out, and where the object's file was only read: what became of the devices.
use Rattle.std.proofs.Common.{◌≡◌, ◌-◌, ◌<◌, ◌⊎◌, ℕ, List, None, Ok, Err, Result, OnErr, length, slice_index_or, inl, inr, refl, sym, ap, ◌∙◌, subst}
use Rattle.std.specs.Prelude.{slice_set}
use Rattle.std.proofs.lemmas.Bool.{cases_eq}
use Rattle.std.proofs.lemmas.List.{get_or_default}
use Rattle.call_steps.specs.CallerSessions.{CallerSession}
use Rattle.call_steps.specs.Devices.{Devices, faults_of, file_in, no_slot}
use Rattle.call_steps.specs.Gates.{GateValue}
use Rattle.call_steps.specs.GateServed.{HeldUp, IsUnserved, Misused, Precedes, Ruled}
use Rattle.call_steps.specs.GuardedGates.{GuardedGateValue}
use Rattle.call_steps.specs.Resolved.{IsSettled, WasResolved}
use Rattle.call_steps.specs.Rising.{devices_in}
use Rattle.call_steps.specs.SlotValues.{SlotValue}
use Rattle.call_steps.specs.Slots.{AreSlots}
use Rattle.call_steps.specs.declared.PlacedReply.{PlacedReply}
use Rattle.core_laws.specs.Stores.{Store}
use Rattle.disk_model.specs.Calls.{Rests}
use Rattle.disk_model.specs.State.{FileState}
use Rattle.htree_file.specs.Answers.{FilePassed}
use Rattle.htree_file.proofs.Causes.{rests_none}
use Rattle.rpmb_card.specs.Port.{PortState}
use Rattle.core_laws.proofs.Mending.{none_some}
use Rattle.serial_calls.proofs.SlotLists.{file_changed, file_kept}
use Rattle.serial_calls.specs.ChangeChecks.{AreOnlyRead, IsOnlyRead}
use Rattle.serial_calls.specs.Unfailed.{NoneFailed}
use Rattle.serial_calls.specs.Changed.{IsChangedOrNot}
use Rattle.serial_calls.specs.Created.{Creates}
use Rattle.serial_calls.specs.Rules.{NewObject}
use Rattle.call_rules.specs.declared.decision.NewPlace.{NewPlace}
use Rattle.call_steps.specs.AnswerServed.{IsServedOrNot}
use Rattle.call_steps.specs.declared.Held.{Held}
use Rattle.tee_types.specs.declared.call.Call.{Call}
use Rattle.tee_types.specs.declared.reply.Device.{Device}
use Rattle.tee_types.specs.declared.reply.Reply.{Reply}
use Rattle.tee_types.specs.declared.reply.Device.TheVariants.{Card, Dir, Entropy, File}

pub none_failed_then : (d0 d1 d2 : Devices) → NoneFailed d0 d1 → NoneFailed d1 d2 → NoneFailed d0 d2
none_failed_then d0 d1 d2 first second = λ device. second device ∙ first device

-- gate and session alone were used
pub gate_unfailed : {F R E : Type 0} (of_file : F → FileState) (of_port : R → PortState) (draws : E → ℕ) (old new : GuardedGateValue F R) (slots : List SlotValue) (was now : CallerSession E)
    → (of_file new.gate.dir.file).faults ≡ (of_file old.gate.dir.file).faults → (of_port new.gate.host.port).faults ≡ (of_port old.gate.host.port).faults → draws now.entropy ≡ draws was.entropy
    → NoneFailed (devices_in of_file of_port draws (record { gate = old; slots = slots; session = was })) (devices_in of_file of_port draws (record { gate = new; slots = slots; session = now }))
gate_unfailed of_file of_port draws old new slots was now dir card drawn = by
  where
    by : (device : Device) → faults_of (devices_in of_file of_port draws (record { gate = new; slots = slots; session = now })) device
        ≡ faults_of (devices_in of_file of_port draws (record { gate = old; slots = slots; session = was })) device
    by Dir = dir
    by (File n) = refl
    by Card = card
    by Entropy = drawn

-- at most the open handles changed
pub opened_room : {F R : Type 0} (a b : GateValue F R) → b ≡ record a { open_handles = b.open_handles } → b ≡ record a { open_handles = b.open_handles; room = b.room }
opened_room a b same = same ∙ ap (λ (n : ℕ). record a { open_handles = b.open_handles; room = n }) (sym (ap (λ (g : GateValue _ _). g.room) same))

-- one slot was used
module _ (slots : List SlotValue) (place : ℕ) (before after : SlotValue) (are : AreSlots slots) (within : place < length slots) (stands : before ≡ slice_index_or slots place before) where
  is : slice_index_or slots place no_slot ≡ before
  is = get_or_default slots place no_slot before within ∙ sym stands

  each_file : (P : FileState → FileState → Type 0) → ((f : FileState) → P f f) → P before.file after.file → (n : ℕ) → P (file_in slots n) (file_in (slice_set slots place after) n)
  each_file P same changed n = elim (cases_eq (n - 1) place) [
    | inl here ↦
        let was : file_in slots n ≡ before.file = ap (λ (k : ℕ). (slice_index_or slots k no_slot).file) here ∙ ap (λ (x : SlotValue). x.file) is in
        subst (λ (p : FileState × FileState). P p.0 p.1) (λ i. (sym was i, sym (file_changed slots place after are within n here) i)) changed
    | inr other ↦ subst (P (file_in slots n)) (sym (file_kept slots place after are within n other)) (same (file_in slots n))
  ]

  pub files_rest : Rests before.file after.file → (n : ℕ) → Rests (file_in slots n) (file_in (slice_set slots place after) n)
  files_rest rests n = each_file Rests rests_none rests n

  files_same : FilePassed before.file after.file → (n : ℕ) → (file_in (slice_set slots place after) n).faults ≡ (file_in slots n).faults
  files_same passed n = each_file (λ (a b : FileState). b.faults ≡ a.faults) (λ f. refl) passed.faults n

  pub slot_unfailed : {F R E : Type 0} (of_file : F → FileState) (of_port : R → PortState) (draws : E → ℕ) (old new : GuardedGateValue F R) (was now : CallerSession E)
      → (of_file new.gate.dir.file).faults ≡ (of_file old.gate.dir.file).faults → (of_port new.gate.host.port).faults ≡ (of_port old.gate.host.port).faults → draws now.entropy ≡ draws was.entropy
      → FilePassed before.file after.file
      → NoneFailed (devices_in of_file of_port draws (record { gate = old; slots = slots; session = was }))
      (devices_in of_file of_port draws (record { gate = new; slots = slice_set slots place after; session = now }))
  slot_unfailed of_file of_port draws old new was now dir card drawn passed = by
    where
      by : (device : Device) → faults_of (devices_in of_file of_port draws (record { gate = new; slots = slice_set slots place after; session = now })) device
          ≡ faults_of (devices_in of_file of_port draws (record { gate = old; slots = slots; session = was })) device
      by Dir = dir
      by (File n) = files_same passed n
      by Card = card
      by Entropy = drawn

  -- the same where gate and session stay
  pub stays_unfailed : {F R E X : Type 0} (of_file : F → FileState) (of_port : R → PortState) (draws : E → ℕ) (old new : GuardedGateValue F R) (was now : CallerSession E) (result : Result PlacedReply X)
      → OnErr result ((new ≡ old) × (now ≡ was)) → OnErr result (FilePassed before.file after.file)
      → OnErr result (NoneFailed (devices_in of_file of_port draws (record { gate = old; slots = slots; session = was }))
      (devices_in of_file of_port draws (record { gate = new; slots = slice_set slots place after; session = now })))
  stays_unfailed of_file of_port draws old new was now (Ok answer) stays passed = tt
  stays_unfailed of_file of_port draws old new was now (Err none) stays passed =
      slot_unfailed of_file of_port draws old new was now (ap (λ (g : GuardedGateValue _ _). (of_file g.gate.dir.file).faults) stays.0)
      (ap (λ (g : GuardedGateValue _ _). (of_port g.gate.host.port).faults) stays.0) (ap (λ (s : CallerSession _). draws s.entropy) stays.1) passed

  -- the slot's file was only read
  pub slot_read : {F R E : Type 0} (old new : GuardedGateValue F R) (was now : CallerSession E) → IsOnlyRead old new before.file after.file was now
      → AreOnlyRead (record { gate = old; slots = slots; session = was }) (record { gate = new; slots = slice_set slots place after; session = now })
  slot_read old new was now read =
      record { gate = opened_room old.gate new.gate read.gate; files = files_rest read.file; entropy = read.entropy }

-- Gates of which at most the open handles and the room changed.
pub room_then : {F R : Type 0} (a b c : GateValue F R) → b ≡ record a { open_handles = b.open_handles; room = b.room } → c ≡ record b { open_handles = c.open_handles; room = c.room }
    → c ≡ record a { open_handles = c.open_handles; room = c.room }
room_then a b c first second = second ∙ ap (λ (g : GateValue _ _). record g { open_handles = c.open_handles; room = c.room }) first

-- No commit was in doubt, so nothing was resolved.
module _ {F R : Type 0} (of_file : F → FileState) (of_port : R → PortState) (old new : GuardedGateValue F R) (idle : old.gate.doubt ≡ None) where
  unresolved : WasResolved of_file of_port old new → ⊥
  unresolved w = none_some w.doubted (sym idle ∙ w.was)

  pub settled_same : IsSettled of_file of_port old new → new ≡ old
  settled_same (inl stays) = stays.1
  settled_same (inr w) = absurd (unresolved w)

  pub unserved_same : {E : Type 0} (Reliable : Type 0) (drew draws : ℕ) (store : Store) (was now : CallerSession E) → IsUnserved of_file of_port Reliable drew draws store old new was now → new ≡ old
  unserved_same Reliable drew draws store was now u = elim u.gate [
    | inl same ↦ same
    | inr w ↦ absurd (unresolved w)
  ]

-- what preceded the answer of the gate
pub precedes_same : {F R : Type 0} (of_file : F → FileState) (of_port : R → PortState) (Reliable : Type 0) (drew draws : ℕ) (old between : GuardedGateValue F R) (reply : Reply) → old.gate.doubt ≡ None
    → Precedes of_file of_port Reliable drew draws old between reply → between ≡ old
precedes_same of_file of_port Reliable drew draws old between reply idle (Misused same is) = same
precedes_same of_file of_port Reliable drew draws old between reply idle (Ruled settled plain) = settled_same of_file of_port old between idle settled
precedes_same of_file of_port Reliable drew draws old between reply idle (HeldUp cause stays is) = absurd (none_some stays.doubted (sym idle ∙ stays.was))

-- where the doubt was settled no count rose
pub settled_unfailed : {F R : Type 0} (of_file : F → FileState) (of_port : R → PortState) (old new : GuardedGateValue F R) → (new ≡ old) ⊎ WasResolved of_file of_port old new
    → ((of_file new.gate.dir.file).faults ≡ (of_file old.gate.dir.file).faults) × ((of_port new.gate.host.port).faults ≡ (of_port old.gate.host.port).faults)
settled_unfailed of_file of_port old new (inl same) =
    (ap (λ (g : GuardedGateValue _ _). (of_file g.gate.dir.file).faults) same, ap (λ (g : GuardedGateValue _ _). (of_port g.gate.host.port).faults) same)
settled_unfailed of_file of_port old new (inr w) = (ap (λ (f : FileState). f.faults) w.resolved.file, w.resolved.passed)

pub settled_touched : {F R : Type 0} (of_file : F → FileState) (of_port : R → PortState) (old new : GuardedGateValue F R) → IsSettled of_file of_port old new → (new ≡ old) ⊎ WasResolved of_file of_port old new
settled_touched of_file of_port old new (inl stays) = inl stays.1
settled_touched of_file of_port old new (inr w) = inr w

-- gate and session stay where memory ran out
pub served_stays : {F R E X : Type 0} (store : Store) (old new : GuardedGateValue F R) (was now : CallerSession E) (number : ℕ) (call : Call) (result : Result PlacedReply X)
    → IsServedOrNot store old new was now number call result → OnErr result ((new ≡ old) × (now ≡ was))
served_stays store old new was now number call (Ok answer) served = tt
served_stays store old new was now number call (Err none) served = served

pub changed_stays : {F R E X : Type 0} (of_file : F → FileState) (of_port : R → PortState) (Reliable : Type 0) (drew draws : ℕ) (store : Store) (old new : GuardedGateValue F R) (from to : SlotValue)
    (was now : CallerSession E) (call : Call) (held : Held) (size : ℕ) (result : Result PlacedReply X)
    → IsChangedOrNot of_file of_port Reliable drew draws store old new from to was now call held size result → OnErr result ((new ≡ old) × (now ≡ was))
changed_stays of_file of_port Reliable drew draws store old new from to was now call held size (Ok answer) changed = tt
changed_stays of_file of_port Reliable drew draws store old new from to was now call held size (Err none) changed = changed

pub renamed_stays : {F R E X : Type 0} (old new : GuardedGateValue F R) (from to : SlotValue) (was now : CallerSession E) (result : Result PlacedReply X)
    → OnErr result ((new ≡ old) × (now ≡ was) × (to ≡ from)) → OnErr result ((new ≡ old) × (now ≡ was))
renamed_stays old new from to was now (Ok answer) stays = tt
renamed_stays old new from to was now (Err none) stays = (stays.0, stays.1)

pub renamed_passed : {X : Type 0} (from to : SlotValue) (result : Result PlacedReply X) → to.file ≡ from.file → OnErr result (FilePassed from.file to.file)
renamed_passed from to (Ok answer) same = tt
renamed_passed from to (Err none) same = record { faults = ap (λ (f : FileState). f.faults) same; starved = ap (λ (f : FileState). f.starved) same }

-- a create of which memory ran out
pub created_unfailed : {F R E X : Type 0} (of_file : F → FileState) (of_port : R → PortState) (draws : E → ℕ) (store : Store) (old mid new : GuardedGateValue F R) (slots : List SlotValue) (place : ℕ) (before after : SlotValue)
    (was now : CallerSession E) → AreSlots slots → place < length slots → before ≡ slice_index_or slots place before
    → of_file mid.gate.dir.file ≡ of_file old.gate.dir.file → of_port mid.gate.host.port ≡ of_port old.gate.host.port
    → (object : NewObject) (new_place : NewPlace) (Reliable : Type 0) (result : Result PlacedReply X)
    → Creates of_file of_port store mid new before.number before.file after.file was now object new_place Reliable (draws was.entropy) (draws now.entropy) result
    → OnErr result (NoneFailed (devices_in of_file of_port draws (record { gate = old; slots = slots; session = was }))
    (devices_in of_file of_port draws (record { gate = new; slots = slice_set slots place after; session = now })))
created_unfailed of_file of_port draws store old mid new slots place before after was now are within stands dir card object new_place Reliable (Ok answer) creates = tt
created_unfailed of_file of_port draws store old mid new slots place before after was now are within stands dir card object new_place Reliable (Err none) creates =
    let untold = creates.answered in
    slot_unfailed slots place before after are within stands of_file of_port draws old new was now
    (ap (λ (g : GuardedGateValue _ _). (of_file g.gate.dir.file).faults) creates.given_back ∙ ap (λ (g : GuardedGateValue _ _). (of_file g.gate.dir.file).faults) untold.gate ∙ ap (λ (f : FileState). f.faults) dir)
    (ap (λ (g : GuardedGateValue _ _). (of_port g.gate.host.port).faults) creates.given_back ∙ ap (λ (g : GuardedGateValue _ _). (of_port g.gate.host.port).faults) untold.gate ∙ ap (λ (p : PortState). p.faults) card)
    untold.undrawn untold.passed

pub same_room : {F R : Type 0} (a b : GateValue F R) → b ≡ a → b ≡ record a { open_handles = b.open_handles; room = b.room }
same_room a b same = subst (λ (g : GateValue _ _). g ≡ record a { open_handles = g.open_handles; room = g.room }) (sym same) refl

-- no file was asked
pub gate_read : {F R E : Type 0} (old new : GuardedGateValue F R) (slots : List SlotValue) (was now : CallerSession E)
    → new.gate ≡ record old.gate { open_handles = new.gate.open_handles; room = new.gate.room } → now.entropy ≡ was.entropy
    → AreOnlyRead (record { gate = old; slots = slots; session = was }) (record { gate = new; slots = slots; session = now })
gate_read old new slots was now gate entropy = record { gate = gate; files = λ n. rests_none (file_in slots n); entropy = entropy }

-- before an object's file was read
pub read_behind : {F R E : Type 0} (old mid new : GuardedGateValue F R) (slots after : List SlotValue) (was seen now : CallerSession E)
    → mid.gate ≡ record old.gate { open_handles = mid.gate.open_handles; room = mid.gate.room } → seen.entropy ≡ was.entropy
    → AreOnlyRead (record { gate = mid; slots = slots; session = seen }) (record { gate = new; slots = after; session = now })
    → AreOnlyRead (record { gate = old; slots = slots; session = was }) (record { gate = new; slots = after; session = now })
read_behind old mid new slots after was seen now gate entropy read =
    record { gate = room_then old.gate mid.gate new.gate gate read.gate; files = read.files; entropy = read.entropy ∙ entropy }

-- before memory ran out
pub unfailed_behind : {A X : Type 0} (d0 d1 d2 : Devices) (result : Result A X) → NoneFailed d0 d1 → OnErr result (NoneFailed d1 d2) → OnErr result (NoneFailed d0 d2)
unfailed_behind d0 d1 d2 (Ok answer) first then_ = tt
unfailed_behind d0 d1 d2 (Err none) first then_ = none_failed_then d0 d1 d2 first then_
