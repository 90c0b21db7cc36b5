-- What a create leaves of the store that serves it.
use Rattle.std.proofs.Common.{◌≡◌, ◌<◌, ◌++◌, ◌∷◌, ◌+◌, [], ℕ, List, Err, None, Ok, Result, Some, length, slice_index_or, refl, sym, ap, ◌∙◌, subst, inl, inr}
use Rattle.std.specs.Prelude.{slice_set}
use Rattle.tee_types.specs.Limits.{IsObjectFile}
use Rattle.call_steps.specs.CallerSessions.{CallerSession, IsCallerOf}
use Rattle.call_rules.specs.declared.decision.NewPlace.{NewPlace}
use Rattle.serial_calls.specs.Created.{Creates, IsAnsweredOrNot, IsUntold}
use Rattle.serial_calls.specs.Created.IsAnswered.{Committable, CreateFailure}
use Rattle.serial_calls.specs.CreateEnds.{IsCommittableNew}
use Rattle.serial_calls.specs.FileReserving.{given_back}
use Rattle.serial_calls.specs.Rules.{NewObject, create_call}
use Rattle.serial_calls.specs.Seating.{reseated}
use Rattle.serial_calls.specs.CreateFailure.{IsToldUnmade, UnmadeCause}
use Rattle.disk_model.specs.Calls.{GoesOn as FileGoesOn}
use Rattle.disk_model.specs.State.{FileState}
use Rattle.history_seats.specs.Records.{HistoryRecord}
use Rattle.hmac_keys.specs.KeyTable.{rpmb_key}
use Rattle.call_steps.specs.declared.PlacedReply.{PlacedReply}
use Rattle.call_steps.specs.GuardedGates.{GuardedGateValue}
use Rattle.call_steps.specs.CreateLaws.{index_of_place, new_entry}
use Rattle.call_steps.specs.SlotValues.{SlotValue}
use Rattle.rpmb_card.specs.Port.{PortState}
use Rattle.call_steps.specs.Gates.{GateValue}
use Rattle.call_steps.specs.Holds.{file_held}
use Rattle.call_steps.specs.declared.EntryChange.{EntryChange}
use Rattle.call_steps.specs.declared.EntryChange.TheVariants.{Put}
use Rattle.store_model.specs.declared.event.Mark.{Mark}
use Rattle.core_laws.specs.Stores.{Store}
use Rattle.tee_types.specs.declared.call.Call.{Call}
use Rattle.tee_types.specs.declared.reply.Cause.TheVariants.{CardResult, Fault, Frame}
use Rattle.tee_types.specs.declared.reply.Device.TheVariants.{Card, Dir, Entropy, File}
use Rattle.tee_types.specs.declared.reply.Reply.{Reply}
use Rattle.tee_types.specs.declared.reply.Reply.TheVariants.{CounterSpent, Handle, NotAvailable}
use Rattle.serial_calls.specs.Appended.{AppendsCall}
use Rattle.serial_calls.specs.HeldFiles.{HoldsForDoubt}
use Rattle.call_steps.specs.Devices.{AccusesRightly, CostsDoubt, Devices, Grows}
use Rattle.serial_calls.specs.ServeReady.{KnowsCard}
use Rattle.call_steps.specs.Slots.{AreSlots}
use Rattle.serial_calls.specs.ServeReplay.{ServesObject}
use Rattle.call_steps.specs.Rising.{Serving, devices_in}
use Rattle.serial_calls.proofs.CommittedCalls.{committed_appends, committed_goes_on, committed_mark, end_accuses, end_costs, unheld}
use Rattle.serial_calls.proofs.HeldFiles.{IsHeldAlone, committed_holds, quiet_given, reserved_alone}
use Rattle.serial_calls.proofs.ToldCalls.{GatesGoOn, file_from, file_to, is_object_file, none_appended, quiet_goes_on, same_gate, serves_err, serves_ok, told_accuses_file, told_appends, told_quiet}

-- the gate once the session holds that file
abbrev pub reserved : {F R : Type 0} → (session file : ℕ) → GuardedGateValue F R → GuardedGateValue F R
reserved session file g = record g { gate = record g.gate { holds = slice_set g.gate.holds session (Some file) } }

-- the same event, between gates with the same histories
moved_appends : {F R E : Type 0} (store : Store) (old new from to : GuardedGateValue F R) (was now : CallerSession E) (call : Call) (answer : PlacedReply)
    → from.journal.knows.all ≡ old.journal.knows.all → new.journal.knows.all ≡ to.journal.knows.all → AppendsCall store from to was now call answer → AppendsCall store old new was now call answer
moved_appends store old new from to was now call answer began ended a = record {
  mark = a.mark;
  appends = a.appends;
  place = a.place ∙ ap length began;
  last = a.last;
  event = a.event;
  tagged = a.tagged;
  all = ended ∙ a.all ∙ ap (λ (l : List HistoryRecord). l ++ a.last ∷ []) began;
}

unmade_drawn : (counter file : ℕ) (old new : FileState) (Reliable : Type 0) (drew draws : ℕ) (reply : Reply) → UnmadeCause counter file old new Reliable drew draws reply → Grows drew draws
unmade_drawn counter file old new Reliable drew draws (NotAvailable (Fault (File n) count)) cause = inl cause.2
unmade_drawn counter file old new Reliable drew draws (NotAvailable (Fault Entropy count)) cause = inr cause.1
unmade_drawn counter file old new Reliable drew draws (NotAvailable (Fault Dir count)) cause = absurd cause
unmade_drawn counter file old new Reliable drew draws (NotAvailable (Fault Card count)) cause = absurd cause
unmade_drawn counter file old new Reliable drew draws (NotAvailable (Frame fault)) cause = absurd cause
unmade_drawn counter file old new Reliable drew draws (NotAvailable (CardResult result)) cause = absurd cause
unmade_drawn counter file old new Reliable drew draws (CounterSpent last) cause = inl cause.3
unmade_drawn counter file old new Reliable drew draws reply cause = absurd cause

-- a reply that says why no object was made in the file of that number
pub unmade_accuses_file : (key : List ℕ) (d0 d1 : Devices) (number : ℕ) (from to : FileState) → ((n : ℕ) → n ≡ number → (d0.file n ≡ from) × (d1.file n ≡ to)) → (counter : ℕ) (Reliable : Type 0) (reply : Reply)
    → UnmadeCause counter number from to Reliable d0.draws d1.draws reply → AccusesRightly key d0 d1 reply
unmade_accuses_file key d0 d1 number from to files counter Reliable (NotAvailable (Fault (File n) count)) cause =
    told_accuses_file key d0 d1 number from to files (NotAvailable (Fault (File n) count)) (cause.0, cause.1)
unmade_accuses_file key d0 d1 number from to files counter Reliable (NotAvailable (Fault Entropy count)) cause = (cause.1, cause.2)
unmade_accuses_file key d0 d1 number from to files counter Reliable (NotAvailable (Fault Dir count)) cause = absurd cause
unmade_accuses_file key d0 d1 number from to files counter Reliable (NotAvailable (Fault Card count)) cause = absurd cause
unmade_accuses_file key d0 d1 number from to files counter Reliable (NotAvailable (Frame fault)) cause = absurd cause
unmade_accuses_file key d0 d1 number from to files counter Reliable (NotAvailable (CardResult result)) cause = absurd cause
unmade_accuses_file key d0 d1 number from to files counter Reliable reply cause = tt

module _ {F R E : Type 0} (of_file : F → FileState) (of_port : R → PortState) (draws : E → ℕ) (store : Store) (old behind : GuardedGateValue F R) (slots : List SlotValue) (place : ℕ) (before after : SlotValue)
    (was now : CallerSession E) (are : AreSlots slots) (within : place < length slots) (stands : before ≡ slice_index_or slots place before) (same : after.number ≡ before.number)
    (idle : old.gate.doubt ≡ None) (holds : file_held (slice_set old.gate.holds was.number (Some before.number)) was.number ≡ Some before.number)
    (file : FileGoesOn before.file after.file) (known : KnowsCard (of_port old.gate.host.port) old.gate.host.key (rpmb_key store.keys.huk) old.gate.counter) where
  abbrev new : GuardedGateValue F R
  new = given_back was.number behind

  -- the gate as the create begins, and once the slot has its new seat
  abbrev began : GuardedGateValue F R
  began = reserved was.number before.number old

  abbrev mid : GuardedGateValue F R
  mid = reseated store before.number began

  abbrev from : Serving F R E
  from = record { gate = old; slots = slots; session = was }

  abbrev to : Serving F R E
  to = record { gate = new; slots = slice_set slots place after; session = now }

  abbrev key : List ℕ
  key = rpmb_key store.keys.huk

  abbrev d0 : Devices
  d0 = devices_in of_file of_port draws from

  abbrev d1 : Devices
  d1 = devices_in of_file of_port draws to

  -- the session alone holds a file, where no other held one before
  alone : HoldsForDoubt old.gate → IsHeldAlone was.number before.number began.gate.holds
  alone held = reserved_alone old.gate.holds was.number before.number (unheld old.gate idle held) holds

  object_file : IsObjectFile before.number
  object_file = is_object_file of_file of_port draws store old new slots place before after was now are within stands same

  -- the same between the gates as they were and are
  moved_goes_on : GatesGoOn of_file of_port draws key mid.gate behind.gate was now → GatesGoOn of_file of_port draws key old.gate new.gate was now
  moved_goes_on g = record { dir = g.dir; card = g.card; drawn = g.drawn }

  committable_serves : (object : NewObject) (new_place : NewPlace) (Reliable : Type 0) (answer : PlacedReply) (X : Type 0)
      → IsCommittableNew of_file of_port store mid behind before.number was now object new_place Reliable (draws was.entropy) (draws now.entropy) answer
      → ServesObject of_file of_port draws {X = X} store from to (create_call object) (Ok answer)
  unfolding moved_appends
  committable_serves object new_place Reliable answer X b =
      let own : Reply = Handle was.state.next_handle in
      let change : EntryChange = Put (index_of_place new_place) (new_entry was.state.application object.id b.view b.next) in
      let c = b.committed in
      serves_ok of_file of_port draws store old new slots place before after was now are within stands same (create_call object) answer
      (moved_appends store old new mid behind was now (create_call object) answer refl refl
      (committed_appends of_file of_port draws store mid behind before.number was now (create_call object) own change Reliable answer object_file c))
      (subst (AccusesRightly key d0 d1) (sym c.reply)
      (end_accuses of_file of_port draws mid behind slots (slice_set slots place after) was now key known c.end own c.gate.counts_are c.gate.cause c.gate.heard tt))
      (subst (λ (p : Mark × Reply). CostsDoubt key d0 d1 p.0 p.1)
      (λ i. (sym (committed_mark of_file of_port draws store mid behind before.number was now (create_call object) own change Reliable answer object_file c) i, sym c.reply i))
      (end_costs of_file of_port draws mid behind slots (slice_set slots place after) was now key known c.end own c.gate.cause c.gate.doubtful))
      (λ held. committed_holds was.number before.number behind change c.end mid.gate.holds (alone held) c.gate.holds c.gate.doubt (ap (λ (n : ℕ). Some n) b.file_is))
      (moved_goes_on (committed_goes_on of_file of_port draws store mid behind before.number was now (create_call object) own change Reliable answer c key known)) file X

  unmade_accuses : (counter : ℕ) (Reliable : Type 0) (reply : Reply) → UnmadeCause counter before.number before.file after.file Reliable (draws was.entropy) (draws now.entropy) reply
      → AccusesRightly key d0 d1 reply
  unmade_accuses counter Reliable reply cause =
      unmade_accuses_file key d0 d1 before.number before.file after.file (λ n own. (
        file_from of_file of_port draws store old new slots place before after was now are within stands same n own,
        file_to of_file of_port draws store old new slots place before after was now are within stands same n own,
      )) counter Reliable reply cause

  unmade_serves : (call : Call) (counter : ℕ) (Reliable : Type 0) (answer : PlacedReply) (X : Type 0) → IsToldUnmade store mid behind before.number was now call answer
      → UnmadeCause counter before.number before.file after.file Reliable (draws was.entropy) (draws now.entropy) answer.reply
      → ServesObject of_file of_port draws {X = X} store from to call (Ok answer)
  unfolding moved_appends
  unmade_serves call counter Reliable answer X t cause =
      serves_ok of_file of_port draws store old new slots place before after was now are within stands same call answer
      (moved_appends store old new mid behind was now call answer refl refl (told_appends store mid behind was now before.number object_file call answer t.served)) (unmade_accuses counter Reliable answer.reply cause)
      (told_quiet store mid behind was now before.number object_file call answer t.served key d0 d1)
      (λ held. quiet_given was.number before.number behind mid.gate.holds (alone held) (ap (λ (g : GateValue F R). g.holds) t.served.gate) (ap (λ (g : GateValue F R). g.doubt) t.served.gate ∙ idle))
      (moved_goes_on (quiet_goes_on of_file of_port draws key mid.gate behind.gate was now t.served.gate
      (unmade_drawn counter before.number before.file after.file Reliable (draws was.entropy) (draws now.entropy) answer.reply cause)))
      file X

  untold_serves : (call : Call) (X : Type 0) (e : X) → IsUntold began behind before.file after.file was now (draws was.entropy) (draws now.entropy) → IsCallerOf store was
      → ServesObject of_file of_port draws {X = X} store from to call (Err e)
  untold_serves call X e u caller =
      serves_err of_file of_port draws store old new slots place before after was now are within stands same call X e
      (none_appended store old new was now caller (ap (λ (g : GuardedGateValue F R). g.journal.knows.all) u.gate) u.session)
      (λ held. quiet_given was.number before.number behind began.gate.holds (alone held) (ap (λ (g : GuardedGateValue F R). g.gate.holds) u.gate) (ap (λ (g : GuardedGateValue F R). g.gate.doubt) u.gate ∙ idle))
      (moved_goes_on (quiet_goes_on of_file of_port draws key began.gate behind.gate was now
      (same_gate began.gate behind.gate (ap (λ (g : GuardedGateValue F R). g.gate) u.gate)) (inl u.undrawn)))
      file

  answered_serves : (object : NewObject) (new_place : NewPlace) (Reliable X : Type 0) (result : Result PlacedReply X) → IsCallerOf store was
      → IsAnsweredOrNot of_file of_port store began behind before.number before.file after.file was now object new_place Reliable (draws was.entropy) (draws now.entropy) result
      → ServesObject of_file of_port draws store from to (create_call object) result
  answered_serves object new_place Reliable X (Ok answer) caller (Committable b passed) = committable_serves object new_place Reliable answer X b
  answered_serves object new_place Reliable X (Ok answer) caller (CreateFailure t cause) = unmade_serves (create_call object) mid.gate.counter Reliable answer X t cause
  answered_serves object new_place Reliable X (Err e) caller untold = untold_serves (create_call object) X e untold caller

-- a create with the slot of the file that was reserved, of which memory may have run out
pub created_serves : {F R E : Type 0} (of_file : F → FileState) (of_port : R → PortState) (draws : E → ℕ) (store : Store) (old mid new : GuardedGateValue F R) (slots : List SlotValue) (place : ℕ) (before after : SlotValue)
    (was now : CallerSession E) → AreSlots slots → place < length slots → before ≡ slice_index_or slots place before → after.number ≡ before.number → old.gate.doubt ≡ None
    → (file : ℕ) → place + 1 ≡ file → file_held mid.gate.holds was.number ≡ Some file → mid ≡ reserved was.number file old → FileGoesOn before.file after.file
    → IsCallerOf store was → KnowsCard (of_port old.gate.host.port) old.gate.host.key (rpmb_key store.keys.huk) old.gate.counter
    → (object : NewObject) (new_place : NewPlace) (Reliable X : Type 0) (result : Result PlacedReply X)
    → Creates of_file of_port store mid new before.number before.file after.file was now object new_place Reliable (draws was.entropy) (draws now.entropy) result
    → ServesObject of_file of_port draws store (record { gate = old; slots = slots; session = was }) (record { gate = new; slots = slice_set slots place after; session = now }) (create_call object) result
created_serves of_file of_port draws store old mid new slots place before after was now are within stands same idle file at is_held is goes caller known object new_place Reliable X result creates =
    let own : file ≡ before.number = sym at ∙ sym (are.numbered place before within) ∙ ap (λ (s : SlotValue). s.number) (sym stands) in
    let begins : mid ≡ reserved was.number before.number old = subst (λ (n : ℕ). mid ≡ reserved was.number n old) own is in
    let holds : file_held (slice_set old.gate.holds was.number (Some before.number)) was.number ≡ Some before.number =
    ap (λ (g : GuardedGateValue _ _). file_held g.gate.holds was.number) (sym begins) ∙ is_held ∙ ap (λ (n : ℕ). Some n) own in
    let c : Creates of_file of_port store (reserved was.number before.number old) new before.number before.file after.file was now object new_place Reliable (draws was.entropy) (draws now.entropy) result =
    subst
    (λ (m : GuardedGateValue _ _). Creates of_file of_port store m new before.number before.file after.file was now object new_place Reliable (draws was.entropy) (draws now.entropy) result) begins creates in
    subst
    (λ (n : GuardedGateValue _ _). ServesObject of_file of_port draws store (record { gate = old; slots = slots; session = was }) (record { gate = n; slots = slice_set slots place after; session = now })
    (create_call object) result)
    (sym c.given_back)
    (answered_serves of_file of_port draws store old c.behind slots place before after was now are within stands same idle holds goes known object new_place Reliable X result caller c.answered)
