-- What was brought of a change that was staged, or told of one that was not: the call that was answered, and what always holds behind it.
use Rattle.std.proofs.Common.{◌≡◌, [], ℕ, List, ap, refl, subst, sym}
use Rattle.tee_types.specs.Limits.{IsObjectFile}
use Rattle.serial_calls.specs.CallerSessions.{CallerSession}
use Rattle.serial_calls.specs.Changed.{AnswersStaged}
use Rattle.serial_calls.specs.Renewed.{renewal}
use Rattle.serial_calls.specs.ChangeStaging.{DataCall, IsUnstaged}
use Rattle.serial_calls.specs.declared.stage_result.Staged.{Staged}
use Rattle.serial_calls.specs.declared.stage_result.Staged.TheVariants.{Root, Unstaged}
use Rattle.disk_model.specs.State.{FileState}
use Rattle.hmac_keys.specs.KeyTable.{rpmb_key}
use Rattle.serial_calls.specs.GuardedGates.{GuardedGateValue}
use Rattle.serial_calls.specs.declared.PlacedReply.{PlacedReply}
use Rattle.serial_calls.specs.Fits.{FitsGate, SeesWhole}
use Rattle.serial_calls.specs.SlotValues.{SlotValue, without_stage}
use Rattle.rpmb_card.specs.Port.{PortState}
use Rattle.dir_index.specs.declared.Held.{Held}
use Rattle.serial_calls.specs.Stores.{Store}
use Rattle.tee_types.specs.declared.call.Call.{Call}
use Rattle.tee_types.specs.declared.reply.Device.TheVariants.{File}
use Rattle.tee_types.specs.declared.reply.Reply.{Reply}
use Rattle.tee_types.specs.declared.reply.Reply.TheVariants.{Done}
use Rattle.serial_calls.specs.DeviceCounts.{told_of}
use Rattle.serial_calls.specs.Devices.{Devices, Grows}
use Rattle.serial_calls.specs.ServeReady.{KnowsCard}
use Rattle.shared_calls.specs.SharedChange.{CarriesStaged, HasStaged, told_staged}
use Rattle.shared_calls.specs.SharedCounts.{CarriesDraws}
use Rattle.shared_calls.specs.Kept.{KeepsGate, KeepsSlot}
use Rattle.shared_calls.specs.Attempts.{IsAnswered}
use Rattle.shared_calls.proofs.CarriedDraws.{carries-committed}
use Rattle.shared_calls.proofs.CarriedAttempts.{carries-grown}
use Rattle.shared_calls.proofs.SharedCommits.{committed-answers}
use Rattle.shared_calls.proofs.AnsweredSlots.{keeps-committable, keeps-served}
use Rattle.shared_calls.proofs.KeptCalls.{keeps-committed}
use Rattle.shared_calls.proofs.KeptSlots.{keeps-shown, own-file}
use Rattle.shared_calls.proofs.Served.{slot-answers}
use Rattle.shared_calls.proofs.SparedGates.{SparesGate, failure-spares, keeps-spared}

-- What such a call leaves of its session, the gate and the slot.
pub record LeavesChanged {F R E : Type 0} (of_file : F → FileState) (of_port : R → PortState) (faults : E → ℕ) (store : Store) (before : Devices) (gate : GuardedGateValue F R) (slot : SlotValue)
    (was now : CallerSession E) (call : Call) (staged : Staged) (answer : PlacedReply) : Type 0 where
  pub answered : IsAnswered store was now call answer
  -- a reply that accuses the entropy carries its count, if that of the stage did
  pub drawn : (first : ℕ) → Grows first (faults was.entropy) → CarriesStaged first (faults was.entropy) staged → CarriesDraws first (faults now.entropy) answer.reply
  pub gate_kept : KeepsGate of_file of_port store before gate
  pub slot_kept : KeepsSlot before slot []

module _ {F R E : Type 0} (of_file : F → FileState) (of_port : R → PortState) (reliable : E → Type 0) (faults : E → ℕ) (store : Store) (old new : GuardedGateValue F R) (file : ℕ) (was now : CallerSession E)
    (call : Call) (held : Held) (size : ℕ) (answer : PlacedReply) where
  abbrev Answers : Staged → Type 0
  Answers staged = AnswersStaged of_file of_port (reliable was.entropy) (faults was.entropy) (faults now.entropy) store old new file was now call held size staged answer

  answers-from : (staged : Staged) → Answers staged → IsAnswered store was now call answer
  answers-from (Root root) done =
      committed-answers of_file of_port faults store old new file was now call Done (renewal held root size) (reliable was.entropy) answer done
  answers-from (Unstaged reply) told = slot-answers store call was now answer old new file told.served

  slot-from : (before : Devices) (from to : SlotValue) (number : to.number ≡ from.number) (rests : to.file ≡ from.file) → SeesWhole old.journal.knows from → SeesWhole new.journal.knows to
      → (staged : Staged) → Answers staged → KeepsSlot before from (told_staged from.number staged) → KeepsSlot before to []
  slot-from before from to number rests saw sees (Root root) done k =
      keeps-committable before from to number rests store old new was now call answer sees of_file of_port file Done (renewal held root size) (reliable was.entropy) (faults was.entropy) (faults now.entropy) done refl saw k
  slot-from before from to number rests saw sees (Unstaged reply) told k =
      keeps-served before from to number rests store old new was now call answer sees file told.served saw
      (subst (λ (r : Reply). KeepsSlot before from (told_of (File from.number) r)) (sym told.told) k)

  abbrev Knows : Type 0
  Knows = KnowsCard (of_port old.gate.host.port) old.gate.host.key (rpmb_key store.keys.huk) old.gate.counter

  carries-from : Knows → (first : ℕ) → Grows first (faults was.entropy) → (staged : Staged) → Answers staged → CarriesStaged first (faults was.entropy) staged → CarriesDraws first (faults now.entropy) answer.reply
  carries-from known first grows (Root root) done carries =
      carries-grown first (faults was.entropy) (faults now.entropy) answer.reply grows
      (carries-committed of_file of_port faults store old new file was now call Done (renewal held root size) (reliable was.entropy) answer (λ d0 d1. tt) known done)
  carries-from known first grows (Unstaged reply) told carries =
      subst (λ (p : ℕ × Reply). CarriesDraws first p.0 p.1) (λ i. (sym (ap faults told.undrawn) i, sym told.told i)) carries

  gate-from : Knows → (before : Devices) → IsObjectFile file → (slot : SlotValue) (asked : DataCall) (staged : Staged) → HasStaged store slot asked staged → Answers staged
      → KeepsGate of_file of_port store before old → KeepsGate of_file of_port store before new
  gate-from known before object slot asked (Root root) has done k =
      keeps-committed of_file of_port store before faults old new file object was now call Done (renewal held root size) (reliable was.entropy) answer (λ d0 d1. tt) known done k
  gate-from known before object slot asked (Unstaged reply) has told k =
      let why : IsUnstaged store slot has.version asked reply = has.stages in
      keeps-spared of_file of_port store before old new was now file object call answer told.served
      (subst SparesGate (sym told.told) (failure-spares store slot.file slot.number has.version asked.position (asked.call 0) reply why.failure (why.answers 0))) k

-- The slot and the session were shown the history first, which left the gate and the session as they were.
pub changed-leaves : {F R E : Type 0} (of_file : F → FileState) (of_port : R → PortState) (reliable : E → Type 0) (faults : E → ℕ) (store : Store) (before : Devices) (old shown new : GuardedGateValue F R)
    (first from to : SlotValue) (was met now : CallerSession E) (call : Call) (held : Held) (size : ℕ) (asked : DataCall) (staged : Staged) (answer : PlacedReply) → shown ≡ old → met ≡ was
    → from ≡ record first { seat = from.seat } → to.number ≡ from.number → to.file ≡ from.file → FitsGate old.journal.knows first → SeesWhole old.journal.knows from → SeesWhole new.journal.knows to
    → KnowsCard (of_port old.gate.host.port) old.gate.host.key (rpmb_key store.keys.huk) old.gate.counter → HasStaged store first asked staged
    → KeepsGate of_file of_port store before old → KeepsSlot before first (told_staged first.number staged)
    → AnswersStaged of_file of_port (reliable met.entropy) (faults met.entropy) (faults now.entropy) store shown new from.number met now call held size staged answer
    → LeavesChanged of_file of_port faults store before new to was now call staged answer
changed-leaves of_file of_port reliable faults store before old shown new first from to was met now call held size asked staged answer same alike seated number rests agreed saw sees known has gate slot answers =
    let own : from.number ≡ first.number = ap (λ (s : SlotValue). s.number) seated in
    let told : List ℕ = told_staged first.number staged in
    let answered : AnswersStaged of_file of_port (reliable was.entropy) (faults was.entropy) (faults now.entropy) store old new from.number was now call held size staged answer =
    subst
    (λ (p : GuardedGateValue _ _ × CallerSession _). AnswersStaged of_file of_port (reliable (p.1).entropy) (faults (p.1).entropy) (faults now.entropy) store p.0 new from.number p.1 now call held size staged answer)
    (λ i. (same i, alike i)) answers in
    let shown_slot : KeepsSlot before from told =
    keeps-shown before first from own (ap (λ (s : SlotValue). s.file) seated) old.journal.knows told agreed (own-file store (record first { holds = without_stage first.holds }) has.base) saw slot in
    record {
      answered = answers-from of_file of_port reliable faults store old new from.number was now call held size answer staged answered;
      drawn = λ since grows carries. carries-from of_file of_port reliable faults store old new from.number was now call held size answer known since grows staged answered carries;
      gate_kept = gate-from of_file of_port reliable faults store old new from.number was now call held size answer known before (subst IsObjectFile (sym own) slot.object) first asked staged has answered gate;
      slot_kept =
          slot-from of_file of_port reliable faults store old new from.number was now call held size answer before from to number rests saw sees staged answered
          (subst (λ (n : ℕ). KeepsSlot before from (told_staged n staged)) (sym own) shown_slot);
    }
