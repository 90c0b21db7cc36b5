-- What the machine answers anyhow may be appended; or the change was staged, and what came of it is answered.
use Rattle.std.proofs.Common.{List, ap, length, max, subst, sym, ℕ, ◌+◌, ◌∙◌, ◌≡◌}
use Rattle.call_steps.specs.CallerSessions.{CallerSession}
use Rattle.serial_calls.proofs.Answered.{meant_changed}
use Rattle.serial_calls.proofs.MeantChanges.{meant_write}
use Rattle.serial_calls.proofs.ChangeRefusals.{write_refused_so}
use Rattle.serial_calls.proofs.Tried.{steps_tried}
use Rattle.serial_calls.proofs.write_call.write.Goals as goal
use Rattle.serial_calls.specs.ChangeCauses.{HasStageCause}
use Rattle.serial_calls.specs.Changed.{AnswersStaged, Tried}
use Rattle.serial_calls.specs.Meant.{IsMeantCall}
use Rattle.serial_calls.specs.ChangeStaging.{StagesEntry, writing}
use Rattle.disk_model.specs.State.{FileState}
use Rattle.call_steps.specs.GuardedGates.{GuardedGateValue}
use Rattle.call_steps.proofs.Meetings.{at-stays}
use Rattle.call_steps.specs.AnswerServed.{IsServed}
use Rattle.call_steps.specs.SlotValues.{SlotValue}
use Rattle.tee_types.specs.declared.call.Call.TheVariants.{Write}

pub answer_meant-requires-clause-kind : goal.answer_meant-requires-clause-kind
answer_meant-requires-clause-kind g c = write_refused_so c.args.found.now.handle.position (length c.args.bytes.now) c.in-Some.reply c.in-Some.ensures.refused

pub answer_meant-requires-clause-meant : goal.answer_meant-requires-clause-meant
answer_meant-requires-clause-meant g c = λ m matches opened.
    let gate = c.args.gate.now.gate in
    let s = c.args.session.now in
    subst (λ (b : List ℕ). IsMeantCall m s.number c.args.found.now.held.entry (Write c.args.handle b) c.in-Some.reply) (sym c.in_ok-kept.ensures)
    (meant_write gate.dir.dir.entries gate.open_handles s.state m s.number c.args.handle c.args.found.now matches opened c.requires.found c.args.bytes.now c.requires.some c.in-Some.reply c.in-Some.ensures.refused)

pub returns-in-Some-clause-changed : goal.returns-in-Some-clause-changed
returns-in-Some-clause-changed g c =
    meant_changed g.F.StoreFile.state g.R.RpmbPort.state g.E.Entropy.is_reliable g.E.Entropy.faults g.L.StoreName.store c.args.gate.now c.answer_meant.new.gate c.args.slot.now c.answer_meant.new.slot
    c.args.session.now c.answer_meant.new.session (Write c.args.handle c.args.bytes.now)
    c.args.found.now.held (max c.args.found.now.held.entry.size (c.args.found.now.handle.position + length c.args.bytes.now)) c.answer_meant.result c.answer_meant.ensures.entropy c.in-Some.reply c.answer_meant.ensures.reply
    (subst (λ (x : ℕ × List ℕ). IsServed g.L.StoreName.store c.args.gate.now c.answer_meant.new.gate c.args.session.now c.answer_meant.new.session x.0 (Write c.args.handle x.1) c.answer_meant.result)
    (λ i. ((c.slot.view_is i).number, c.in_ok-kept.ensures i)) c.answer_meant.ensures.served)
    (write_refused_so c.args.found.now.handle.position (length c.args.bytes.now) c.in-Some.reply c.in-Some.ensures.refused) (c.answer_meant.ensures.file ∙ ap (λ (s : SlotValue). s.file) c.slot.view_is)

pub answer_write-requires-clause-stages : goal.answer_write-requires-clause-stages
answer_write-requires-clause-stages g c =
    let knows = c.args.gate.now.journal.knows in
    let mid = c.catch_up_entry.new.slot in
    let new = c.write_object.new.slot in
    let e = c.args.found.now.held.entry in
    let at = c.catch_up_entry.ensures.at in
    subst (λ (x : GuardedGateValue g.row.F.Denot g.row.R.Denot × List ℕ). StagesEntry g.L.StoreName.store x.0.journal.knows new e (writing c.args.found.now.handle.position x.1) c.in_ok-staged.staged)
    (λ i. (sym c.catch_up_entry.ensures.gate i, sym c.in_ok-kept.ensures i))
    (record { version = at.0; at = at-stays knows mid new e at.0 c.write_object.ensures.same at.1; stages = c.in_ok-staged.ensures.stages at.0 at.1.gives })

pub returns-clause-changed : goal.returns-clause-changed
returns-clause-changed g c =
    let store = g.L.StoreName.store in
    let reliable = g.E.Entropy.is_reliable in
    let faults = g.E.Entropy.faults in
    let was = c.args.session.now in
    let now = c.answer_write.new.session in
    let entropy = c.write_object.new.entropy in
    let held = c.args.found.now.held in
    let at = c.catch_up_entry.ensures.at in
    let mid = c.catch_up_entry.new.slot in
    let new = c.write_object.new.slot in
    let alike : c.catch_up_entry.new.session ≡ was = c.catch_up_entry.ensures.calm c.requires.calm in
    let drew : c.entropy_mut-entropy.result.now ≡ was.entropy = c.entropy_mut-entropy.ensures.value ∙ ap (λ (x : CallerSession g.row.E.Denot). x.entropy) alike in
    let file : mid.file ≡ c.args.slot.now.file = c.catch_up_entry.ensures.file ∙ ap (λ (x : SlotValue). x.file) c.slot.view_is in
    let number : mid.number ≡ c.args.slot.now.number = c.catch_up_entry.ensures.number ∙ ap (λ (x : SlotValue). x.number) c.slot.view_is in
    let cause =
    subst (λ (x : FileState × ℕ × g.row.E.Denot). HasStageCause x.0 new.file x.1 (reliable x.2) (faults x.2) (faults entropy) c.in_ok-staged.staged)
    (λ i. (file i, number i, drew i)) c.in_ok-staged.ensures.cause in
    Tried
    (steps_tried g.F.StoreFile.state g.R.RpmbPort.state reliable faults store c.args.gate.now c.answer_write.new.gate c.args.slot.now.number c.args.slot.now.file new.file
    c.answer_write.new.slot.file c.answer_write.ensures.file was now entropy (Write c.args.handle c.args.bytes.now) held (max held.entry.size (c.args.found.now.handle.position + length c.args.bytes.now))
    c.answer_write.result (subst (λ (x : g.row.E.Denot). reliable x → reliable entropy) drew c.write_object.ensures.draws.reliable) c.catch_up_entry.new.gate
    c.catch_up_entry.new.session new.number c.catch_up_entry.ensures.gate alike (ap (λ (x : SlotValue). x.number) c.write_object.ensures.same ∙ number) new at.0 (writing c.args.found.now.handle.position c.args.bytes.now)
    c.in_ok-staged.staged (c.in_ok-staged.ensures.stages at.0 at.1.gives) cause
    (subst
    (λ (b : List ℕ). AnswersStaged g.F.StoreFile.state g.R.RpmbPort.state (reliable entropy) (faults entropy) (faults now.entropy) store c.catch_up_entry.new.gate c.answer_write.new.gate new.number
    (record c.catch_up_entry.new.session { entropy = entropy }) now (Write c.args.handle b) held (max held.entry.size (c.args.found.now.handle.position + length b)) c.in_ok-staged.staged c.answer_write.result)
    c.in_ok-kept.ensures c.answer_write.ensures.answered))
