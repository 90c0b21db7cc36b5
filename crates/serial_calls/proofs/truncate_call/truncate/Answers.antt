-- What the machine answers anyhow may be appended; or the change was staged, and what came of it is answered.
use Rattle.std.proofs.Common.{ap, refl, subst, sym, ℕ, ◌∙◌, ◌≡◌}
use Rattle.call_steps.specs.CallerSessions.{CallerSession}
use Rattle.serial_calls.proofs.Answered.{meant_changed}
use Rattle.serial_calls.proofs.MeantChanges.{meant_same, meant_truncate}
use Rattle.serial_calls.proofs.ChangeRefusals.{truncate_refused_so}
use Rattle.serial_calls.proofs.Tried.{steps_tried}
use Rattle.serial_calls.proofs.truncate_call.truncate.Goals as goal
use Rattle.serial_calls.specs.ChangeCauses.{HasStageCause}
use Rattle.serial_calls.specs.Changed.{Tried}
use Rattle.serial_calls.specs.ChangeStaging.{StagesEntry, resizing}
use Rattle.disk_model.specs.State.{FileState}
use Rattle.call_steps.specs.GuardedGates.{GuardedGateValue}
use Rattle.call_steps.proofs.Meetings.{at-stays}
use Rattle.call_steps.specs.AnswerServed.{IsServed}
use Rattle.call_steps.specs.SlotValues.{SlotValue}
use Rattle.tee_types.specs.declared.call.Call.TheVariants.{Truncate}

pub answer_meant-requires-clause-kind : goal.answer_meant-requires-clause-kind
answer_meant-requires-clause-kind g c = truncate_refused_so c.args.size c.in-Some.reply c.in-Some.ensures.refused

pub answer_meant-requires-clause-meant : goal.answer_meant-requires-clause-meant
answer_meant-requires-clause-meant g c = λ m matches opened.
    let gate = c.args.gate.now.gate in
    let s = c.args.session.now in
    meant_truncate gate.dir.dir.entries gate.open_handles s.state m s.number c.args.handle c.args.found.now matches opened c.requires.found c.args.size c.in-Some.reply c.in-Some.ensures.refused

pub answer_meant-requires-then-size-entry-clause-meant : goal.answer_meant-requires-then-size-entry-clause-meant
answer_meant-requires-then-size-entry-clause-meant g c = λ m matches opened.
    let gate = c.args.gate.now.gate in
    let s = c.args.session.now in
    meant_same gate.dir.dir.entries gate.open_handles s.state m s.number c.args.handle c.args.found.now matches opened c.requires.found c.args.size c.if-size-entry.true (c.in_default.ensures.fits refl)

pub returns-in-Some-clause-changed : goal.returns-in-Some-clause-changed
returns-in-Some-clause-changed g c =
    meant_changed g.F.StoreFile.state g.R.RpmbPort.state g.E.Entropy.is_reliable g.E.Entropy.faults g.L.StoreName.store c.args.gate.now c.answer_meant.new.gate c.args.slot.now c.answer_meant.new.slot
    c.args.session.now c.answer_meant.new.session (Truncate c.args.handle c.args.size) c.args.found.now.held c.args.size c.answer_meant.result c.answer_meant.ensures.entropy c.in-Some.reply c.answer_meant.ensures.reply
    (subst (λ (n : ℕ). IsServed g.L.StoreName.store c.args.gate.now c.answer_meant.new.gate c.args.session.now c.answer_meant.new.session n (Truncate c.args.handle c.args.size) c.answer_meant.result)
    (λ i. (c.slot.view_is i).number) c.answer_meant.ensures.served)
    (truncate_refused_so c.args.size c.in-Some.reply c.in-Some.ensures.refused) (c.answer_meant.ensures.file ∙ ap (λ (s : SlotValue). s.file) c.slot.view_is)

pub answer_truncate-requires-clause-stages : goal.answer_truncate-requires-clause-stages
answer_truncate-requires-clause-stages g c =
    let knows = c.args.gate.now.journal.knows in
    let mid = c.catch_up_entry.new.slot in
    let new = c.truncate_object.new.slot in
    let e = c.args.found.now.held.entry in
    let at = c.catch_up_entry.ensures.at in
    subst (λ (x : GuardedGateValue g.row.F.Denot g.row.R.Denot). StagesEntry g.L.StoreName.store x.journal.knows new e (resizing c.args.size) c.in_ok-staged.staged) (sym c.catch_up_entry.ensures.gate)
    (record { version = at.0; at = at-stays knows mid new e at.0 c.truncate_object.ensures.same at.1; stages = c.in_ok-staged.ensures.stages at.0 at.1.gives })

pub returns-clause-changed : goal.returns-clause-changed
returns-clause-changed g c =
    let store = g.L.StoreName.store in
    let reliable = g.E.Entropy.is_reliable in
    let faults = g.E.Entropy.faults in
    let was = c.args.session.now in
    let now = c.answer_truncate.new.session in
    let entropy = c.truncate_object.new.entropy in
    let held = c.args.found.now.held in
    let at = c.catch_up_entry.ensures.at in
    let mid = c.catch_up_entry.new.slot in
    let new = c.truncate_object.new.slot in
    let alike : c.catch_up_entry.new.session ≡ was = c.catch_up_entry.ensures.calm c.requires.calm in
    let drew : c.entropy_mut-entropy.result.now ≡ was.entropy = c.entropy_mut-entropy.ensures.value ∙ ap (λ (x : CallerSession g.row.E.Denot). x.entropy) alike in
    let file : mid.file ≡ c.args.slot.now.file = c.catch_up_entry.ensures.file ∙ ap (λ (x : SlotValue). x.file) c.slot.view_is in
    let number : mid.number ≡ c.args.slot.now.number = c.catch_up_entry.ensures.number ∙ ap (λ (x : SlotValue). x.number) c.slot.view_is in
    let cause =
    subst (λ (x : FileState × ℕ × g.row.E.Denot). HasStageCause x.0 new.file x.1 (reliable x.2) (faults x.2) (faults entropy) c.in_ok-staged.staged)
    (λ i. (file i, number i, drew i)) c.in_ok-staged.ensures.cause in
    Tried
    (steps_tried g.F.StoreFile.state g.R.RpmbPort.state reliable faults store c.args.gate.now c.answer_truncate.new.gate c.args.slot.now.number c.args.slot.now.file new.file
    c.answer_truncate.new.slot.file c.answer_truncate.ensures.file was now entropy (Truncate c.args.handle c.args.size) held c.args.size
    c.answer_truncate.result (subst (λ (x : g.row.E.Denot). reliable x → reliable entropy) drew c.truncate_object.ensures.draws.reliable) c.catch_up_entry.new.gate
    c.catch_up_entry.new.session new.number c.catch_up_entry.ensures.gate alike (ap (λ (x : SlotValue). x.number) c.truncate_object.ensures.same ∙ number) new at.0 (resizing c.args.size)
    c.in_ok-staged.staged (c.in_ok-staged.ensures.stages at.0 at.1.gives) cause
    c.answer_truncate.ensures.answered)
