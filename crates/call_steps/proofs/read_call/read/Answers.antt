-- The slot stands at the entry; what was read of its object is appended.
use Rattle.std.proofs.Common.{ℕ, ◌≡◌, sym, ap, ◌∙◌, subst}
use Rattle.disk_model.specs.State.{FileState}
use Rattle.tee_types.specs.declared.reply.Reply.{Reply}
use Rattle.commit_gate.specs.GuardedGates.{GuardedGateValue}
use Rattle.object_slots.specs.SlotValues.{SlotValue}
use Rattle.call_steps.specs.AnswerCauses.{HasToldCause}
use Rattle.call_steps.specs.ReadAnswers.{ReadsEntry}
use Rattle.htree_file.specs.Answers.{FilePassed}
use Rattle.call_steps.proofs.AnswerCauses.{bare-passed, on-err}
use Rattle.call_steps.proofs.Meetings.{at-stays}
use Rattle.call_steps.proofs.read_call.read.Goals as goal

pub answer_read-requires-clause-reads : goal.answer_read-requires-clause-reads
answer_read-requires-clause-reads g c =
    let knows = c.args.gate.now.journal.knows in
    let mid = c.catch_up_entry.new.slot in
    let new = c.read_object.new.slot in
    let found = c.args.found.now in
    let e = found.held.entry in
    let at = c.catch_up_entry.ensures.at in
    subst (λ (x : GuardedGateValue g.row.F.Denot g.row.R.Denot). (was : FileState) × ReadsEntry g.L.StoreName.store x.journal.knows was new e found.handle.position c.args.count c.in_ok-reply.reply)
    (sym c.catch_up_entry.ensures.gate) (
      mid.file,
      record { version = at.0; at = at-stays knows mid new e at.0 c.read_object.ensures.same at.1; reads = c.in_ok-reply.ensures.reads at.0 at.1.gives },
    )

pub returns-clause-cause : goal.returns-clause-cause
returns-clause-cause g c =
    let at = c.catch_up_entry.ensures.at in
    let same : c.catch_up_entry.new.slot.file ≡ c.args.slot.now.file = c.catch_up_entry.ensures.file ∙ ap (λ (s : SlotValue). s.file) c.slot.view_is in
    let number : c.read_object.new.slot.number ≡ c.args.slot.now.number =
    ap (λ (s : SlotValue). s.number) c.read_object.ensures.same ∙ c.catch_up_entry.ensures.number ∙ ap (λ (s : SlotValue). s.number) c.slot.view_is in
    subst (λ (x : FileState × FileState × ℕ × Reply). HasToldCause x.0 x.1 x.2 x.3) (λ i. (same i, sym c.answer_read.ensures.file i, number i, sym c.answer_read.ensures.reply i))
    (c.in_ok-reply.ensures.reads at.0 at.1.gives).cause

pub returns-in_err-told-clause-passed : goal.returns-in_err-told-clause-passed
returns-in_err-told-clause-passed g c =
    let at = c.catch_up_entry.ensures.at in
    let new = c.read_object.new.slot in
    let same : c.catch_up_entry.new.slot.file ≡ c.args.slot.now.file = c.catch_up_entry.ensures.file ∙ ap (λ (s : SlotValue). s.file) c.slot.view_is in
    on-err c.from_residual-in_err-told.result (FilePassed c.args.slot.now.file new.file)
    (subst (λ (f : FileState). FilePassed f new.file) same
    (bare-passed c.catch_up_entry.new.slot.file new.file new.number c.in_ok-reply.reply c.in_err-told.ensures.none (c.in_ok-reply.ensures.reads at.0 at.1.gives).cause))
