-- The slot stands at the entry; its object is loaded, or could not be.
use Rattle.std.proofs.Common.{ℕ, ◌≡◌, ◌∙◌, sym, ap, subst}
use Rattle.disk_model.specs.State.{FileState}
use Rattle.tee_types.specs.declared.reply.Reply.{Reply}
use Rattle.commit_gate.specs.GuardedGates.{GuardedGateValue}
use Rattle.object_slots.specs.SlotValues.{SlotValue}
use Rattle.call_steps.specs.AnswerCauses.{HasToldCause}
use Rattle.call_steps.specs.ReadyEntries.{IsReadyEntry}
use Rattle.call_steps.proofs.OpenAnswers.{opened-cause}
use Rattle.call_steps.proofs.ReadyEntries.{ready-at}
use Rattle.call_steps.proofs.open_call.open.Goals as goal

pub answer_open-requires-clause-ready : goal.answer_open-requires-clause-ready
answer_open-requires-clause-ready g c =
    let store = g.L.StoreName.store in
    let knows = c.args.gate.now.journal.knows in
    let mid = c.catch_up_entry.new.slot in
    let new = c.load_or_reply.new.slot in
    let e = c.args.held.now.entry in
    let at = c.catch_up_entry.ensures.at in
    subst (λ (x : GuardedGateValue g.row.F.Denot g.row.R.Denot). (was : FileState) × IsReadyEntry store x.journal.knows was new e c.in_ok-unloaded.unloaded) (sym c.catch_up_entry.ensures.gate)
    (mid.file, ready-at store knows mid.file mid new e at.0 c.in_ok-unloaded.unloaded at.1 c.load_or_reply.ensures.same (c.in_ok-unloaded.ensures.ready at.0 at.1.gives))

pub returns-clause-cause : goal.returns-clause-cause
returns-clause-cause g c =
    let at = c.catch_up_entry.ensures.at in
    let same : c.catch_up_entry.new.slot.file ≡ c.args.slot.now.file = c.catch_up_entry.ensures.file ∙ ap (λ (s : SlotValue). s.file) c.slot.view_is in
    let number : c.load_or_reply.new.slot.number ≡ c.args.slot.now.number =
    ap (λ (s : SlotValue). s.number) c.load_or_reply.ensures.same ∙ c.catch_up_entry.ensures.number ∙ ap (λ (s : SlotValue). s.number) c.slot.view_is in
    subst (λ (x : FileState × FileState × ℕ × Reply). HasToldCause x.0 x.1 x.2 x.3) (λ i. (same i, sym c.answer_open.ensures.file i, number i, sym c.answer_open.ensures.reply i))
    (opened-cause g.L.StoreName.store c.catch_up_entry.new.slot.file c.load_or_reply.new.slot at.0 c.in_ok-unloaded.unloaded c.catch_up_entry.new.session.state (c.in_ok-unloaded.ensures.ready at.0 at.1.gives))
