-- What the object's file gave is told with the spent counter, or why it gave nothing.
use Rattle.std.proofs.Common.{ap, subst, sym, ℕ, ◌∙◌, ◌≡◌}
use Rattle.call_steps.proofs.Meetings.{at-stays}
use Rattle.call_steps.specs.AnswerCauses.{HasToldCause}
use Rattle.call_steps.specs.CallerSessions.{CallerSession}
use Rattle.call_steps.specs.Fits.{SeesWhole}
use Rattle.call_steps.specs.GuardedGates.{GuardedGateValue}
use Rattle.call_steps.specs.ServableReplies.{MayBeServed}
use Rattle.disk_model.specs.State.{FileState}
use Rattle.serial_calls.proofs.Checked.{not_done_bare, not_done_undone, spent_counter}
use Rattle.serial_calls.proofs.Failures.{truncate_served}
use Rattle.serial_calls.specs.ChangeChecks.{ChecksChange}
use Rattle.serial_calls.specs.ChangeReplies.{IsNotDone}
use Rattle.serial_calls.specs.ChangeStaging.{resizing}
use Rattle.tee_types.specs.declared.call.Call.TheVariants.{Truncate}
use Rattle.tee_types.specs.declared.reply.Reply.{Reply}
use Rattle.call_steps.specs.SlotValues.{SlotValue}
use Rattle.serial_calls.proofs.truncate_call.truncate_spent.Goals as goal

pub twice-kept-requires : goal.twice-kept-requires
twice-kept-requires g c =
    let at = c.catch_up_entry.ensures.at in
    not_done_bare c.in_ok-reply.reply (c.in_ok-reply.ensures.checks at.0 at.1.gives).kind

pub tell-requires-clause-may : goal.tell-requires-clause-may
tell-requires-clause-may g c =
    let store = g.L.StoreName.store in
    let gate = c.args.gate.now in
    let mid = c.catch_up_entry.new.slot in
    let new = c.check_truncate_object.new.slot in
    let found = c.args.found.now in
    let e = found.held.entry in
    let at = c.catch_up_entry.ensures.at in
    let alike : c.catch_up_entry.new.session ≡ c.args.session.now = c.catch_up_entry.ensures.calm c.requires.calm in
    let checks : ChecksChange store mid.file new at.0 (resizing c.args.size) c.in_ok-reply.reply = c.in_ok-reply.ensures.checks at.0 at.1.gives in
    subst (λ (x : GuardedGateValue g.row.F.Denot g.row.R.Denot × CallerSession g.row.E.Denot × (Reply × Reply)). MayBeServed store x.0.gate x.0.journal.knows new (Truncate c.args.handle c.args.size) (x.2).0 x.1)
    (λ i. (sym c.catch_up_entry.ensures.gate i, sym alike i, sym c.twice-kept.ensures i))
    (truncate_served store gate.gate gate.journal.knows new c.args.session.now c.requires.idle c.requires.calm c.args.handle found c.requires.found at.0
    (at-stays gate.journal.knows mid new e at.0 c.check_truncate_object.ensures.same at.1) c.in_ok-reply.reply (not_done_undone c.in_ok-reply.reply checks.kind)
    (spent_counter gate.gate.counter c.requires.spent c.in_ok-reply.reply) c.args.size c.requires.other c.requires.fits (checks.answers c.args.handle))

pub returns-clause-kind : goal.returns-clause-kind
returns-clause-kind g c =
    let at = c.catch_up_entry.ensures.at in
    subst IsNotDone (sym (c.tell.ensures.reply ∙ ap (λ (p : Reply × Reply). p.0) c.twice-kept.ensures)) (c.in_ok-reply.ensures.checks at.0 at.1.gives).kind

pub returns-clause-cause : goal.returns-clause-cause
returns-clause-cause g c =
    let at = c.catch_up_entry.ensures.at in
    let number : c.check_truncate_object.new.slot.number ≡ c.args.slot.now.number = ap (λ (s : SlotValue). s.number) c.check_truncate_object.ensures.same ∙ c.catch_up_entry.ensures.number in
    subst (λ (x : FileState × FileState × ℕ × Reply). HasToldCause x.0 x.1 x.2 x.3)
    (λ i. (c.catch_up_entry.ensures.file i, sym c.tell.ensures.file i, number i, sym (c.tell.ensures.reply ∙ ap (λ (p : Reply × Reply). p.0) c.twice-kept.ensures) i))
    (c.in_ok-reply.ensures.checks at.0 at.1.gives).cause

pub returns-in_err-reply-clause-whole : goal.returns-in_err-reply-clause-whole
returns-in_err-reply-clause-whole g c =
    let at = c.catch_up_entry.ensures.at in
    subst (λ (x : GuardedGateValue g.row.F.Denot g.row.R.Denot). SeesWhole x.journal.knows c.check_truncate_object.new.slot) (sym c.catch_up_entry.ensures.gate)
    (at-stays c.args.gate.now.journal.knows c.catch_up_entry.new.slot c.check_truncate_object.new.slot c.args.found.now.held.entry at.0 c.check_truncate_object.ensures.same at.1).sees
