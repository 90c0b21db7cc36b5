-- What was staged may be brought; or why it was not staged may be told.
use Rattle.std.proofs.Common.{ap, max, subst, sym, ℕ, ◌+◌, ◌∙◌}
use Rattle.serial_calls.proofs.CommittableChanges.{write_committable}
use Rattle.serial_calls.proofs.Failures.{write_served}
use Rattle.serial_calls.proofs.MovedSessions.{write_moves}
use Rattle.serial_calls.proofs.Checked.{failure_counter}
use Rattle.serial_calls.proofs.Replies.{failure_undone}
use Rattle.serial_calls.proofs.write_call.answer_write.Goals as goal
use Rattle.serial_calls.specs.ChangeStaging.{StagesEntry, writing}
use Rattle.serial_calls.specs.declared.stage_result.Staged.TheVariants.{Root, Unstaged}
use Rattle.serial_calls.specs.declared.stage_result.Staged.{Staged}
use Rattle.tee_types.specs.declared.call.Call.TheVariants.{Write}
use Rattle.call_steps.specs.JournalCalls.{LeavesSession}
use Rattle.serial_calls.specs.Renewed.{renewal}
use Rattle.history_seats.specs.Changes.{TagVersions}
use Rattle.call_steps.specs.ObjectCommits.{IsCommittable}
use Rattle.store_model.specs.Machine.{with_handle}
use Rattle.tee_types.specs.declared.reply.Reply.TheVariants.{Done}

pub commit_stage-requires-clause-committable : goal.commit_stage-requires-clause-committable
commit_stage-requires-clause-committable g c =
    let store = g.L.StoreName.store in
    let gate = c.args.gate.now in
    let knows = gate.journal.knows in
    let slot = c.args.slot.now in
    let s = c.args.session.now in
    let found = c.args.found.now in
    let entry : StagesEntry store knows slot found.held.entry (writing c.args.found.now.handle.position c.args.bytes) (Root c.in-Root.root) =
    subst (λ (x : Staged). StagesEntry store knows slot found.held.entry (writing c.args.found.now.handle.position c.args.bytes) x) c.in-Root.is c.requires.stages in
    subst (λ (n : ℕ). (versions : TagVersions) × IsCommittable store gate.gate knows slot s (Write c.args.handle c.args.bytes) Done (renewal found.held c.in-Root.root n) versions)
    (sym (c.max-size.ensures ∙ ap (λ (n : ℕ). max found.held.entry.size (found.handle.position + n)) c.len.ensures))
    (write_committable store gate.gate knows gate.closing c.reveal_invariant.ensures.guarded c.reveal_invariant.ensures.entries c.requires.idle s c.requires.calm c.args.handle found c.requires.found slot entry.version entry.at
    c.in-Root.root c.args.bytes c.requires.some c.requires.fits entry.stages)

pub commit_stage-requires-clause-moved : goal.commit_stage-requires-clause-moved
commit_stage-requires-clause-moved g c =
    let gate = c.args.gate.now in
    subst (λ (n : ℕ). LeavesSession g.L.StoreName.store gate.journal.knows c.args.session.now.number (Write c.args.handle c.args.bytes)
    (with_handle c.args.session.now.state c.args.handle (record c.args.found.now.handle { position = c.args.found.now.handle.position + n }))) (sym c.len.ensures)
    (write_moves g.L.StoreName.store gate.journal.knows gate.gate.dir.dir.entries gate.gate.open_handles c.reveal_invariant.ensures.machine c.args.session.now c.requires.calm c.args.handle c.args.found.now
    c.requires.found c.args.bytes c.requires.some)

pub tell_failure-requires-clause-may : goal.tell_failure-requires-clause-may
tell_failure-requires-clause-may g c =
    let store = g.L.StoreName.store in
    let gate = c.args.gate.now in
    let knows = gate.journal.knows in
    let slot = c.args.slot.now in
    let found = c.args.found.now in
    let reply = c.in-Unstaged.reply in
    let entry : StagesEntry store knows slot found.held.entry (writing c.args.found.now.handle.position c.args.bytes) (Unstaged reply) =
    subst (λ (x : Staged). StagesEntry store knows slot found.held.entry (writing c.args.found.now.handle.position c.args.bytes) x) c.in-Unstaged.is c.requires.stages in
    write_served store gate.gate knows slot c.args.session.now c.requires.idle c.requires.calm c.args.handle found c.requires.found entry.version entry.at reply (failure_undone reply entry.stages.failure) (failure_counter gate.gate.counter reply entry.stages.failure)
    c.args.bytes c.requires.some c.requires.fits (entry.stages.answers c.args.handle)
