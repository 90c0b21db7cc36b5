-- What was staged may be brought; or why it was not staged may be told.
use Rattle.std.proofs.Common.{subst}
use Rattle.serial_calls.proofs.CommittableChanges.{truncate_committable}
use Rattle.serial_calls.proofs.Failures.{truncate_served}
use Rattle.serial_calls.proofs.MovedSessions.{truncate_moves}
use Rattle.serial_calls.proofs.Checked.{failure_counter}
use Rattle.serial_calls.proofs.Replies.{failure_undone}
use Rattle.serial_calls.proofs.truncate_call.answer_truncate.Goals as goal
use Rattle.serial_calls.specs.ChangeStaging.{StagesEntry, resizing}
use Rattle.serial_calls.specs.declared.stage_result.Staged.TheVariants.{Root, Unstaged}
use Rattle.serial_calls.specs.declared.stage_result.Staged.{Staged}

pub commit_stage-requires-clause-committable : goal.commit_stage-requires-clause-committable
commit_stage-requires-clause-committable g c =
    let store = g.L.StoreName.store in
    let gate = c.args.gate.now in
    let knows = gate.journal.knows in
    let slot = c.args.slot.now in
    let s = c.args.session.now in
    let found = c.args.found.now in
    let entry : StagesEntry store knows slot found.held.entry (resizing c.args.size) (Root c.in-Root.root) =
    subst (λ (x : Staged). StagesEntry store knows slot found.held.entry (resizing c.args.size) x) c.in-Root.is c.requires.stages in
    truncate_committable store gate.gate knows gate.closing c.reveal_invariant.ensures.guarded c.reveal_invariant.ensures.entries c.requires.idle s c.requires.calm c.args.handle found c.requires.found slot entry.version entry.at
    c.in-Root.root c.args.size c.requires.other c.requires.fits entry.stages

pub commit_stage-requires-clause-moved : goal.commit_stage-requires-clause-moved
commit_stage-requires-clause-moved g c =
    let gate = c.args.gate.now in
    truncate_moves g.L.StoreName.store gate.journal.knows gate.gate.dir.dir.entries gate.gate.open_handles c.reveal_invariant.ensures.machine c.args.session.now c.requires.calm c.args.handle c.args.found.now
    c.requires.found c.args.size

pub tell_failure-requires-clause-may : goal.tell_failure-requires-clause-may
tell_failure-requires-clause-may g c =
    let store = g.L.StoreName.store in
    let gate = c.args.gate.now in
    let knows = gate.journal.knows in
    let slot = c.args.slot.now in
    let found = c.args.found.now in
    let reply = c.in-Unstaged.reply in
    let entry : StagesEntry store knows slot found.held.entry (resizing c.args.size) (Unstaged reply) =
    subst (λ (x : Staged). StagesEntry store knows slot found.held.entry (resizing c.args.size) x) c.in-Unstaged.is c.requires.stages in
    truncate_served store gate.gate knows slot c.args.session.now c.requires.idle c.requires.calm c.args.handle found c.requires.found entry.version entry.at reply (failure_undone reply entry.stages.failure) (failure_counter gate.gate.counter reply entry.stages.failure)
    c.args.size c.requires.other c.requires.fits (entry.stages.answers c.args.handle)
