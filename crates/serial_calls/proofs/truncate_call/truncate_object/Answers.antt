-- The object was loaded and its change staged, or it could not be loaded.
use Rattle.std.proofs.Common.{None, Some, ap, subst}
use Rattle.htree_file.specs.Answers.{FilePassed}
use Rattle.htree_file.proofs.Causes.{passed_then}
use Rattle.call_steps.proofs.AnswerCauses.{on-err-then}
use Rattle.serial_calls.proofs.Unloaded.{stages_behind, unloaded_cause, unloaded_changes}
use Rattle.serial_calls.proofs.truncate_call.truncate_object.Goals as goal
use Rattle.serial_calls.specs.ChangeStaging.{resizing}
use Rattle.call_steps.specs.ReadyEntries.{IsReady}
use Rattle.call_steps.specs.SlotValues.{SlotValue}

pub returns-in-Some-clause-stages : goal.returns-in-Some-clause-stages
returns-in-Some-clause-stages g c = λ v gives.
    let store = g.L.StoreName.store in
    let was = c.args.slot.now.file in
    let slot = c.load_or_reply.new.slot in
    unloaded_changes store was slot v (resizing c.args.size) c.in-Some.reply c.load_or_reply.ensures.guarded
    (subst (IsReady store was slot v) c.in-Some.is (c.in_ok-reply.ensures.ready v gives))

pub returns-in-Some-clause-cause : goal.returns-in-Some-clause-cause
returns-in-Some-clause-cause g c =
    let store = g.L.StoreName.store in
    let was = c.args.slot.now.file in
    let slot = c.load_or_reply.new.slot in
    let given = c.requires.given in
    let ready : IsReady store was slot given.version (Some c.in-Some.reply) =
    subst (IsReady store was slot given.version) c.in-Some.is (c.in_ok-reply.ensures.ready given.version given.gives) in
    unloaded_cause was slot.file c.args.slot.now.number slot.number (ap (λ (s : SlotValue). s.number) c.load_or_reply.ensures.same) (g.E.Entropy.is_reliable c.args.entropy.now) (g.E.Entropy.faults c.args.entropy.now)
    c.in-Some.reply ready.cause

pub truncate_loaded-requires-clause-live : goal.truncate_loaded-requires-clause-live
truncate_loaded-requires-clause-live g c =
    let store = g.L.StoreName.store in
    let was = c.args.slot.now.file in
    let slot = c.load_or_reply.new.slot in
    let given = c.requires.given in
    let ready : IsReady store was slot given.version None = subst (IsReady store was slot given.version) c.in_default.is (c.in_ok-reply.ensures.ready given.version given.gives) in
    ready.0.live

pub returns-clause-cause : goal.returns-clause-cause
returns-clause-cause g c =
    let store = g.L.StoreName.store in
    let was = c.args.slot.now.file in
    let slot = c.load_or_reply.new.slot in
    let given = c.requires.given in
    let ready : IsReady store was slot given.version None = subst (IsReady store was slot given.version) c.in_default.is (c.in_ok-reply.ensures.ready given.version given.gives) in
    stages_behind was slot.file c.truncate_loaded.new.slot.file ready.1 c.load_or_reply.ensures.rests.goes_on c.args.slot.now.number slot.number (ap (λ (s : SlotValue). s.number) c.load_or_reply.ensures.same)
    (g.E.Entropy.is_reliable c.args.entropy.now) (g.E.Entropy.faults c.args.entropy.now) (g.E.Entropy.faults c.truncate_loaded.new.entropy) c.truncate_loaded.result c.truncate_loaded.ensures.cause

pub returns-clause-passed : goal.returns-clause-passed
returns-clause-passed g c =
    let store = g.L.StoreName.store in
    let was = c.args.slot.now.file in
    let mid = c.load_or_reply.new.slot in
    let new = c.truncate_loaded.new.slot.file in
    let given = c.requires.given in
    let ready : IsReady store was mid given.version None = subst (IsReady store was mid given.version) c.in_default.is (c.in_ok-reply.ensures.ready given.version given.gives) in
    on-err-then c.truncate_loaded.result (FilePassed mid.file new) (FilePassed was new) (λ passed. passed_then was mid.file new ready.1 passed) c.truncate_loaded.ensures.passed
