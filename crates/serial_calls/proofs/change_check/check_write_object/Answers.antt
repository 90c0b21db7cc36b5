-- The object was loaded and read, or it could not be loaded.
use Rattle.std.proofs.Common.{None, subst}
use Rattle.disk_model.proofs.Goings.{rests_then}
use Rattle.call_steps.proofs.AnswerCauses.{on-err-then}
use Rattle.call_steps.proofs.LoadedVersions.{gives-still}
use Rattle.call_steps.specs.ReadyEntries.{IsReady}
use Rattle.htree_file.specs.Answers.{FilePassed}
use Rattle.htree_file.proofs.Causes.{passed_then}
use Rattle.serial_calls.proofs.Checked.{checks_behind, unloaded_checks}
use Rattle.serial_calls.specs.ChangeStaging.{writing}
use Rattle.serial_calls.proofs.change_check.check_write_object.Goals as goal

pub returns-in-Some-clause-checks : goal.returns-in-Some-clause-checks
returns-in-Some-clause-checks g c = λ v gives.
    let store = g.L.StoreName.store in
    let was = c.args.slot.now.file in
    let slot = c.load_or_reply.new.slot in
    unloaded_checks store was slot v (writing c.args.start c.args.bytes.now) c.in-Some.reply (subst (IsReady store was slot v) c.in-Some.is (c.in_ok-reply.ensures.ready v gives))

pub check_written-requires-clause-live : goal.check_written-requires-clause-live
check_written-requires-clause-live g c =
    let given = c.requires.given in
    let ready : IsReady g.L.StoreName.store c.args.slot.now.file c.load_or_reply.new.slot given.version None =
    subst (IsReady g.L.StoreName.store c.args.slot.now.file c.load_or_reply.new.slot given.version) c.in_default.is (c.in_ok-reply.ensures.ready given.version given.gives) in
    ready.0.live

pub returns-clause-rests : goal.returns-clause-rests
returns-clause-rests g c = rests_then c.args.slot.now.file c.load_or_reply.new.slot.file c.check_written.new.slot.file c.load_or_reply.ensures.rests c.check_written.ensures.rests

pub returns-clause-passed : goal.returns-clause-passed
returns-clause-passed g c =
    let old = c.args.slot.now.file in
    let mid = c.load_or_reply.new.slot.file in
    let new = c.check_written.new.slot.file in
    let given = c.requires.given in
    let ready : IsReady g.L.StoreName.store old c.load_or_reply.new.slot given.version None =
    subst (IsReady g.L.StoreName.store old c.load_or_reply.new.slot given.version) c.in_default.is (c.in_ok-reply.ensures.ready given.version given.gives) in
    on-err-then c.check_written.result (FilePassed mid new) (FilePassed old new) (λ passed. passed_then old mid new ready.1 passed) c.check_written.ensures.passed

pub returns-clause-checks : goal.returns-clause-checks
returns-clause-checks g c = λ v gives.
    let store = g.L.StoreName.store in
    let old = c.args.slot.now in
    let mid = c.load_or_reply.new.slot in
    let ready : IsReady store old.file mid v None = subst (IsReady store old.file mid v) c.in_default.is (c.in_ok-reply.ensures.ready v gives) in
    checks_behind store old.file mid.file c.check_written.new.slot v (writing c.args.start c.args.bytes.now) ready.1 c.load_or_reply.ensures.rests.goes_on c.check_written.result
    (c.check_written.ensures.checks v (gives-still old mid v c.load_or_reply.ensures.same gives))
