-- The object was loaded and told of, or could not be.
use Rattle.std.proofs.Common.{None, subst}
use Rattle.htree_file.specs.Answers.{FilePassed}
use Rattle.call_steps.proofs.AnswerCauses.{on-err}
use Rattle.call_steps.proofs.InfoAnswers.{described, undescribed}
use Rattle.call_steps.proofs.LoadedVersions.{gives-still}
use Rattle.call_steps.specs.ReadyEntries.{IsReady}
use Rattle.call_steps.proofs.info_call.describe_object.Goals as goal

pub returns-in-Some-clause-describes : goal.returns-in-Some-clause-describes
returns-in-Some-clause-describes g c = λ v gives.
    let store = g.L.StoreName.store in
    let was = c.args.slot.now.file in
    let slot = c.load_or_reply.new.slot in
    undescribed store was slot v c.args.handle c.in-Some.reply (subst (IsReady store was slot v) c.in-Some.is (c.in_ok-reply.ensures.ready v gives))

pub describe-requires-clause-live : goal.describe-requires-clause-live
describe-requires-clause-live g c =
    let store = g.L.StoreName.store in
    let given = c.requires.given in
    let ready : IsReady store c.args.slot.now.file c.load_or_reply.new.slot given.version None =
    subst (IsReady store c.args.slot.now.file c.load_or_reply.new.slot given.version) c.in_default.is (c.in_ok-reply.ensures.ready given.version given.gives) in
    ready.0.live

pub returns-clause-describes : goal.returns-clause-describes
returns-clause-describes g c = λ v gives.
    let store = g.L.StoreName.store in
    let old = c.args.slot.now in
    let mid = c.load_or_reply.new.slot in
    let ready : IsReady store old.file mid v None = subst (IsReady store old.file mid v) c.in_default.is (c.in_ok-reply.ensures.ready v gives) in
    described store old.file mid v c.args.handle ready.1 c.describe.result (c.describe.ensures v (gives-still old mid v c.load_or_reply.ensures.same gives))

pub returns-clause-passed : goal.returns-clause-passed
returns-clause-passed g c =
    let given = c.requires.given in
    let ready : IsReady g.L.StoreName.store c.args.slot.now.file c.load_or_reply.new.slot given.version None =
    subst (IsReady g.L.StoreName.store c.args.slot.now.file c.load_or_reply.new.slot given.version) c.in_default.is (c.in_ok-reply.ensures.ready given.version given.gives) in
    on-err c.describe.result (FilePassed c.args.slot.now.file c.load_or_reply.new.slot.file) ready.1
