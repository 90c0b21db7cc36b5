-- The object was loaded and read, or could not be.
use Rattle.std.proofs.Common.{None, subst, ◌≡◌}
use Rattle.history_seats.specs.Records.{Version}
use Rattle.htree_file.specs.Answers.{FilePassed}
use Rattle.htree_file.proofs.Causes.{passed_then}
use Rattle.call_steps.proofs.AnswerCauses.{on-err-then}
use Rattle.disk_model.proofs.Goings.{rests_then}
use Rattle.call_steps.proofs.LoadedVersions.{gives-still}
use Rattle.call_steps.proofs.Meetings.{file-moved, gives-one, moved-then}
use Rattle.call_steps.proofs.ReadAnswers.{read-loaded, unread}
use Rattle.call_steps.specs.ReadyEntries.{IsReady}
use Rattle.call_steps.proofs.read_call.read_object.Goals as goal

pub returns-in-Some-clause-reads : goal.returns-in-Some-clause-reads
returns-in-Some-clause-reads g c = λ v gives.
    let store = g.L.StoreName.store in
    let was = c.args.slot.now.file in
    let slot = c.load_or_reply.new.slot in
    unread store was slot v c.args.at c.args.count c.in-Some.reply (subst (IsReady store was slot v) c.in-Some.is (c.in_ok-reply.ensures.ready v gives))

pub read_bytes-requires-clause-live : goal.read_bytes-requires-clause-live
read_bytes-requires-clause-live g c =
    let store = g.L.StoreName.store in
    let given = c.requires.given in
    let ready : IsReady store c.args.slot.now.file c.load_or_reply.new.slot given.version None =
    subst (IsReady store c.args.slot.now.file c.load_or_reply.new.slot given.version) c.in_default.is (c.in_ok-reply.ensures.ready given.version given.gives) in
    ready.0.live

pub returns-clause-same : goal.returns-clause-same
returns-clause-same g c =
    let mid = c.load_or_reply.new.slot in
    let new = c.read_bytes.new.slot in
    moved-then c.args.slot.now mid new c.load_or_reply.ensures.same (file-moved mid new c.read_bytes.ensures.same)

pub returns-clause-rests : goal.returns-clause-rests
returns-clause-rests g c = rests_then c.args.slot.now.file c.load_or_reply.new.slot.file c.read_bytes.new.slot.file c.load_or_reply.ensures.rests c.read_bytes.ensures.rests

pub returns-clause-reads : goal.returns-clause-reads
returns-clause-reads g c = λ v gives.
    let store = g.L.StoreName.store in
    let old = c.args.slot.now in
    let mid = c.load_or_reply.new.slot in
    let given = c.requires.given in
    let ready : IsReady store old.file mid v None = subst (IsReady store old.file mid v) c.in_default.is (c.in_ok-reply.ensures.ready v gives) in
    let sized = subst (λ (w : Version). w.size ≡ c.args.entry.now.size) (gives-one old given.version v given.gives gives) given.is.size in
    read-loaded store old.file mid.file c.read_bytes.new.slot v c.args.at c.args.count ready.1 c.load_or_reply.ensures.rests.goes_on c.read_bytes.result
    (c.read_bytes.ensures.reads v (gives-still old mid v c.load_or_reply.ensures.same gives) sized)

pub returns-clause-passed : goal.returns-clause-passed
returns-clause-passed g c =
    let old = c.args.slot.now.file in
    let mid = c.load_or_reply.new.slot.file in
    let new = c.read_bytes.new.slot.file in
    let given = c.requires.given in
    let ready : IsReady g.L.StoreName.store old c.load_or_reply.new.slot given.version None =
    subst (IsReady g.L.StoreName.store old c.load_or_reply.new.slot given.version) c.in_default.is (c.in_ok-reply.ensures.ready given.version given.gives) in
    on-err-then c.read_bytes.result (FilePassed mid new) (FilePassed old new) (λ passed. passed_then old mid new ready.1 passed) c.read_bytes.ensures.passed
