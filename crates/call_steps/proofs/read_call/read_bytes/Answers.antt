-- What the file gave is the reply, or why it gave nothing.
use Rattle.std.proofs.Common.{◌≡◌, ◌-◌, ℕ, List, length, min, sym, ap, ◌∙◌, subst, arith}
use Rattle.std.proofs.lemmas.List.{take_at}
use Rattle.tee_types.specs.declared.reply.Reply.TheVariants.{Content}
use Rattle.object_slots.specs.SlotFaults.{HasCause}
use Rattle.object_slots.specs.SlotValues.{IsLive, SlotValue}
use Rattle.object_slots.specs.GuardedReads.{ReadsVersion}
use Rattle.call_steps.specs.FileFaults.{reply_of_fault}
use Rattle.call_steps.specs.ReadAnswers.{ReadsAnswer}
use Rattle.call_steps.proofs.AnswerCauses.{untold-passed}
use Rattle.call_steps.proofs.LoadedVersions.{gives-still}
use Rattle.call_steps.proofs.Meetings.{file-moved}
use Rattle.call_steps.proofs.ReadAnswers.{content-answer, fault-answer, live-reads}
use Rattle.call_steps.proofs.read_call.read_bytes.Goals as goal

pub returns-in-Ok-clause-reads : goal.returns-in-Ok-clause-reads
returns-in-Ok-clause-reads g c = λ v gives sized.
    let store = g.L.StoreName.store in
    let old = c.args.slot.now in
    let new = c.read.new.slot in
    let after = c.read.new.into in
    let same = c.read.ensures.same in
    let whole : length after ≡ c.in_ok-bytes.bytes.len = omega (arith, c.read.auto.into, c.as_mut_slice.ensures.len) in
    let long : length after ≡ min c.args.count (v.size - c.args.at) = omega (arith, whole, c.in_ok-bytes.ensures.len, c.min-long.ensures, c.saturating_sub.ensures, sized) in
    let reads = subst (ReadsVersion store.keys new.file v c.args.at after) c.in-Ok.is (c.read.ensures.version v gives) in
    let bytes : c.from_vec.result ≡ after = c.from_vec.ensures ∙ take_at after _ c.in_ok-bytes.bytes.len whole in
    subst (λ (b : List ℕ). ReadsAnswer store old.file new v c.args.at c.args.count (Content b)) (sym bytes)
    (content-answer store old.file new v c.args.at c.args.count c.read.ensures.guarded (gives-still old new v (file-moved old new same) gives)
    (subst IsLive (sym (ap (λ (s : SlotValue). s.holds) same)) c.requires.live) after long c.in-Ok.field-0 reads
    (subst (HasCause old.file new.file) c.in-Ok.is (live-reads old.holds old.file new.file c.args.at c.as_mut_slice.result.now after c.read.result c.requires.live c.read.ensures.reads).1) (omega arith) (omega (arith, sized)))

pub returns-in-Some-clause-reads : goal.returns-in-Some-clause-reads
returns-in-Some-clause-reads g c = λ v gives sized.
    let store = g.L.StoreName.store in
    let old = c.args.slot.now in
    let new = c.read.new.slot in
    let after = c.read.new.into in
    let same = c.read.ensures.same in
    let whole : length after ≡ c.in_ok-bytes.bytes.len = omega (arith, c.read.auto.into, c.as_mut_slice.ensures.len) in
    let long : length after ≡ min c.args.count (v.size - c.args.at) = omega (arith, whole, c.in_ok-bytes.ensures.len, c.min-long.ensures, c.saturating_sub.ensures, sized) in
    let reads = subst (ReadsVersion store.keys new.file v c.args.at after) c.in-Err.is (c.read.ensures.version v gives) in
    fault-answer store old.file new v c.args.at c.args.count c.read.ensures.guarded (gives-still old new v (file-moved old new same) gives)
    (subst IsLive (sym (ap (λ (s : SlotValue). s.holds) same)) c.requires.live) after long c.in-Err.fault c.in-Some.reply
    (sym c.in-Some.is ∙ c.fault_reply.ensures ∙ ap (λ (n : ℕ). reply_of_fault n c.in-Err.fault) c.number.ensures.number) reads
    (subst (HasCause old.file new.file) c.in-Err.is (live-reads old.holds old.file new.file c.args.at c.as_mut_slice.result.now after c.read.result c.requires.live c.read.ensures.reads).1)

pub returns-in-Ok-clause-rests : goal.returns-in-Ok-clause-rests
returns-in-Ok-clause-rests g c =
    (live-reads c.args.slot.now.holds c.args.slot.now.file c.read.new.slot.file c.args.at c.as_mut_slice.result.now c.read.new.into c.read.result c.requires.live c.read.ensures.reads).0

pub returns-in-Some-clause-rests : goal.returns-in-Some-clause-rests
returns-in-Some-clause-rests g c =
    (live-reads c.args.slot.now.holds c.args.slot.now.file c.read.new.slot.file c.args.at c.as_mut_slice.result.now c.read.new.into c.read.result c.requires.live c.read.ensures.reads).0

pub returns-in_default-clause-passed : goal.returns-in_default-clause-passed
returns-in_default-clause-passed g c =
    let old = c.args.slot.now.file in
    let new = c.read.new.slot.file in
    untold-passed old new c.number.result c.in-Err.fault (sym c.in_default.is ∙ c.fault_reply.ensures)
    (subst (HasCause old new) c.in-Err.is (live-reads c.args.slot.now.holds old new c.args.at c.as_mut_slice.result.now c.read.new.into c.read.result c.requires.live c.read.ensures.reads).1)
