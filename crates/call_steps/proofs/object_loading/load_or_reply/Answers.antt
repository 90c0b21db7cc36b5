-- The object was loaded, or the fault is told.
use Rattle.std.proofs.Common.{sym, ap, ◌∙◌, ℕ, subst}
use Rattle.crash_core.specs.DeviceKeys.{object_key}
use Rattle.object_slots.specs.SlotFaults.{HasCause}
use Rattle.call_steps.proofs.AnswerCauses.{untold-passed}
use Rattle.call_steps.proofs.LoadedVersions.{reads-at_most}
use Rattle.call_steps.proofs.ReadyEntries.{ready-none, ready-some}
use Rattle.call_steps.specs.FileFaults.{reply_of_fault}
use Rattle.call_steps.proofs.object_loading.load_or_reply.Goals as goal

pub returns-in-Ok-clause-rests : goal.returns-in-Ok-clause-rests
returns-in-Ok-clause-rests g c =
    let old = c.args.slot.now in
    (reads-at_most old.holds old c.fill_free.new.slot (object_key g.L.StoreName.store.keys c.args.entry.now.app) c.args.entry.now c.fill_free.result c.fill_free.ensures.filled).rests

pub returns-in-Some-clause-rests : goal.returns-in-Some-clause-rests
returns-in-Some-clause-rests g c =
    let old = c.args.slot.now in
    (reads-at_most old.holds old c.fill_free.new.slot (object_key g.L.StoreName.store.keys c.args.entry.now.app) c.args.entry.now c.fill_free.result c.fill_free.ensures.filled).rests

pub returns-in_default-clause-rests : goal.returns-in_default-clause-rests
returns-in_default-clause-rests g c =
    let old = c.args.slot.now in
    (reads-at_most old.holds old c.fill_free.new.slot (object_key g.L.StoreName.store.keys c.args.entry.now.app) c.args.entry.now c.fill_free.result c.fill_free.ensures.filled).rests

pub returns-in-Ok-clause-ready : goal.returns-in-Ok-clause-ready
returns-in-Ok-clause-ready g c = λ v gives.
    let old = c.args.slot.now in
    let reads = reads-at_most old.holds old c.fill_free.new.slot (object_key g.L.StoreName.store.keys c.args.entry.now.app) c.args.entry.now c.fill_free.result c.fill_free.ensures.filled in
    ready-none g.L.StoreName.store old.file c.fill_free.new.slot v c.fill_free.result (c.fill_free.ensures.version v gives) reads.cause tt c.in-Ok.is

pub returns-in-Some-clause-ready : goal.returns-in-Some-clause-ready
returns-in-Some-clause-ready g c = λ v gives.
    let old = c.args.slot.now in
    let reads = reads-at_most old.holds old c.fill_free.new.slot (object_key g.L.StoreName.store.keys c.args.entry.now.app) c.args.entry.now c.fill_free.result c.fill_free.ensures.filled in
    ready-some g.L.StoreName.store old.file c.fill_free.new.slot v c.fill_free.result (c.fill_free.ensures.version v gives) reads.cause c.in-Err.fault c.in-Some.reply c.in-Err.is
    (sym c.in-Some.is ∙ c.fault_reply.ensures ∙ ap (λ (n : ℕ). reply_of_fault n c.in-Err.fault) c.number.ensures.number)

pub returns-in_default-clause-passed : goal.returns-in_default-clause-passed
returns-in_default-clause-passed g c =
    let old = c.args.slot.now in
    let reads = reads-at_most old.holds old c.fill_free.new.slot (object_key g.L.StoreName.store.keys c.args.entry.now.app) c.args.entry.now c.fill_free.result c.fill_free.ensures.filled in
    untold-passed old.file c.fill_free.new.slot.file c.number.result c.in-Err.fault (sym c.in_default.is ∙ c.fault_reply.ensures) (subst (HasCause old.file c.fill_free.new.slot.file) c.in-Err.is reads.cause)
