-- What was loaded is of the entry still.
use Rattle.std.proofs.Common.{◌≡◌, ◌∙◌, List, ℕ, Ok, subst, sym}
use Rattle.serial_calls.specs.CallerSessions.{CallerSession}
use Rattle.disk_model.specs.State.{FileState}
use Rattle.serial_calls.specs.GuardedGates.{GuardedGateValue}
use Rattle.serial_calls.specs.ReadyEntries.{IsReadyEntry}
use Rattle.serial_calls.specs.SlotValues.{SlotValue}
use Rattle.dir_index.specs.declared.Held.{Held}
use Rattle.tee_types.specs.declared.call.Call.TheVariants.{Open}
use Rattle.shared_calls.specs.declared.validation.Validation.{Validation}
use Rattle.shared_calls.specs.Validations.{EndsLook}
use Rattle.serial_calls.specs.SessionEvents.{IsWaiting}
use Rattle.shared_calls.proofs.OpenedObjects.{loaded-entry}
use Rattle.shared_calls.proofs.Served.{slot-answers}
use Rattle.shared_calls.proofs.Waiting.{answers-then}
use Rattle.serial_calls.specs.Fits.{SeesWhole}
use Rattle.serial_calls.specs.OpenAnswers.{open_reply}
use Rattle.tee_types.specs.declared.reply.Device.TheVariants.{File}
use Rattle.serial_calls.specs.DeviceCounts.{told_of}
use Rattle.shared_calls.specs.SharedCounts.{told_if}
use Rattle.shared_calls.specs.Kept.{KeepsSlot}
use Rattle.shared_calls.proofs.KeptAnswers.{gate-keeps, open-cause, open-told, slot-keeps}
use Rattle.shared_calls.proofs.KeptSlots.{keeps-untold}
use Rattle.shared_calls.proofs.open_call.validate_last.Goals as goal

pub answer_open-requires-clause-ready : goal.answer_open-requires-clause-ready
answer_open-requires-clause-ready g c =
    let store = g.L.StoreName.store in
    let e = c.in-Found.held.entry in
    let met = c.catch_up_held.ensures.met c.if-not-catch_up_held.false in
    let there = loaded-entry store c.validate.new.gate.journal.knows c.args.slot.now c.catch_up_held.new.slot e c.args.unloaded c.requires.loaded c.catch_up_held.ensures.still met in
    subst (λ (x : SlotValue × GuardedGateValue g.row.F.Denot g.row.R.Denot). (was : FileState) × IsReadyEntry store x.1.journal.knows was x.0 e c.args.unloaded)
    (λ i. (sym c.slot.view_is i, (sym c.catch_up_held.ensures.gate ∙ sym c.gate.view_is) i)) there

pub returns-clause-ends : goal.returns-clause-ends
returns-clause-ends g c =
    let store = g.L.StoreName.store in
    let call = Open c.args.id c.args.flags in
    let was = c.args.session.now in
    let between = c.catch_up_held.new.session in
    let now = c.answer_open.new.session in
    let validated : IsWaiting store was c.validate.new.session =
    subst (λ (x : Validation Held). EndsLook {X = Unit {0}} store was c.validate.new.session call (Ok x)) c.in-Found.is c.in_ok-answer.ensures.ends in
    let waits = subst (λ (s : CallerSession g.row.E.Denot). IsWaiting store was s) (sym c.catch_up_held.ensures.session) validated in
    answers-then store was between now waits call c.answer_open.result
    (slot-answers store call between now c.answer_open.result c.gate.inside.gate c.answer_open.new.gate c.slot.inside.slot.number c.answer_open.ensures.served)

pub returns-in_err-answer-clause-kept : goal.returns-in_err-answer-clause-kept
returns-in_err-answer-clause-kept g c = keeps-untold g.L.DevicesName.devices c.args.slot.now (told_if c.args.slot.now.number c.args.unloaded) c.requires.kept

pub returns-in-Answered-clause-kept : goal.returns-in-Answered-clause-kept
returns-in-Answered-clause-kept g c = keeps-untold g.L.DevicesName.devices c.args.slot.now (told_if c.args.slot.now.number c.args.unloaded) c.requires.kept

pub returns-in-Retry-clause-kept : goal.returns-in-Retry-clause-kept
returns-in-Retry-clause-kept g c = keeps-untold g.L.DevicesName.devices c.args.slot.now (told_if c.args.slot.now.number c.args.unloaded) c.requires.kept

pub returns-then-not-catch_up_held-clause-kept : goal.returns-then-not-catch_up_held-clause-kept
returns-then-not-catch_up_held-clause-kept g c =
    let told = told_if c.args.slot.now.number c.args.unloaded in
    keeps-untold g.L.DevicesName.devices c.catch_up_held.new.slot told (c.catch_up_held.ensures.kept told c.requires.kept)

pub invariant_of-gate : goal.invariant_of-gate
invariant_of-gate g c =
    let first = c.args.slot.now in
    let met = c.slot.inside.slot in
    let loaded = c.requires.loaded in
    let done = c.answer_open in
    let state = c.catch_up_held.new.session.state in
    let told : List ℕ = told_of (File first.number) (open_reply c.args.unloaded state) in
    let same : c.catch_up_held.new.slot ≡ record first { seat = c.catch_up_held.new.slot.seat } = (c.catch_up_held.ensures.still loaded.version loaded.gives).same in
    let owed = subst (KeepsSlot g.L.DevicesName.devices first) (open-told first.number c.args.unloaded state) c.requires.kept in
    gate-keeps g.L.DevicesName.devices g.F.StoreFile.state g.R.RpmbPort.state g.L.StoreName.store c.gate.inside.gate done.new.gate c.catch_up_held.new.session done.new.session
    (Open c.args.id c.args.flags) done.result first met done.new.slot (subst (λ (s : SlotValue). s ≡ record first { seat = s.seat }) (sym c.slot.view_is) same) loaded.was (open_reply c.args.unloaded state)
    (open-cause g.L.StoreName.store loaded.was first loaded.version c.args.unloaded state loaded.ready) done.ensures.reply done.ensures.served
    (subst (λ (s : SlotValue). KeepsSlot g.L.DevicesName.devices s told) (sym c.slot.view_is) (c.catch_up_held.ensures.kept told owed)) c.gate.invariant

pub returns-clause-kept : goal.returns-clause-kept
returns-clause-kept g c =
    let first = c.args.slot.now in
    let met = c.slot.inside.slot in
    let loaded = c.requires.loaded in
    let done = c.answer_open in
    let state = c.catch_up_held.new.session.state in
    let told : List ℕ = told_of (File first.number) (open_reply c.args.unloaded state) in
    let same : c.catch_up_held.new.slot ≡ record first { seat = c.catch_up_held.new.slot.seat } = (c.catch_up_held.ensures.still loaded.version loaded.gives).same in
    let owed = subst (KeepsSlot g.L.DevicesName.devices first) (open-told first.number c.args.unloaded state) c.requires.kept in
    let saw : SeesWhole c.validate.new.gate.journal.knows c.catch_up_held.new.slot = (c.catch_up_held.ensures.met c.if-not-catch_up_held.false).at.sees in
    slot-keeps g.L.DevicesName.devices g.F.StoreFile.state g.R.RpmbPort.state g.L.StoreName.store c.gate.inside.gate done.new.gate c.catch_up_held.new.session done.new.session
    (Open c.args.id c.args.flags) done.result first met done.new.slot (subst (λ (s : SlotValue). s ≡ record first { seat = s.seat }) (sym c.slot.view_is) same) loaded.was (open_reply c.args.unloaded state)
    (open-cause g.L.StoreName.store loaded.was first loaded.version c.args.unloaded state loaded.ready) done.ensures.reply done.ensures.served
    (subst (λ (s : SlotValue). KeepsSlot g.L.DevicesName.devices s told) (sym c.slot.view_is) (c.catch_up_held.ensures.kept told owed))
    (subst (λ (x : GuardedGateValue g.row.F.Denot g.row.R.Denot × SlotValue). SeesWhole x.0.journal.knows x.1) (λ i. ((sym c.catch_up_held.ensures.gate ∙ sym c.gate.view_is) i, sym c.slot.view_is i)) saw)
    done.ensures.whole done.ensures.number done.ensures.file
