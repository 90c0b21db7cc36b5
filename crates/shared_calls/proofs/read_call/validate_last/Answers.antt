-- What was read is of the entry still.
use Rattle.std.proofs.Common.{◌≡◌, Ok, ℕ, subst, sym, ◌∙◌}
use Rattle.disk_model.specs.State.{FileState}
use Rattle.serial_calls.specs.GuardedGates.{GuardedGateValue}
use Rattle.serial_calls.specs.ReadAnswers.{ReadsEntry}
use Rattle.serial_calls.specs.SlotValues.{SlotValue}
use Rattle.shared_calls.proofs.ReadObjects.{read-entry}
use Rattle.serial_calls.specs.Fits.{SeesWhole}
use Rattle.tee_types.specs.declared.reply.Device.TheVariants.{File}
use Rattle.tee_types.specs.declared.call.Call.TheVariants.{Read}
use Rattle.call_rules.specs.declared.decision.OpenObject.{OpenObject}
use Rattle.serial_calls.specs.CallerSessions.{CallerSession}
use Rattle.serial_calls.specs.DeviceCounts.{told_of}
use Rattle.shared_calls.specs.declared.validation.Validation.{Validation}
use Rattle.shared_calls.specs.Kept.{KeepsSlot}
use Rattle.shared_calls.specs.Validations.{EndsLook}
use Rattle.serial_calls.specs.SessionEvents.{IsWaiting}
use Rattle.shared_calls.proofs.KeptAnswers.{gate-keeps, slot-keeps}
use Rattle.shared_calls.proofs.KeptSlots.{keeps-untold}
use Rattle.shared_calls.proofs.Served.{slot-answers}
use Rattle.shared_calls.proofs.Waiting.{answers-then}
use Rattle.shared_calls.proofs.read_call.validate_last.Goals as goal

pub answer_read-requires-clause-reads : goal.answer_read-requires-clause-reads
answer_read-requires-clause-reads g c =
    let store = g.L.StoreName.store in
    let e = c.in-Found.found.held.entry in
    let met = c.catch_up_held.ensures.met c.if-not-catch_up_held.false in
    let there = read-entry store c.validate.new.gate.journal.knows c.args.slot.now c.catch_up_held.new.slot e c.args.at c.args.size c.args.reply c.requires.read c.catch_up_held.ensures.still met in
    subst (λ (x : SlotValue × GuardedGateValue g.row.F.Denot g.row.R.Denot × ℕ). (was : FileState) × ReadsEntry store x.1.journal.knows was x.0 e x.2 c.args.size c.args.reply)
    (λ i. (sym c.slot.view_is i, (sym c.catch_up_held.ensures.gate ∙ sym c.gate.view_is) i, sym c.if-found-at.false i)) there

pub returns-in_err-answer-clause-kept : goal.returns-in_err-answer-clause-kept
returns-in_err-answer-clause-kept g c = keeps-untold g.L.DevicesName.devices c.args.slot.now (told_of (File c.args.slot.now.number) c.args.reply) c.requires.kept

pub returns-in-Answered-clause-kept : goal.returns-in-Answered-clause-kept
returns-in-Answered-clause-kept g c = keeps-untold g.L.DevicesName.devices c.args.slot.now (told_of (File c.args.slot.now.number) c.args.reply) c.requires.kept

pub returns-in-Retry-clause-kept : goal.returns-in-Retry-clause-kept
returns-in-Retry-clause-kept g c = keeps-untold g.L.DevicesName.devices c.args.slot.now (told_of (File c.args.slot.now.number) c.args.reply) c.requires.kept

pub returns-then-found-at-clause-kept : goal.returns-then-found-at-clause-kept
returns-then-found-at-clause-kept g c = keeps-untold g.L.DevicesName.devices c.args.slot.now (told_of (File c.args.slot.now.number) c.args.reply) c.requires.kept

pub returns-then-not-catch_up_held-clause-kept : goal.returns-then-not-catch_up_held-clause-kept
returns-then-not-catch_up_held-clause-kept g c =
    let told = told_of (File c.args.slot.now.number) c.args.reply in
    keeps-untold g.L.DevicesName.devices c.catch_up_held.new.slot told (c.catch_up_held.ensures.kept told c.requires.kept)

pub returns-clause-ends : goal.returns-clause-ends
returns-clause-ends g c =
    let store = g.L.StoreName.store in
    let call = Read c.args.handle c.args.size in
    let was = c.args.session.now in
    let between = c.catch_up_held.new.session in
    let done = c.answer_read in
    let validated : IsWaiting store was c.validate.new.session =
    subst (λ (x : Validation OpenObject). EndsLook {X = Unit {0}} store was c.validate.new.session call (Ok x)) c.in-Found.is c.in_ok-answer.ensures.ends in
    answers-then store was between done.new.session (subst (λ (s : CallerSession g.row.E.Denot). IsWaiting store was s) (sym c.catch_up_held.ensures.session) validated) call done.result
    (slot-answers store call between done.new.session done.result c.gate.inside.gate done.new.gate c.slot.inside.slot.number done.ensures.served)

pub invariant_of-gate : goal.invariant_of-gate
invariant_of-gate g c =
    let first = c.args.slot.now in
    let met = c.slot.inside.slot in
    let read = c.requires.read in
    let told = told_of (File first.number) c.args.reply in
    let done = c.answer_read in
    let same : c.catch_up_held.new.slot ≡ record first { seat = c.catch_up_held.new.slot.seat } = (c.catch_up_held.ensures.still read.version read.gives).same in
    gate-keeps g.L.DevicesName.devices g.F.StoreFile.state g.R.RpmbPort.state g.L.StoreName.store c.gate.inside.gate done.new.gate c.catch_up_held.new.session done.new.session
    (Read c.args.handle c.args.size) done.result first met done.new.slot (subst (λ (s : SlotValue). s ≡ record first { seat = s.seat }) (sym c.slot.view_is) same) read.was c.args.reply read.reads.cause
    done.ensures.reply done.ensures.served
    (subst (λ (s : SlotValue). KeepsSlot g.L.DevicesName.devices s told) (sym c.slot.view_is) (c.catch_up_held.ensures.kept told c.requires.kept)) c.gate.invariant

pub returns-clause-kept : goal.returns-clause-kept
returns-clause-kept g c =
    let first = c.args.slot.now in
    let met = c.slot.inside.slot in
    let read = c.requires.read in
    let told = told_of (File first.number) c.args.reply in
    let done = c.answer_read in
    let same : c.catch_up_held.new.slot ≡ record first { seat = c.catch_up_held.new.slot.seat } = (c.catch_up_held.ensures.still read.version read.gives).same in
    let saw : SeesWhole c.validate.new.gate.journal.knows c.catch_up_held.new.slot = (c.catch_up_held.ensures.met c.if-not-catch_up_held.false).at.sees in
    slot-keeps g.L.DevicesName.devices g.F.StoreFile.state g.R.RpmbPort.state g.L.StoreName.store c.gate.inside.gate done.new.gate c.catch_up_held.new.session done.new.session
    (Read c.args.handle c.args.size) done.result first met done.new.slot (subst (λ (s : SlotValue). s ≡ record first { seat = s.seat }) (sym c.slot.view_is) same) read.was c.args.reply read.reads.cause
    done.ensures.reply done.ensures.served
    (subst (λ (s : SlotValue). KeepsSlot g.L.DevicesName.devices s told) (sym c.slot.view_is) (c.catch_up_held.ensures.kept told c.requires.kept))
    (subst (λ (x : GuardedGateValue g.row.F.Denot g.row.R.Denot × SlotValue). SeesWhole x.0.journal.knows x.1) (λ i. ((sym c.catch_up_held.ensures.gate ∙ sym c.gate.view_is) i, sym c.slot.view_is i)) saw)
    done.ensures.whole done.ensures.number done.ensures.file
