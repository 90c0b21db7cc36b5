-- The number of the handle may be told, or why the object could not be loaded.
use Rattle.std.proofs.Common.{None, Some, sym, refl, subst}
use Rattle.tee_types.specs.declared.call.Call.TheVariants.{Open}
use Rattle.tee_types.specs.declared.reply.Reply.{Reply}
use Rattle.call_steps.specs.ReadyEntries.{IsReadyEntry}
use Rattle.call_steps.specs.ServableReplies.{MayBeServed}
use Rattle.call_steps.proofs.OpenAnswers.{moved-open, open-served, unopened-served}
use Rattle.call_steps.proofs.UndoneAnswers.{undone-bare}
use Rattle.call_steps.proofs.open_call.answer_open.Goals as goal

pub twice-reply-requires : goal.twice-reply-requires
twice-reply-requires g c =
    let ready : IsReadyEntry g.L.StoreName.store c.args.gate.now.journal.knows c.requires.ready.0 c.args.slot.now c.args.held.now.entry (Some c.in-Some.reply) =
    subst (IsReadyEntry g.L.StoreName.store c.args.gate.now.journal.knows c.requires.ready.0 c.args.slot.now c.args.held.now.entry) c.in-Some.is c.requires.ready.1 in
    undone-bare c.in-Some.reply ready.ready.undone

pub tell-requires-clause-may : goal.tell-requires-clause-may
tell-requires-clause-may g c =
    let store = g.L.StoreName.store in
    let gate = c.args.gate.now in
    let knows = gate.journal.knows in
    let held = c.args.held.now in
    let slot = c.args.slot.now in
    let s = c.args.session.now in
    let call = Open c.args.id c.args.flags in
    let ready : IsReadyEntry store knows c.requires.ready.0 slot held.entry (Some c.in-Some.reply) = subst (IsReadyEntry store knows c.requires.ready.0 slot held.entry) c.in-Some.is c.requires.ready.1 in
    subst (λ (p : Reply × Reply). MayBeServed store gate.gate knows slot call p.0 s) (sym c.twice-reply.ensures)
    (unopened-served store gate.gate knows c.requires.ready.0 slot s s c.args.id c.args.flags held c.in-Some.reply c.requires.idle c.requires.calm c.requires.named c.requires.opens ready refl)

pub tell-requires-2-clause-may : goal.tell-requires-2-clause-may
tell-requires-2-clause-may g c =
    let store = g.L.StoreName.store in
    let gate = c.args.gate.now in
    let knows = gate.journal.knows in
    let held = c.args.held.now in
    let slot = c.args.slot.now in
    let s = c.args.session.now in
    let now = c.open-number.new.self in
    let id = c.args.id in
    let flags = c.args.flags in
    let attributes = c.attributes-attributes.result.now in
    let ready : IsReadyEntry store knows c.requires.ready.0 slot held.entry None = subst (IsReadyEntry store knows c.requires.ready.0 slot held.entry) c.in_default.is c.requires.ready.1 in
    open-served store gate.gate knows c.requires.ready.0 slot s now id flags held c.open-number.result attributes c.requires.idle c.requires.calm c.requires.named c.requires.opens ready
    (c.attributes-attributes.ensures.version ready.version ready.at.gives) c.open-number.ensures.number
    (moved-open s s now c.app.result id flags c.open-number.ensures.opened c.app.ensures refl)
