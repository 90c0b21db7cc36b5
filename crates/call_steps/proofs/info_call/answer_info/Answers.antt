-- What is known of the object may be told.
use Rattle.std.proofs.Common.{refl}
use Rattle.call_steps.proofs.InfoAnswers.{info-served}
use Rattle.call_steps.proofs.info_call.answer_info.Goals as goal

pub tell-requires-clause-may : goal.tell-requires-clause-may
tell-requires-clause-may g c =
    let gate = c.args.gate.now in
    let s = c.args.session.now in
    info-served g.L.StoreName.store gate.gate gate.journal.knows c.requires.describes.0 c.args.slot.now s s c.args.handle c.args.found.now c.args.reply c.requires.idle c.requires.calm c.requires.found
    c.requires.describes.1 refl
