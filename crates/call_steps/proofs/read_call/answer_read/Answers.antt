-- What was read may be appended.
use Rattle.call_steps.proofs.ReadAnswers.{read-served}
use Rattle.call_steps.proofs.read_call.answer_read.Goals as goal

pub advance-requires-clause-fits : goal.advance-requires-clause-fits
advance-requires-clause-fits g c = c.requires.reads.1.reads.ends

pub tell-requires-clause-may : goal.tell-requires-clause-may
tell-requires-clause-may g c =
    let gate = c.args.gate.now in
    read-served g.L.StoreName.store gate.gate gate.journal.knows c.requires.reads.0 c.args.slot.now c.args.session.now c.advance.new.session c.args.handle c.args.count c.args.found.now c.args.reply
    c.requires.idle c.requires.calm c.requires.found c.requires.reads.1 c.advance.ensures
