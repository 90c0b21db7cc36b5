-- The event is answered with no object's file.
use Rattle.commit_gate.proofs.CallMoves.{alone-fair}
use Rattle.commit_gate.proofs.journal_calls.answer.Goals as goal

pub append_call-requires-clause-fair : goal.append_call-requires-clause-fair
append_call-requires-clause-fair g c = λ scenario.
    let s = c.args.session.now in
    alone-fair g.L.StoreName.store scenario c.args.journal.now.knows.all s.number s.made c.args.call c.args.reply c.requires.moved.was.known c.requires.fault
    (c.requires.told scenario)
