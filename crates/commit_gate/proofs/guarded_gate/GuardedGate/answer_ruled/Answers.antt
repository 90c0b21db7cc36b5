-- The rules told what the machine does, wherever the history is answered.
use Rattle.std.proofs.Common.{◌<◌, ◌^◌, ℕ, sym, subst}
use Rattle.commit_gate.proofs.RuledAnswers.{ruled-alone, ruled-moves}
use Rattle.commit_gate.proofs.guarded_gate.GuardedGate.answer_ruled.Goals as goal

pub answer-requires-clause-told : goal.answer-requires-clause-told
answer-requires-clause-told g c = λ scenario answered.
    let store = g.L.StoreName.store in
    let v = c.args.self.now in
    ruled-alone store v.journal.knows v.gate.dir.dir.entries v.gate.open_handles c.args.call c.args.reply c.args.session.now c.requires.ruled c.reveal_invariant.ensures.machine scenario answered
    (subst (λ (n : ℕ). n < 2 ^ 32) (sym (c.reveal_invariant.ensures.guarded.tied.counter scenario answered)) c.reveal_invariant.ensures.counter)

pub answer-requires-clause-moved : goal.answer-requires-clause-moved
answer-requires-clause-moved g c =
    let v = c.args.self.now in
    ruled-moves g.L.StoreName.store v.journal.knows v.gate.dir.dir.entries v.gate.open_handles c.args.call c.args.reply c.args.session.now c.requires.ruled c.reveal_invariant.ensures.machine
    c.requires.within
