use Rattle.std.proofs.Common.{◌<◌, vec_len, arith}
use Rattle.history_seats.specs.Numbers.{without}
use Rattle.object_calls.proofs.Retirings.{one_counted, sessions_same, sessions_then}
use Rattle.object_calls.proofs.Stacks.{popped_last, popped_rest}
use Rattle.object_calls.proofs.phase_end.retire_sessions.Goals as goal

pub loop-session-preserved : goal.loop-session-preserved
loop-session-preserved g c =
    let l = c.loop-session in
    let session = c.in-Some.session in
    let after = c.retire_session.new.journal in
    let next = without session.number l.journal.knows.sessions in
    let some : 0 < vec_len l.sessions = omega (arith, c.in-Some.ensures.cases) in
    record {
      journal = sessions_then c.args.journal.now l.journal after next l.invariant.journal c.retire_session.ensures.journal;
      counted = one_counted c.args.journal.now.knows c.args.sessions.items l.journal.knows l.sessions.items l.invariant.counted (omega (arith, some, l.sessions.ok.0)) after.knows session
          c.pop.new.self.items (popped_last l.sessions.items (vec_len l.sessions) l.sessions.ok.0 session (c.in-Some.ensures.value session some))
          (popped_rest l.sessions.items (vec_len l.sessions) l.sessions.ok.0 c.pop.new.self.items c.in-Some.ensures.rest) c.retire_session.ensures.begins c.retire_session.ensures.made
          (sessions_same l.journal after next c.retire_session.ensures.journal);
    }
