use Rattle.kept_trials.proofs.Callers.{caller_behind, callers_with}
use Rattle.kept_trials.proofs.serving.make_call.Goals as goal

pub returns : goal.returns
returns g c =
    let called = c.call in
    record { callers = callers_with g.L.StoreName.store c.args.sessions.now 0 called.new.session c.requires.some c.requires.callers (caller_behind called.result.place called.ensures.answers) }
