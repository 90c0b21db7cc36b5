use Rattle.std.proofs.Common.{take}
use Rattle.run_acts.specs.ServedSteps.{calls_in}
use Rattle.run_acts.specs.OwnCalls.{HasMade}
use Rattle.run_acts.proofs.own_calls.make_own_calls.Given as goal

abbrev pub invariant-loop-step : goal.invariant-loop-step
invariant-loop-step g l = HasMade g.E.Entropy.is_reliable g.E.Entropy.faults g.L.StoreName.store l.initial.session l.session (calls_in l.initial.session.number (take l.step-index l.steps))
