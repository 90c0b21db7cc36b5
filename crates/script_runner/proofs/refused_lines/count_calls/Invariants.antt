use Rattle.std.proofs.Common.{◌≡◌, length, take}
use Rattle.run_acts.specs.ServedSteps.{calls_in}
use Rattle.script_runner.proofs.refused_lines.count_calls.Given as goal

abbrev pub invariant-loop-step : goal.invariant-loop-step
invariant-loop-step l = l.count ≡ length (calls_in l.app (take l.step-index l.steps))
