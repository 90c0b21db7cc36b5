use Rattle.std.proofs.Common.{◌≡◌, ◌+◌, drop}
use Rattle.std.specs.List.{prefix_len}
use Rattle.script_text.specs.Script.{is_call}
use Rattle.script_runner.proofs.phase_act.calls_length.Given as goal

abbrev pub invariant-loop-i : goal.invariant-loop-i
invariant-loop-i l = prefix_len is_call l.steps ≡ l.i + prefix_len is_call (drop l.i l.steps)
