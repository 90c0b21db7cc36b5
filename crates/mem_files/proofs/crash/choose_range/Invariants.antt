use Rattle.std.proofs.Common.{◌-◌, ◌/◌, ◌≤◌}
use Rattle.mem_files.specs.Crash.{coin}
use Rattle.mem_files.specs.Choices.{Chooses}
use Rattle.mem_files.proofs.Spoilings.{ranged}
use Rattle.mem_files.proofs.crash.choose_range.Given as goal

abbrev pub invariant-loop-at : goal.invariant-loop-at
invariant-loop-at l = record {
  chosen : Chooses (ranged l.from l.at) (λ place. coin l.key (place / l.unit)) l.initial.settled l.initial.bytes l.settled l.bytes;
  after : l.from ≤ l.at;
  within : l.at ≤ l.upto;
}

abbrev pub decreases-loop-at : goal.decreases-loop-at
decreases-loop-at l = l.upto - l.at
