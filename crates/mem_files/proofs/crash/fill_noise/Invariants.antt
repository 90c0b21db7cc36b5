use Rattle.std.proofs.Common.{◌≡◌}
use Rattle.mem_files.specs.Crash.{noise_over}
use Rattle.mem_files.proofs.Spoilings.{ranged}
use Rattle.mem_files.proofs.crash.fill_noise.Given as goal

abbrev pub invariant-loop-i : goal.invariant-loop-i
invariant-loop-i l = l.image ≡ noise_over (ranged l.from l.i) l.key 0 l.initial.image
