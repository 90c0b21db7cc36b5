use Rattle.std.proofs.Common.{◌≡◌, ◌+◌, ◌^◌, ◌≤◌, ◌&&◌, max}
use Rattle.disk_model.specs.Images.{sector}
use Rattle.mem_files.specs.Crash.{coin, noise_over}
use Rattle.mem_files.proofs.Spoilings.{ranged}
use Rattle.mem_files.proofs.crash.spoil_sectors.Given as goal

abbrev pub invariant-loop-number : goal.invariant-loop-number
invariant-loop-number l = record {
  spoiled : l.image ≡ noise_over (λ place. coin l.key (2 ^ 32 + sector place) && ranged l.from l.number (sector place)) l.key 0 l.initial.image;
  within : l.number ≤ max l.from l.upto;
}
