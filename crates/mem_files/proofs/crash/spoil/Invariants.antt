use Rattle.std.proofs.Common.{◌≡◌, take}
use Rattle.disk_model.specs.State.{spans_of}
use Rattle.mem_files.specs.Crash.{is_hit, noise_over}
use Rattle.mem_files.proofs.crash.spoil.Given as goal

abbrev pub invariant-loop-change : goal.invariant-loop-change
invariant-loop-change l = l.image ≡ noise_over (is_hit (spans_of (take l.change-index l.changes)) l.key) l.key 0 l.initial.image
