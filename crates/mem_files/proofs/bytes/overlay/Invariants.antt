use Rattle.std.proofs.Common.{◌≡◌, take}
use Rattle.disk_model.specs.Bytes.{overlaid}
use Rattle.mem_files.proofs.bytes.overlay.Given as goal

abbrev pub invariant-loop-i : goal.invariant-loop-i
invariant-loop-i l = l.bytes ≡ overlaid l.initial.bytes (take l.i l.mask)
