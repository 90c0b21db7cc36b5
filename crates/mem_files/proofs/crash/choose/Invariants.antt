use Rattle.std.proofs.Common.{◌/◌, take}
use Rattle.disk_model.specs.Images.{in_spans}
use Rattle.disk_model.specs.State.{spans_of}
use Rattle.mem_files.specs.Crash.{coin}
use Rattle.mem_files.specs.Choices.{Chooses}
use Rattle.mem_files.proofs.crash.choose.Given as goal

abbrev pub invariant-loop-change : goal.invariant-loop-change
invariant-loop-change l =
    Chooses (in_spans (spans_of (take l.change-index l.changes))) (λ place. coin l.key (place / l.unit))
    l.initial.settled l.initial.bytes l.settled l.bytes
