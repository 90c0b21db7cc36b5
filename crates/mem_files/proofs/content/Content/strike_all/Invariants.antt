use Rattle.std.proofs.Common.{◌≡◌, take}
use Rattle.mem_files.specs.Contents.{stored_in, Rest}
use Rattle.mem_files.specs.Taints.{struck_by}
use Rattle.mem_files.proofs.content.Content.strike_all.Given as goal

abbrev pub invariant-loop-taint : goal.invariant-loop-taint
invariant-loop-taint l = record {
  struck : stored_in l.self ≡ struck_by (stored_in l.initial.self) (take l.taint-index l.taints) l.call;
  rest : Rest l.initial.self l.self;
}
