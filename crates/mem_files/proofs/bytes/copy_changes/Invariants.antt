use Rattle.std.proofs.Common.{◌≡◌, ℕ, ◌<◌, length, slice_index, take, true, false}
use Rattle.disk_model.specs.Images.{in_spans}
use Rattle.disk_model.specs.State.{spans_of}
use Rattle.mem_files.proofs.bytes.copy_changes.Given as goal

abbrev pub invariant-loop-change : goal.invariant-loop-change
invariant-loop-change l = record {
  inside : (p : ℕ) → p < length l.bytes → in_spans (spans_of (take l.change-index l.changes)) p ≡ true → slice_index l.settled p ≡ slice_index l.bytes p;
  outside : (p : ℕ) → in_spans (spans_of (take l.change-index l.changes)) p ≡ false → slice_index l.settled p ≡ slice_index l.initial.settled p;
}
