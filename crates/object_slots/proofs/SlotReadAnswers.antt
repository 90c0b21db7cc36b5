-- A read that is refused.
use Rattle.std.proofs.Common.{◌≡◌, ◌+◌, ℕ, List, length, drop, Err}
use Rattle.disk_model.specs.State.{FileState, Sound}
use Rattle.disk_model.specs.Calls.{Rests}
use Rattle.htree_file.specs.declared.fault.TreeFault.{TreeFault}
use Rattle.htree_file.specs.Answers.{FaultCause as TreeCause}
use Rattle.htree_file.specs.Opening.{IsVerified}
use Rattle.htree_file.specs.Standing.{Told}
use Rattle.page_bytes.specs.Ranges.{meets}
use Rattle.block_file.specs.Reads.{BlocksAnswer, IsReadFault}
use Rattle.store_model.specs.Data.{meets_block}
use Rattle.object_file.specs.Corrupt.{CorruptAnswer as TreeCorrupt}
use Rattle.object_file.specs.Held.{held_in}
use Rattle.object_slots.specs.SlotFaults.{slot_fault}
use Rattle.object_slots.specs.SlotReads.{ReadsObject, read_count}
use Rattle.object_slots.specs.SlotValues.{HeldObject}
use Rattle.object_slots.proofs.FaultLaws.{corrupt_fault, fault_cause, read_change, read_fault}
use Rattle.object_slots.proofs.StepLaws.{read_steps}

pub read_refused : (old new : FileState) (o : HeldObject) (at : ℕ) (before after : List ℕ) (fault : TreeFault) → IsReadFault fault
    → BlocksAnswer o.tree.key o.tree.tree old new (meets (4096 + at) (4096 + at + read_count o at (length before))) {A = ℕ} (Err fault)
    → (Told old new → TreeCorrupt (held_in o old.reads) (meets_block at (at + read_count o at (length before))) {A = ℕ} (Err fault))
    → drop (read_count o at (length before)) after ≡ drop (read_count o at (length before)) before → IsVerified o.tree.root o.tree.tree → Sound new → Rests old new → TreeCause old new fault
    → ReadsObject old new o at before after (Err (slot_fault fault))
read_refused old new o at before after fault kind blocks corrupt behind verified sound rests cause = record {
  count = tt;
  bytes = tt;
  refused = read_fault old new o (meets (4096 + at) (4096 + at + read_count o at (length before))) ℕ fault kind blocks;
  content = tt;
  corrupt = λ told. corrupt_fault (held_in o old.reads) (meets_block at (at + read_count o at (length before))) ℕ ℕ fault (read_change fault kind) (corrupt told);
  behind = behind;
  verified = verified;
  rests = rests;
  cause = fault_cause old new fault cause;
  asks = tt;
  steps = read_steps old new sound rests;
}
