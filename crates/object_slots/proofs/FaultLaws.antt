-- What a slot answers for a fault of a tree, and why.
use Rattle.std.proofs.Common.{◌≡◌, ℕ, Bool, Result, Ok, Err, IfErr, subst}
use Rattle.disk_model.specs.Faults.{Rose}
use Rattle.disk_model.specs.State.{FileState}
use Rattle.disk_model.specs.Calls.{GoesOn}
use Rattle.htree_file.specs.declared.fault.TreeFault.{TreeFault}
use Rattle.htree_file.specs.declared.fault.TreeFault.TheVariants.{BadHead, BadTag, Damaged, Failed as TreeFailed, NoEntropy as TreeNoEntropy, NoMemory as TreeNoMemory, Short}
use Rattle.htree_file.specs.Answers.{FaultCause as TreeCause, FileFailed, FilePassed}
use Rattle.htree_file.specs.Making.{DrawFault as TreeDraw, HasCauses as HasTreeCauses, NotEntropy}
use Rattle.htree_file.proofs.Causes.{passed_then}
use Rattle.block_file.specs.Reads.{BlocksAnswer, IsChangeFault, IsReadFault}
use Rattle.store_model.specs.Object.{Contents}
use Rattle.object_file.specs.Corrupt.{CorruptAnswer as TreeCorrupt}
use Rattle.object_slots.specs.declared.fault.SlotFault.{SlotFault}
use Rattle.object_slots.specs.declared.fault.SlotFault.TheVariants.{Corrupt, Failed, NoEntropy, NoMemory}
use Rattle.object_slots.specs.SlotFaults.{DrawFault, FaultCause, HasCause, HasCauses, IsFileFault, NotDrawn, slot_fault}
use Rattle.object_slots.specs.SlotReads.{CorruptAnswer, ReadFault}
use Rattle.object_slots.specs.SlotValues.{HeldObject}

-- the cause of a tree's fault is the slot's
pub fault_cause : (old new : FileState) (fault : TreeFault) → TreeCause old new fault → FaultCause old new (slot_fault fault)
fault_cause old new (TreeFailed count) cause = cause
fault_cause old new (TreeNoEntropy count) cause = cause
fault_cause old new TreeNoMemory cause = cause
fault_cause old new (BadHead long greatest) cause = cause
fault_cause old new (Short end need) cause = cause
fault_cause old new (Damaged n want found) cause = cause
fault_cause old new (BadTag k want found) cause = cause

pub draw_fault : (drew draws : ℕ) (fault : TreeFault) → TreeDraw drew draws fault → DrawFault drew draws (slot_fault fault)
draw_fault drew draws (TreeFailed count) drawn = drawn
draw_fault drew draws (TreeNoEntropy count) drawn = drawn
draw_fault drew draws TreeNoMemory drawn = drawn
draw_fault drew draws (BadHead long greatest) drawn = drawn
draw_fault drew draws (Short end need) drawn = drawn
draw_fault drew draws (Damaged n want found) drawn = drawn
draw_fault drew draws (BadTag k want found) drawn = drawn

pub not_drawn : (fault : TreeFault) → NotEntropy fault → NotDrawn (slot_fault fault)
not_drawn (TreeFailed count) not = tt
not_drawn (TreeNoEntropy count) not = absurd not
not_drawn TreeNoMemory not = tt
not_drawn (BadHead long greatest) not = tt
not_drawn (Short end need) not = tt
not_drawn (Damaged n want found) not = tt
not_drawn (BadTag k want found) not = tt

-- a read can answer no more than a change
pub read_change : (fault : TreeFault) → IsReadFault fault → IsChangeFault fault
read_change (TreeFailed count) kind = tt
read_change (TreeNoEntropy count) kind = absurd kind
read_change TreeNoMemory kind = absurd kind
read_change (BadHead long greatest) kind = absurd kind
read_change (Short end need) kind = absurd kind
read_change (Damaged n want found) kind = absurd kind
read_change (BadTag k want found) kind = tt

-- a bad tag is a bad block; where a draw failed none of those that were asked is bad
pub corrupt_fault : (c : Contents) (asked : ℕ → Bool) (A B : Type 0) (fault : TreeFault) → IsChangeFault fault → TreeCorrupt c asked {A = A} (Err fault) → CorruptAnswer {A = B} c asked (Err (slot_fault fault))
corrupt_fault c asked A B (TreeFailed count) kind was = tt
corrupt_fault c asked A B (TreeNoEntropy count) kind was = was
corrupt_fault c asked A B TreeNoMemory kind was = tt
corrupt_fault c asked A B (BadHead long greatest) kind was = absurd kind
corrupt_fault c asked A B (Short end need) kind was = absurd kind
corrupt_fault c asked A B (Damaged n want found) kind was = absurd kind
corrupt_fault c asked A B (BadTag k want found) kind was = was

pub read_fault : (old new : FileState) (o : HeldObject) (asked : ℕ → Bool) (A : Type 0) (fault : TreeFault) → IsReadFault fault
    → BlocksAnswer o.tree.key o.tree.tree old new asked {A = A} (Err fault) → ReadFault old new o asked (slot_fault fault)
read_fault old new o asked A (TreeFailed count) kind answer = tt
read_fault old new o asked A (TreeNoEntropy count) kind answer = absurd kind
read_fault old new o asked A TreeNoMemory kind answer = absurd kind
read_fault old new o asked A (BadHead long greatest) kind answer = absurd kind
read_fault old new o asked A (Short end need) kind answer = absurd kind
read_fault old new o asked A (Damaged n want found) kind answer = absurd kind
read_fault old new o asked A (BadTag k want found) kind answer = record { block = k; want = want; found = found; bad = answer }

-- a call of the file that failed after others that did not
failed_then : (a b c : FileState) (count : ℕ) → GoesOn a b → FilePassed a b → FileFailed b c count → FileFailed a c count
failed_then a b c count goes passed failed = record {
  rose = subst (λ (n : ℕ). Rose n c.faults) passed.faults failed.rose;
  carried = failed.carried;
  calm = λ calm. subst (λ (n : ℕ). Rose n c.starved) passed.starved (failed.calm (goes.calm calm));
}

pub fault_then : (a b c : FileState) (fault : SlotFault) → GoesOn a b → FilePassed a b → FaultCause b c fault → FaultCause a c fault
fault_then a b c (Failed count) goes passed cause = failed_then a b c count goes passed cause
fault_then a b c Corrupt goes passed cause = passed_then a b c passed cause
fault_then a b c (NoEntropy count) goes passed cause = passed_then a b c passed cause
fault_then a b c NoMemory goes passed cause = passed_then a b c passed cause

pub cause_then : (a b c : FileState) (A : Type 0) (result : Result A SlotFault) → GoesOn a b → FilePassed a b → HasCause b c result → HasCause a c result
cause_then a b c A (Ok answer) goes passed cause = passed_then a b c passed cause
cause_then a b c A (Err fault) goes passed cause = fault_then a b c fault goes passed cause

-- a fault of the file is no fault of a draw
pub file_drawn : (drew draws : ℕ) (fault : SlotFault) → IsFileFault fault → draws ≡ drew → DrawFault drew draws fault
file_drawn drew draws (Failed count) kind same = same
file_drawn drew draws Corrupt kind same = absurd kind
file_drawn drew draws (NoEntropy count) kind same = absurd kind
file_drawn drew draws NoMemory kind same = absurd kind

pub file_not_drawn : (fault : SlotFault) → IsFileFault fault → NotDrawn fault
file_not_drawn (Failed count) kind = tt
file_not_drawn Corrupt kind = absurd kind
file_not_drawn (NoEntropy count) kind = absurd kind
file_not_drawn NoMemory kind = absurd kind

module _ (drew draws : ℕ) (Was Is : Type 0) (Kind : TreeFault → Type 0) where
  -- the causes of a refusal of the tree
  pub causes_refused : (old new : FileState) (A B : Type 0) (fault : TreeFault) → HasTreeCauses Kind old new drew draws Was Is {A = A} (Err fault)
      → HasCauses old new drew draws Was Is {A = B} (Err (slot_fault fault))
  causes_refused old new A B fault causes = record {
    file = fault_cause old new fault causes.file;
    drawn = draw_fault drew draws fault causes.drawn;
    lasts = causes.lasts;
    reliable = λ was. not_drawn fault (causes.reliable was);
  }

  -- those of a call of the file alone, after calls that succeeded
  pub causes_then : (a b c : FileState) (A B : Type 0) (answer : A) (result : Result B SlotFault) → GoesOn a b → HasTreeCauses Kind a b drew draws Was Is {A = A} (Ok answer)
      → HasCause b c result → IfErr result IsFileFault → HasCauses a c drew draws Was Is result
  causes_then a b c A B answer (Ok done) goes causes cause kind = record {
    file = passed_then a b c causes.file cause;
    drawn = causes.drawn;
    lasts = causes.lasts;
    reliable = λ was. tt;
  }
  causes_then a b c A B answer (Err fault) goes causes cause kind = record {
    file = fault_then a b c fault goes causes.file cause;
    drawn = file_drawn drew draws fault kind causes.drawn;
    lasts = causes.lasts;
    reliable = λ was. file_not_drawn fault kind;
  }
