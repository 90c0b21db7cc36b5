-- Runs of calls that change nothing, and the causes of their answers.
use Rattle.std.proofs.Common.{ℕ, ◌∙◌, subst, refl}
use Rattle.disk_model.specs.Faults.{Rose}
use Rattle.disk_model.specs.State.{FileState}
use Rattle.disk_model.specs.Calls.{GoesOn}
pub use Rattle.disk_model.proofs.Goings.{rests_none, rests_then}
use Rattle.disk_model.proofs.Goings.{then_known}
use Rattle.htree_file.specs.declared.fault.TreeFault.{TreeFault}
use Rattle.htree_file.specs.declared.fault.TreeFault.TheVariants.{BadHead, BadTag, Damaged, Failed, NoEntropy, NoMemory, Short}
use Rattle.htree_file.specs.Answers.{FaultCause, FileFailed, FilePassed}
use Rattle.htree_file.specs.Making.{IsDeviceFault, IsDrawFault}
use Rattle.htree_file.specs.Standing.{Told}

pub passed_none : (s : FileState) → FilePassed s s
passed_none s = record { faults = refl; starved = refl }

pub passed_then : (a b c : FileState) → FilePassed a b → FilePassed b c → FilePassed a c
passed_then a b c first second = record { faults = second.faults ∙ first.faults; starved = second.starved ∙ first.starved }

failed_then : (a b c : FileState) (count : ℕ) → GoesOn a b → FilePassed a b → FileFailed b c count → FileFailed a c count
failed_then a b c count goes passed failed = record {
  rose = subst (λ (n : ℕ). Rose n c.faults) passed.faults failed.rose;
  carried = failed.carried;
  calm = λ calm. subst (λ (n : ℕ). Rose n c.starved) passed.starved (failed.calm (goes.calm calm));
}

pub fault_then : (a b c : FileState) (fault : TreeFault) → GoesOn a b → FilePassed a b → FaultCause b c fault → FaultCause a c fault
fault_then a b c (Failed count) goes passed cause = failed_then a b c count goes passed cause
fault_then a b c (BadHead long greatest) goes passed cause = passed_then a b c passed cause
fault_then a b c (Short end need) goes passed cause = passed_then a b c passed cause
fault_then a b c (Damaged n want found) goes passed cause = passed_then a b c passed cause
fault_then a b c (BadTag k want found) goes passed cause = passed_then a b c passed cause
fault_then a b c (NoEntropy count) goes passed cause = passed_then a b c passed cause
fault_then a b c NoMemory goes passed cause = passed_then a b c passed cause

-- what is told and followed to the end is so at a point between, and from there
pub told_then : (a b c : FileState) → GoesOn a b → Told a c → Told b c
told_then a b c first told = (told.0, then_known a b c first told.1)

-- a draw that failed is no fault of the file
pub draw_cause : (s : FileState) (fault : TreeFault) → IsDrawFault fault → FaultCause s s fault
draw_cause s (NoEntropy count) drawn = passed_none s
draw_cause s (Failed count) drawn = absurd drawn
draw_cause s (BadHead long greatest) drawn = absurd drawn
draw_cause s (Short end need) drawn = absurd drawn
draw_cause s (Damaged n want found) drawn = absurd drawn
draw_cause s (BadTag k want found) drawn = absurd drawn
draw_cause s NoMemory drawn = absurd drawn

pub draw_device : (fault : TreeFault) → IsDrawFault fault → IsDeviceFault fault
draw_device (NoEntropy count) drawn = tt
draw_device (Failed count) drawn = absurd drawn
draw_device (BadHead long greatest) drawn = absurd drawn
draw_device (Short end need) drawn = absurd drawn
draw_device (Damaged n want found) drawn = absurd drawn
draw_device (BadTag k want found) drawn = absurd drawn
draw_device NoMemory drawn = absurd drawn
