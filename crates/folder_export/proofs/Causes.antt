-- Why calls failed, one after another.
use Rattle.std.proofs.Common.{ℕ, refl, ◌∙◌, subst}
use Rattle.disk_model.specs.Faults.{Rose}
use Rattle.disk_model.specs.State.{FileState}
use Rattle.disk_model.specs.Calls.{GoesOn}
use Rattle.tee_ports.specs.Files.{Passes}
use Rattle.folder_export.specs.declared.fault.FilePlace.{FilePlace}
use Rattle.folder_export.specs.declared.fault.FilePlace.TheVariants.{Bench, Folder}
use Rattle.folder_export.specs.Copies.{FileFailed, OneFailed}

pub passes_none : (s : FileState) → Passes s s
passes_none s = record { faults = refl; starved = refl }

pub passes_then : (a b c : FileState) → Passes a b → Passes b c → Passes a c
passes_then a b c first second = record { faults = second.faults ∙ first.faults; starved = second.starved ∙ first.starved }

pub failed_then : (a b c : FileState) (count : ℕ) → GoesOn a b → Passes a b → FileFailed b c count → FileFailed a c count
failed_then a b c count goes passed failed = record {
  rose = subst (λ (n : ℕ). Rose n c.faults) passed.faults failed.rose;
  carried = failed.carried;
  calm = λ calm. subst (λ (n : ℕ). Rose n c.starved) passed.starved (failed.calm (goes.calm calm));
}

-- a fault behind calls that passed
pub one_failed_then : (place : FilePlace) (count number : ℕ) (a b c x y z : FileState) → GoesOn a b → Passes a b → GoesOn x y → Passes x y
    → OneFailed place count number b c y z → OneFailed place count number a c x z
one_failed_then (Bench k) count number a b c x y z from_goes from_passed to_goes to_passed failed =
    (failed.0, failed_then a b c count from_goes from_passed failed.1, passes_then x y z to_passed failed.2)
one_failed_then (Folder k) count number a b c x y z from_goes from_passed to_goes to_passed failed =
    (failed.0, passes_then a b c from_passed failed.1, failed_then x y z count to_goes to_passed failed.2)
