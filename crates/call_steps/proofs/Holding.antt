-- Reserving and releasing keep the holds apart.
use Rattle.std.proofs.Common.{◌≡◌, ℕ, List, Option, Some, None, refl, sym, subst}
use Rattle.std.specs.Prelude.{slice_set}
use Rattle.commit_gate.specs.Gates.{gate_sides}
use Rattle.commit_gate.specs.Holds.{file_held}
use Rattle.commit_gate.proofs.HoldLists.{released, reserved}
use Rattle.commit_gate.proofs.ReserveSteps.{releases_are_steps, reserves_are_steps}
use Rattle.commit_gate.specs.GuardedGates.{GuardedGateValue}
use Rattle.call_steps.specs.FileHoldMoves.{ReleasedFilesAreSteps, ReservedFilesAreSteps}
use Rattle.call_steps.specs.ServiceCores.{StepsOn}

pub reserved_files_are_steps : (F R : Type 0) → ReservedFilesAreSteps F R
reserved_files_are_steps F R of_file of_port store scenario handed old new card session file p r =
    let after : List (Option ℕ) = slice_set old.gate.holds session (Some file) in
    subst (λ (n : GuardedGateValue F R). StepsOn of_file of_port store scenario handed old card n) (sym r.same)
    (reserves_are_steps store scenario handed (gate_sides of_file of_port old.gate) old.gate.doubt old.gate.holds after session file card old.journal.knows p.gate
    (record {
      idle = r.idle;
      free = r.free.free;
      undoubted = r.undoubted;
      is = refl;
      takes = subst (λ (n : GuardedGateValue F R). file_held n.gate.holds session ≡ Some file) r.same r.held;
      held = reserved old.gate.dir.dir.entries old.gate.holds session file r.free.free p.gate.held;
    }))

pub released_files_are_steps : (F R : Type 0) → ReleasedFilesAreSteps F R
released_files_are_steps F R of_file of_port store scenario handed old new card session p r =
    let after : List (Option ℕ) = slice_set old.gate.holds session None in
    subst (λ (n : GuardedGateValue F R). StepsOn of_file of_port store scenario handed old card n) (sym r.same)
    (releases_are_steps store scenario handed (gate_sides of_file of_port old.gate) old.gate.doubt old.gate.holds after session card old.journal.knows p.gate
    (record { undoubted = r.undoubted; is = refl; held = released old.gate.dir.dir.entries old.gate.holds session p.gate.held }))
