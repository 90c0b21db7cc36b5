-- A file that is reserved for a session, or released, as steps of the core machine.
use Rattle.std.specs.Prelude.{◌≡◌, ℕ, Option, Some, None, slice_set}
use Rattle.disk_model.specs.State.{FileState}
use Rattle.rpmb_card.specs.Card.{CardState}
use Rattle.rpmb_card.specs.Port.{PortState}
use Rattle.core_laws.specs.GateSteps.{Handed}
use Rattle.core_laws.specs.TamperScenarios.{TamperScenario}
use Rattle.core_laws.specs.Stores.{Store}
use Rattle.commit_gate.specs.Gates.{file_in_doubt}
use Rattle.commit_gate.specs.Holds.{AreApart, IsLeastFreeFile, file_held}
use Rattle.commit_gate.specs.GuardedGates.{GuardedGateValue}
use Rattle.call_steps.specs.ServiceCores.{IsPart, StepsOn}

-- What `reserve_file` of a gate behind its lock asks and leaves.
pub record ReservesFile {F R : Type 0} (old new : GuardedGateValue F R) (session file : ℕ) : Type 0 where
  pub idle : file_held old.gate.holds session ≡ None
  pub free : IsLeastFreeFile old.gate.dir.dir.entries old.gate.holds file
  pub held : file_held new.gate.holds session ≡ Some file
  pub undoubted : AreApart (Some file) (file_in_doubt old.gate.doubt)
  pub same : new ≡ record old { gate = record old.gate { holds = slice_set old.gate.holds session (Some file) } }

-- What `release_file` does.
pub record ReleasesFile {F R : Type 0} (old new : GuardedGateValue F R) (session : ℕ) : Type 0 where
  pub undoubted : AreApart (file_held old.gate.holds session) (file_in_doubt old.gate.doubt)
  pub same : new ≡ record old { gate = record old.gate { holds = slice_set old.gate.holds session None } }

abbrev pub ReservedFilesAreSteps : (F R : Type 0) → Type 0
ReservedFilesAreSteps F R =
    (of_file : F → FileState) (of_port : R → PortState) (store : Store) (scenario : TamperScenario) (handed : Option Handed) (old new : GuardedGateValue F R) (card : CardState) (session file : ℕ)
    → IsPart of_file of_port store old card → ReservesFile old new session file → StepsOn of_file of_port store scenario handed old card new

abbrev pub ReleasedFilesAreSteps : (F R : Type 0) → Type 0
ReleasedFilesAreSteps F R =
    (of_file : F → FileState) (of_port : R → PortState) (store : Store) (scenario : TamperScenario) (handed : Option Handed) (old new : GuardedGateValue F R) (card : CardState) (session : ℕ)
    → IsPart of_file of_port store old card → ReleasesFile old new session → StepsOn of_file of_port store scenario handed old card new
