-- From the ties that a gate has whatever the files are to what holds of it under a tamper scenario.
use Rattle.std.specs.Prelude.{◌≡◌, ℕ, List, Option, Some}
use Rattle.dir_records.specs.declared.entry.DirEntry.{DirEntry}
use Rattle.history_seats.specs.Views.{GateView}
use Rattle.core_laws.specs.Answered.{AreAnswered}
use Rattle.core_laws.specs.TamperScenarios.{TamperScenario}
use Rattle.core_laws.specs.Mapped.{IsMappedBoth}
use Rattle.core_laws.specs.Stores.{Store}
use Rattle.core_laws.specs.Ties.{IsTied}
use Rattle.crash_core.specs.declared.change.DoubtedChange.{DoubtedChange}
use Rattle.commit_gate.specs.Readings.{IsTiedUnder}

-- So it is where the history is answered, and the map in step in both readings.
abbrev pub TiesTell : Type 0
TiesTell =
    (store : Store) (scenario : TamperScenario) (view : GateView) (entries : List (Option DirEntry)) (counter : ℕ) (doubt : Option DoubtedChange) → view.mounted ≡ Some store.mounted
    → IsTied store view entries counter doubt → AreAnswered store scenario view.all → IsMappedBoth store scenario view.decided view.all
    → IsTiedUnder store scenario view entries counter doubt
