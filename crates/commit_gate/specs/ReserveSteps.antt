-- A file that a session comes to hold, or holds no longer, as steps of the core machine.
use Rattle.std.specs.Prelude.{◌≡◌, ℕ, List, slice_set, Option, Some, None}
use Rattle.rpmb_card.specs.Card.{CardState}
use Rattle.history_seats.specs.Views.{GateView}
use Rattle.core_laws.specs.GateSteps.{Handed}
use Rattle.core_laws.specs.TamperScenarios.{TamperScenario}
use Rattle.core_laws.specs.Stores.{Store}
use Rattle.crash_core.specs.declared.change.DoubtedChange.{DoubtedChange}
use Rattle.store_commit.specs.Gates.{file_in_doubt}
use Rattle.store_commit.specs.Holds.{AreApart, AreHolds, IsFreeFile, file_held}
use Rattle.store_commit.specs.Sides.{Sides}
use Rattle.commit_gate.specs.Resting.{IsGateOf, StepsTo, resting_part}

-- A session that holds no file comes to hold a free one.
pub record IsReserved (g : Sides) (doubt : Option DoubtedChange) (before after : List (Option ℕ)) (session file : ℕ) : Type 0 where
  pub idle : file_held before session ≡ None
  pub free : IsFreeFile g.dir.entries before file
  pub undoubted : AreApart (Some file) (file_in_doubt doubt)
  pub is : after ≡ slice_set before session (Some file)
  pub takes : file_held after session ≡ Some file
  pub held : AreHolds g.dir.entries after

-- A session's hold ends, if it has one; it is not on the file that a commit in doubt puts.
pub record IsReleased (g : Sides) (doubt : Option DoubtedChange) (before after : List (Option ℕ)) (session : ℕ) : Type 0 where
  pub undoubted : AreApart (file_held before session) (file_in_doubt doubt)
  pub is : after ≡ slice_set before session None
  pub held : AreHolds g.dir.entries after

-- Each leads from one part at rest to the next.
abbrev pub ReservesAreSteps : Type 0
ReservesAreSteps =
    (store : Store) (scenario : TamperScenario) (handed : Option Handed) (g : Sides) (doubt : Option DoubtedChange) (before after : List (Option ℕ)) (session file : ℕ) (card : CardState) (view : GateView)
    → IsGateOf store g doubt before card → IsReserved g doubt before after session file → StepsTo store scenario handed (resting_part store scenario g doubt before card view) g doubt after view

abbrev pub ReleasesAreSteps : Type 0
ReleasesAreSteps =
    (store : Store) (scenario : TamperScenario) (handed : Option Handed) (g : Sides) (doubt : Option DoubtedChange) (before after : List (Option ℕ)) (session : ℕ) (card : CardState) (view : GateView)
    → IsGateOf store g doubt before card → IsReleased g doubt before after session → StepsTo store scenario handed (resting_part store scenario g doubt before card view) g doubt after view
