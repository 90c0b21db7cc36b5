-- A phase that finished, as one tamper scenario has it.
use Rattle.std.specs.Prelude.{◌≡◌, ◌⊎◌, ℕ, List, Option, Some, Contains}
use Rattle.tee_types.specs.Limits.{directory_file}
use Rattle.rpmb_card.specs.Card.{CardState}
use Rattle.history_seats.specs.Views.{GateView}
use Rattle.crash_core.specs.Pictures.{IsPictureOf, Picture}
use Rattle.crash_core.specs.CoreState.{IsTrusted}
use Rattle.core_laws.specs.SlotParts.{SlotPart}
use Rattle.core_laws.specs.Answered.{AreAnswered, AreOwnLegal, IsEnded, IsFairHistory}
use Rattle.core_laws.specs.TamperScenarios.{TamperScenario}
use Rattle.core_laws.specs.Mapped.{IsMappedBoth}
use Rattle.core_laws.specs.Stores.{Store, replay_at}
use Rattle.core_laws.specs.Ties.{IsTied}
use Rattle.crash_core.specs.declared.change.DoubtedChange.{DoubtedChange}
use Rattle.store_commit.specs.Sides.{Sides}
use Rattle.commit_gate.specs.FinishedPhases.{phase_under}
use Rattle.commit_gate.specs.ClosedStores.{AreSlotsOf, MountsBy, SupposesTampered, store_files}
use Rattle.commit_gate.specs.Resting.{IsGateOf}

-- The gate and the slots are at rest, the history is fair, and the tamper scenario has all files as not honest that are not.
pub record HasFinished (store : Store) (scenario : TamperScenario) (g : Sides) (doubt : Option DoubtedChange) (holds : List (Option ℕ)) (card : CardState) (view : GateView) (slots : ℕ → SlotPart) : Type 0 where
  pub gate : IsGateOf store g doubt holds card
  pub tied : IsTied store view g.dir.entries g.counter doubt
  pub mounted : view.mounted ≡ Some store.mounted
  pub fair : IsFairHistory store view.all
  pub in_step : AreAnswered store scenario view.all → IsMappedBoth store scenario view.decided view.all
  pub slots_hold : AreSlotsOf store view slots
  pub tampered : SupposesTampered scenario (store_files g slots)
  -- the events of each other file are legal by themselves
  pub own_legal : (file : ℕ) → Contains scenario.tampered file ⊎ AreOwnLegal store scenario file view.all

-- every picture of its files and its card mounts to the map that the history leaves, or to that with the commit in
-- doubt, where one is
abbrev pub PicturesMount : Store → TamperScenario → Sides → Option DoubtedChange → CardState → GateView → (slots : ℕ → SlotPart) → Type 0
PicturesMount store scenario g doubt card view slots =
    (picture : Picture) → IsPictureOf (store_files g slots) card picture → IsTrusted (phase_under store scenario) directory_file
    → MountsBy doubt (phase_under store scenario) picture (replay_at store scenario view.all)

-- So they do, or the promises end at a first event under the tamper scenario.
abbrev pub FinishedPhasesMount : Type 0
FinishedPhasesMount =
    (store : Store) (scenario : TamperScenario) (g : Sides) (doubt : Option DoubtedChange) (holds : List (Option ℕ)) (card : CardState) (view : GateView) (slots : ℕ → SlotPart)
    → HasFinished store scenario g doubt holds card view slots
    → (AreAnswered store scenario view.all × PicturesMount store scenario g doubt card view slots) ⊎ IsEnded store scenario view.all
