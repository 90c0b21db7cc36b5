-- What the history of a phase leaves, and a bench that holds it.
use Rattle.std.specs.Prelude.{◌≡◌, ◌⊎◌, ℕ, List, None, Some}
use Rattle.hmac_keys.specs.declared.Keys.{Keys}
use Rattle.hmac_keys.specs.KeyTable.{rpmb_key}
use Rattle.rpmb_card.specs.Card.{CardState}
use Rattle.rpmb_host.specs.Honest.{HasCard}
use Rattle.store_model.specs.declared.event.Event.{Event}
use Rattle.store_model.specs.Commits.{with_doubt}
use Rattle.store_model.specs.Object.{ObjectMap}
use Rattle.store_model.specs.Record.{untagged}
use Rattle.store_model.specs.ReplayState.{ReplayState, opening, replay}
use Rattle.crash_core.specs.Pictures.{IsPictureOf, Picture}
use Rattle.object_calls.specs.FinishedPhase.{AreAllHonest, IsMapLeft}
use Rattle.object_calls.specs.OldStores.{HasNoOldFile}
use Rattle.run_acts.specs.Benches.{BenchState}

-- where these events leave a phase that opened with these objects, with a session for each application
abbrev pub replay_left : (objects : ObjectMap) → (applications : List (List ℕ)) → List Event → ReplayState
replay_left objects applications events =
    replay (opening (record { objects = objects; files = λ name. None; applications = applications; counter = 0 })) (untagged events)

-- The objects are those of that standing, or those with its commit in doubt.
abbrev pub AreLeft : ReplayState → ObjectMap → Type 0
AreLeft s objects = (objects ≡ (s.state).objects) ⊎ (with_doubt s ≡ Some objects)

-- Every file is honest, every picture that a crash may leave of the bench mounts to objects that are left, and none has a file of the old
-- format.
pub record HoldsLeft (keys : Keys) (bench : BenchState) (s : ReplayState) : Type 0 where
  pub honest : AreAllHonest bench.files
  pub mounts : (card : CardState) (picture : Picture) → HasCard bench.card (rpmb_key keys.huk) card → IsPictureOf bench.files card picture → IsMapLeft keys picture s
  pub current : HasNoOldFile keys bench.files bench.card
