-- How a commit in doubt is resolved, as steps of the core machine.
use Rattle.std.specs.Prelude.{◌≡◌, ℕ, List, Option, Some, None, Result, Ok, Err}
use Rattle.tee_types.specs.declared.reply.Cause.{Cause}
use Rattle.rpmb_card.specs.Card.{CardState}
use Rattle.history_seats.specs.Views.{GateView}
use Rattle.history_seats.specs.Changes.{doubt_dropped, landing_of, with_record}
use Rattle.core_laws.specs.GateSteps.{Handed}
use Rattle.core_laws.specs.TamperScenarios.{TamperScenario}
use Rattle.core_laws.specs.Stores.{Store}
use Rattle.crash_core.specs.declared.change.DoubtedChange.{DoubtedChange}
use Rattle.store_commit.specs.declared.resolve.Resolved.{Resolved}
use Rattle.store_commit.specs.declared.resolve.Resolved.TheVariants.{Landed, Dropped}
use Rattle.store_commit.specs.Holds.{AreHolds}
use Rattle.store_commit.specs.Resolving.{Resolves, ResolvesHolds, TellsCounter}
use Rattle.store_commit.specs.Sides.{Sides}
use Rattle.commit_gate.specs.Readings.{IsDoubtRead}
use Rattle.commit_gate.specs.Resting.{IsGateOf, StepsTo, resting_part}

-- the doubt that is left, and what the gate's seat then knows
abbrev pub doubt_resolved : DoubtedChange → Result Resolved Cause → Option DoubtedChange
doubt_resolved d (Ok how) = None
doubt_resolved d (Err cause) = Some d

abbrev pub view_resolved : Result Resolved Cause → GateView → GateView
view_resolved (Ok (Landed n)) view = with_record (landing_of n) view
view_resolved (Ok (Dropped n)) view = doubt_dropped view
view_resolved (Err cause) view = view

-- What resolving leaves.
pub record IsResolved (old new : Sides) (d : DoubtedChange) (result : Result Resolved Cause) (before after : List (Option ℕ)) : Type 0 where
  pub resolves : Resolves old new d result
  pub file : new.file ≡ old.file
  pub key : new.key ≡ old.key
  pub card : new.port.card ≡ old.port.card
  pub counter : TellsCounter old.key old.counter old.port result
  pub ends : ResolvesHolds d result before after
  pub held : AreHolds new.dir.entries after

-- It leads from one part at rest to the next: a landing is appended, or the commit is dropped, or nothing is known.
abbrev pub ResolvesAreSteps : Type 0
ResolvesAreSteps =
    (store : Store) (scenario : TamperScenario) (handed : Option Handed) (old new : Sides) (d : DoubtedChange) (result : Result Resolved Cause) (before after : List (Option ℕ)) (card : CardState) (view : GateView)
    → IsGateOf store old (Some d) before card → IsDoubtRead store scenario view old.dir.entries d → IsResolved old new d result before after
    → StepsTo store scenario handed (resting_part store scenario old (Some d) before card view) new (doubt_resolved d result) after (view_resolved result view)
