-- Freshness over the course of a run: each mount and each list beside the bench that was closed last.
use Rattle.std.specs.Prelude.{ℕ, ◌≡◌, List, [], ◌∷◌, Option, Some, None}
use Rattle.disk_model.specs.State.{FileState}
use Rattle.hmac_keys.specs.declared.Keys.{Keys}
use Rattle.hmac_keys.specs.KeyTable.{rpmb_key}
use Rattle.tee_types.specs.Limits.{directory_file}
use Rattle.rpmb_card.specs.Card.{CardState}
use Rattle.rpmb_card.specs.Port.{PortState}
use Rattle.rpmb_host.specs.Honest.{HasCard}
use Rattle.object_calls.specs.Opening.{OpeningValue}
use Rattle.run_acts.specs.Benches.{BenchState}
use Rattle.run_acts.specs.Between.{AreSound}
use Rattle.run_acts.specs.Lines.{objects_text}
use Rattle.run_acts.specs.ListedBenches.{ListsBench}
use Rattle.run_acts.specs.ListedObjects.{ShownStep}
use Rattle.run_acts.specs.Phases.{RunsPhase}
use Rattle.script_runner.specs.Course.{AreActs}
use Rattle.script_runner.specs.Records.{EachAct, RunRecord, outcomes_in}
use Rattle.script_runner.specs.SavedFiles.{Standing}
use Rattle.script_runner.specs.Text.{Act, ActOutcome, Do, Listed, Ran, Serve, stop_of}
use Rattle.run_freshness.specs.Seen.{HasSameEntries, IsFreshMount}
use Rattle.run_freshness.specs.Shown.{IsFreshList}
use Rattle.run_freshness.specs.Laws.{KeepsCard}
use Rattle.run_freshness.specs.Taken.{BeginsSince}

-- the card is that of the bench that was closed last, if one was, whose files are sound
abbrev pub HasItsCard : (closed : Option BenchState) → BenchState → Type 0
HasItsCard None bench = Unit {0}
HasItsCard (Some closed) bench = KeepsCard closed bench × AreSound closed.files

-- the bench that was closed last behind an act: a phase closes one, and a list closes none
abbrev pub closed_by : (closed : Option BenchState) → ActOutcome → (behind : Standing) → Option BenchState
closed_by closed (Ran phase) behind = Some behind.bench
closed_by closed outcome behind = closed

-- so behind these acts
abbrev pub closed_in : (closed : Option BenchState) → List RunRecord → Option BenchState
closed_in closed [] = closed
closed_in closed (r ∷ records) = closed_in (closed_by closed r.outcome r.behind) records

module _ {F R : Type 0} (of_file : F → FileState) (of_port : R → PortState) where
  -- A mount is fresh beside the bench that was closed last, if one was, over a card that has the key; and its directory has the entries of that bench's.
  abbrev pub IsFreshSince : Keys → (closed : Option BenchState) → (dir : FileState) → OpeningValue F R → Type 0
  IsFreshSince keys None dir o = Unit {0}
  IsFreshSince keys (Some closed) dir o =
      (card : CardState) → HasCard closed.card (rpmb_key keys.huk) card → IsFreshMount of_file of_port keys closed card dir o × HasSameEntries of_file of_port keys closed card dir o

  -- so is what a list shows
  abbrev pub IsListedSince : Keys → (closed : Option BenchState) → (dir : FileState) → OpeningValue F R → List ShownStep → Type 0
  IsListedSince keys None dir o steps = Unit {0}
  IsListedSince keys (Some closed) dir o steps =
      (card : CardState) → HasCard closed.card (rpmb_key keys.huk) card → IsFreshList of_file of_port keys closed card dir o steps × HasSameEntries of_file of_port keys closed card dir o

  module _ (Reliable : Type 0) (keys : Keys) (applications : List (List ℕ)) where
    -- Fresh is the mount of a phase that was run, and so it begins; and a list that was done. Other acts show nothing.
    abbrev pub IsFreshAct : (closed : Option BenchState) → Act → ActOutcome → (before behind : Standing) → Type 0
    IsFreshAct closed (Serve mode calls) (Ran phase) before behind =
        (runs : RunsPhase of_file of_port Reliable keys applications before.quotas before.arms mode calls before.bench behind.bench phase.opening phase.events phase.refused)
        × IsFreshSince keys closed ((before.bench).files directory_file) runs.opened × BeginsSince of_file of_port Reliable closed runs
    IsFreshAct closed (Do control) (Listed objects) before behind =
        (lists : ListsBench of_file of_port keys before.bench behind.bench objects (objects_text objects))
        × IsListedSince keys closed ((before.bench).files directory_file) lists.opened ((lists.shows).listed).steps
    IsFreshAct closed act outcome before behind = Unit {0}

    -- So is each of these acts, beside the bench that was closed last. The card is that bench's in front of each act, and at the end where no act
    -- stopped the run.
    pub record AreFresh (closed : Option BenchState) (records : List RunRecord) (given : BenchState) : Type 0 where
      pub each : EachAct (λ done r. HasItsCard (closed_in closed done) (r.before).bench × IsFreshAct (closed_in closed done) r.act r.outcome r.before r.behind) [] records
      pub last : stop_of (outcomes_in records) ≡ None → HasItsCard (closed_in closed records) given

  -- Whatever a bench goes through, also where its files are put back as they were saved, and where masks are laid over them.
  abbrev pub CoursesAreFresh : (image : FileState → ℕ → ℕ → List ℕ) (Reliable : Type 0) → Type 0
  CoursesAreFresh image Reliable =
      (keys : Keys) (applications : List (List ℕ)) (closed : Option BenchState) (drew draws : ℕ) (records : List RunRecord) (old new : Standing)
      → HasItsCard closed old.bench → AreActs of_file of_port image Reliable keys applications drew draws records old new → AreFresh Reliable keys applications closed records new.bench
