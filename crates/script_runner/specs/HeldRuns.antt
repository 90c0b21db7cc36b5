-- What each bench of a run holds, whether its store was found or formatted.
use Rattle.std.specs.Prelude.{ℕ, ◌≡◌, ◌⊎◌, List, [], ◌∷◌, None, Ok, Option, true}
use Rattle.disk_model.specs.State.{FileState}
use Rattle.hmac_keys.specs.declared.Keys.{Keys}
use Rattle.hmac_keys.specs.KeyTable.{rpmb_key}
use Rattle.rpmb_card.specs.Card.{CardState}
use Rattle.rpmb_card.specs.Port.{PortState}
use Rattle.rpmb_host.specs.Honest.{HasCard}
use Rattle.crash_core.specs.Pictures.{block_zero}
use Rattle.script_text.specs.Grammar.{script_of}
use Rattle.script_text.specs.Script.{ScriptValue}
use Rattle.store_model.specs.ReplayState.{ReplayState}
use Rattle.run_acts.specs.Benches.{BenchState, IsWhole}
use Rattle.run_acts.specs.declared.MountFault.TheVariants.{NoMemory}
use Rattle.run_acts.specs.Left.{replay_left}
use Rattle.run_acts.specs.Opens.{is_blank}
use Rattle.run_acts.specs.Untainted.{AreUntainted}
use Rattle.script_runner.specs.declared.status.Status.{Status}
use Rattle.script_runner.specs.RecordLaws.{AlterNothing, HoldsUntainted, left_behind}
use Rattle.script_runner.specs.Records.{EachBench, RunRecord, acts_in, outcomes_in}
use Rattle.script_runner.specs.RunCauses.{World}
use Rattle.script_runner.specs.Runs.{RunsSource}
use Rattle.script_runner.specs.Text.{Act, Refused, ActOutcome}
use Rattle.script_runner.specs.Trace.{applications_of}

-- Block 0 of its card is blank, none of its files is tainted, and its port tells the card, which has the key.
pub record IsBlankBench (keys : Keys) (bench : BenchState) : Type 0 where
  pub files : AreUntainted bench.files
  pub card : CardState
  pub has : HasCard bench.card (rpmb_key keys.huk) card
  pub blank : is_blank (block_zero card) ≡ true

-- It holds what `s` leaves; or it is blank, and `s` leaves no objects.
abbrev pub BeginsWith : Keys → (applications : List (List ℕ)) → BenchState → ReplayState → Type 0
BeginsWith keys applications bench s = HoldsUntainted keys bench s ⊎ (IsBlankBench keys bench × (s ≡ replay_left [] applications []))

-- behind an act it holds that, and before the first one it may be blank still
abbrev pub HoldsBehind : Keys → (applications : List (List ℕ)) → (done : List Act) → BenchState → ReplayState → Type 0
HoldsBehind keys applications [] bench s = BeginsWith keys applications bench s
HoldsBehind keys applications (act ∷ acts) bench s = HoldsUntainted keys bench s

-- no act was refused for want of memory
abbrev pub NoneStarved : List ActOutcome → Type 0
NoneStarved [] = Unit {0}
NoneStarved (Refused fault ∷ outcomes) = (fault ≡ NoMemory → ⊥) × NoneStarved outcomes
NoneStarved (outcome ∷ outcomes) = NoneStarved outcomes

-- a bench of a run holds what the acts down to there leave, as long as none of them altered a file, and none was refused for want of memory
abbrev pub HoldsLeftBehind : Keys → (applications : List (List ℕ)) → ReplayState → (done : List RunRecord) → BenchState → Type 0
HoldsLeftBehind keys applications s done bench =
    AlterNothing (acts_in done) → NoneStarved (outcomes_in done) → HoldsBehind keys applications (acts_in done) bench (left_behind applications s (outcomes_in done))

module _ {F R : Type 0} (of_file : F → FileState) (of_port : R → PortState) (image : FileState → ℕ → ℕ → List ℕ) (Reliable : Type 0) (w : World) where
  -- Each bench of a run that was opened does so: every picture of it mounts to that, whether the store was found or formatted, between any two
  -- acts and behind the last, also where that act was refused, but for want of memory.
  abbrev pub RunsHoldLeft : Type 0
  RunsHoldLeft =
      (left_old left_new held_old held_new : Option (List ℕ)) (drew draws : ℕ) (keys : Keys) (handed given : BenchState) (status : Status) (s : ReplayState) (script : ScriptValue)
      → (r : RunsSource of_file of_port image Reliable left_old left_new held_old held_new w drew draws keys handed given status)
      → BeginsWith keys (applications_of script) handed s → script_of (r.0).taken ≡ Ok script → (r.0).start ≡ None → IsWhole given
      → EachBench (HoldsLeftBehind keys (applications_of script) s) [] (r.0).records given
