-- What the acts of a run tell of the objects.
use Rattle.std.specs.Prelude.{ℕ, List, [], ◌∷◌}
use Rattle.hmac_keys.specs.declared.Keys.{Keys}
use Rattle.hmac_keys.specs.KeyTable.{rpmb_key}
use Rattle.rpmb_host.specs.Honest.{HadCard}
use Rattle.script_text.specs.declared.script.Arm.TheVariants.{Taint}
use Rattle.script_text.specs.declared.script.Control.TheVariants.{Arm as ArmControl, Flip, Restore}
use Rattle.store_model.specs.ReplayState.{ReplayState}
use Rattle.run_acts.specs.Benches.{BenchState}
use Rattle.run_acts.specs.Left.{AreLeft, HoldsLeft, replay_left}
use Rattle.run_acts.specs.Untainted.{AreUntainted}
use Rattle.script_runner.specs.Text.{Act, Do, Listed, Ran, ActOutcome}

-- the act puts no file back, and lays no mask over one, at once or in a phase; it may save the files
abbrev pub AltersNothing : Act → Type 0
AltersNothing (Do (ArmControl (Taint file call at mask))) = ⊥
AltersNothing (Do (Restore file mark)) = ⊥
AltersNothing (Do (Flip file at mask)) = ⊥
AltersNothing act = Unit {0}

-- so each of these acts
abbrev pub AlterNothing : List Act → Type 0
AlterNothing [] = Unit {0}
AlterNothing (act ∷ acts) = AltersNothing act × AlterNothing acts

-- what is left behind these acts, where that was left before them: what the last phase left
abbrev pub left_behind : (applications : List (List ℕ)) → ReplayState → List ActOutcome → ReplayState
left_behind applications s [] = s
left_behind applications s (Ran phase ∷ outcomes) = left_behind applications (replay_left phase.opening applications phase.events) outcomes
left_behind applications s (outcome ∷ outcomes) = left_behind applications s outcomes

-- each phase opened with objects that the acts before it leave, and each list shows such
abbrev pub FindLeft : (applications : List (List ℕ)) → ReplayState → List ActOutcome → Type 0
FindLeft applications s [] = Unit {0}
FindLeft applications s (Ran phase ∷ outcomes) = AreLeft s phase.opening × FindLeft applications (replay_left phase.opening applications phase.events) outcomes
FindLeft applications s (Listed objects ∷ outcomes) = AreLeft s objects × FindLeft applications s outcomes
FindLeft applications s (outcome ∷ outcomes) = FindLeft applications s outcomes

-- The bench holds that, none of its files is tainted, and its port tells a card with the key.
pub record HoldsUntainted (keys : Keys) (bench : BenchState) (s : ReplayState) : Type 0 where
  pub files : AreUntainted bench.files
  pub holds : HoldsLeft keys bench s
  pub card : HadCard bench.card (rpmb_key keys.huk)
