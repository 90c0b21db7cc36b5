-- The script of a soak: eight applications, each of which makes the calls of a hundred rounds on a thread of its own.
use Rattle.std.specs.Prelude.{ℕ, ◌+◌, List, [], ◌∷◌, ◌++◌, codes, decimal, map, replicate}
use Rattle.tee_types.specs.declared.call.Call.{Call}
use Rattle.script_text.specs.declared.script.Control.TheVariants.{Mode as ModeControl}
use Rattle.script_text.specs.declared.script.Mode.TheVariants.{Threads}
use Rattle.script_text.specs.declared.script.Step.{Step}
use Rattle.script_text.specs.declared.script.Step.TheVariants.{Call as CallStep, Control as ControlStep}
use Rattle.script_text.specs.Script.{Declaration, ScriptValue}
use Rattle.seed_words.specs.Joined.{joined}
use Rattle.seed_words.specs.SoakWords.{words_of_round}
use Rattle.seed_words.specs.Rounds.{round_calls}

-- `a` and the application's number, from 0
abbrev pub soak_name : ℕ → List ℕ
soak_name app = codes "a" ++ decimal app

-- its UUID is the number from 1
abbrev pub soak_app : ℕ → Declaration
soak_app app = record { name = soak_name app; app = replicate 15 0 ++ (app + 1) ∷ [] }

-- the calls of an application
unfoldable pub app_calls : (number app : ℕ) → List Call
app_calls number app = joined (λ i. round_calls (words_of_round number app i) i) 100

-- its steps
abbrev pub app_steps : (number app : ℕ) → List Step
app_steps number app = map (CallStep app) (app_calls number app)

-- the calls of the soak, one application behind the other
abbrev pub soak_calls : ℕ → List Step
soak_calls number = joined (app_steps number) 8

-- the script: the mode first, then the calls
abbrev pub soak_script : ℕ → ScriptValue
soak_script number = record {
  applications = joined (λ app. soak_app app ∷ []) 8;
  steps = ControlStep (ModeControl Threads) ∷ soak_calls number;
}
