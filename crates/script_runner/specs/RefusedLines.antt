-- The lines of the calls of a phase that were refused under its quotas.
use Rattle.std.specs.Prelude.{ℕ, ◌≡◌, ◌≤◌, List, [], ◌∷◌, ◌++◌, length, take, slice_get, Option, Some, None}
use Rattle.run_acts.specs.ServedSteps.{calls_in}
use Rattle.run_acts.specs.declared.refused_call.RefusedCall.{RefusedCall}
use Rattle.script_text.specs.declared.script.Step.{Step}
use Rattle.script_text.specs.declared.script.Step.TheVariants.{Call as CallStep, Control as ControlStep}
use Rattle.script_text.specs.Script.{ScriptValue}
use Rattle.script_text.specs.Text.{refused_call_line}
use Rattle.script_runner.specs.declared.refused_lines.CallCount.{CallCount}

-- the line of a step's call behind those steps, which was refused where so many events stood
abbrev pub step_line : ScriptValue → (place : ℕ) → (front : List Step) → Option Step → List ℕ
step_line script place front (Some (CallStep app call)) = refused_call_line script place app (length (calls_in app front)) call
step_line script place front (Some (ControlStep control)) = []
step_line script place front None = []

-- the lines of the refused calls of these steps
abbrev pub refused_lines : ScriptValue → List Step → List RefusedCall → List ℕ
refused_lines script steps [] = []
refused_lines script steps (r ∷ refused) = step_line script r.place (take r.step steps) (slice_get steps r.step) ++ refused_lines script steps refused

-- the count is that of the application's calls in front of a step
pub record IsCounted (steps : List Step) (count : CallCount) : Type 0 where
  pub within : count.step ≤ length steps
  pub calls : count.calls ≡ length (calls_in count.app (take count.step steps))
