-- The calls of a phase as the steps of a script, and the events that they become.
use Rattle.std.specs.Prelude.{ℕ, ◌≡◌, ◌==◌, List, [], ◌∷◌, ◌++◌, if◌then◌else◌, true, All}
use Rattle.tee_types.specs.declared.call.Call.{Call}
use Rattle.store_model.specs.declared.event.Event.{Event}
use Rattle.store_model.specs.declared.event.Event.TheVariants.{Call as CallEvent, Landed}
use Rattle.store_model.specs.History.{calls_of}
use Rattle.script_text.specs.declared.script.Mode.{Mode}
use Rattle.script_text.specs.declared.script.Mode.TheVariants.{Serial, Threads}
use Rattle.script_text.specs.declared.script.Step.{Step}
use Rattle.script_text.specs.declared.script.Step.TheVariants.{Call as CallStep, Control as ControlStep}
use Rattle.script_text.specs.Script.{IsPlaced, is_call}

-- these steps are calls of the first n applications
abbrev pub AreCalls : ℕ → List Step → Type 0
AreCalls n steps = All (λ step. IsPlaced n step × (is_call step ≡ true)) steps

-- the steps whose calls these events are, in order
abbrev pub steps_served : List Event → List Step
steps_served [] = []
steps_served (CallEvent session number call reply mark ∷ events) = CallStep session call ∷ steps_served events
steps_served (Landed commit ∷ events) = steps_served events

-- the calls of that application in these steps, in order
abbrev pub calls_in : ℕ → List Step → List Call
calls_in app [] = []
calls_in app (CallStep a call ∷ steps) = if a == app then call ∷ calls_in app steps else calls_in app steps
calls_in app (ControlStep control ∷ steps) = calls_in app steps

-- The events are the calls of these steps, each once.
pub record ServesSteps (mode : Mode) (steps : List Step) (events : List Event) : Type 0 where
  -- the calls of each application are its calls of the script, in order
  pub of_each_application : (app : ℕ) → calls_of app events ≡ calls_in app steps
  -- in a serial phase all stand in the script's order
  pub in_script_order : mode ≡ Serial → steps_served events ≡ steps

-- Memory ran out before all of them were made. In a serial phase the events are the calls of the first steps; on threads those of each
-- application are its first calls.
abbrev pub ServesFront : Mode → (steps : List Step) → List Event → Type 0
ServesFront Serial steps events = (rest : List Step) × (steps ≡ steps_served events ++ rest)
ServesFront Threads steps events = (app : ℕ) → (rest : List Call) × (calls_in app steps ≡ calls_of app events ++ rest)
