-- The text of a run.
use Rattle.std.specs.Prelude.{ℕ, ◌+◌, List, [], ◌∷◌, ◌++◌, length, Option, Some, None}
use Rattle.store_model.specs.declared.event.Event.{Event}
use Rattle.store_model.specs.Object.{ObjectMap}
use Rattle.run_acts.specs.declared.MountFault.{MountFault}
use Rattle.script_text.specs.declared.script.Control.{Control}
use Rattle.script_text.specs.declared.script.Control.TheVariants.{List as ListControl, Mode as ModeControl}
use Rattle.script_text.specs.declared.script.Mode.{Mode}
use Rattle.script_text.specs.declared.script.Mode.TheVariants.{Serial}
use Rattle.script_text.specs.declared.script.Step.{Step}
use Rattle.script_text.specs.declared.script.Step.TheVariants.{Call as CallStep, Control as ControlStep}
use Rattle.script_text.specs.Script.{ScriptValue}
use Rattle.script_text.specs.Text.{control_line, events_text, phase_line}
use Rattle.run_acts.specs.Lines.{objects_text, refusal_line}
use Rattle.run_acts.specs.declared.refused_call.RefusedCall.{RefusedCall}
use Rattle.script_runner.specs.RefusedLines.{refused_lines}

-- what was recorded of a phase that was run: the objects as it opened, its history, and the calls that were refused under quotas
pub record PhaseRecord : Type 0 where
  pub opening : ObjectMap
  pub events : List Event
  pub refused : List RefusedCall

-- What came of an act. It was done: a phase was run, a list shows these objects, or another control was done. Or the run stopped at it: its mount
-- was refused for that reason, the quotas of a phase commit so many objects, more than a store has room for, or memory ran out in a crash.
pub data ActOutcome : Type 0 where
  Ran : PhaseRecord → ActOutcome
  Listed : ObjectMap → ActOutcome
  Controlled : ActOutcome
  Refused : MountFault → ActOutcome
  Exceeded : ℕ → ActOutcome
  CutShort : ActOutcome

-- where these acts stopped, if they did
abbrev pub stop_of : List ActOutcome → Option ActOutcome
stop_of [] = None
stop_of (Ran phase ∷ outcomes) = stop_of outcomes
stop_of (Listed objects ∷ outcomes) = stop_of outcomes
stop_of (Controlled ∷ outcomes) = stop_of outcomes
stop_of (stop ∷ outcomes) = Some stop

abbrev pub phase_text : ScriptValue → ℕ → Mode → List Step → PhaseRecord → List ℕ
phase_text script number mode calls phase = phase_line number mode (length phase.opening) ++ events_text script 0 phase.events ++ refused_lines script calls phase.refused

-- what a run of a script does: it serves the calls of a phase in its mode, or does a control
pub data Act : Type 0 where
  Serve : (mode : Mode) → (calls : List Step) → Act
  Do : (control : Control) → Act

-- the mode of the phases below a control
abbrev pub mode_behind : Mode → Control → Mode
mode_behind mode (ModeControl other) = other
mode_behind mode control = mode

-- the acts of these steps, where the calls of the phase that is open, which has that mode, stand before them
abbrev pub acts_from : Mode → List Step → List Step → List Act
acts_from mode [] [] = []
acts_from mode (step ∷ calls) [] = Serve mode (step ∷ calls) ∷ []
acts_from mode calls (CallStep app call ∷ steps) = acts_from mode (calls ++ CallStep app call ∷ []) steps
acts_from mode [] (ControlStep control ∷ steps) = Do control ∷ acts_from (mode_behind mode control) [] steps
acts_from mode (step ∷ calls) (ControlStep control ∷ steps) = Serve mode (step ∷ calls) ∷ Do control ∷ acts_from (mode_behind mode control) [] steps

-- the acts of these steps, where a phase has that mode until a control sets another
abbrev pub acts_of : Mode → List Step → List Act
acts_of mode steps = acts_from mode [] steps

-- the text of these acts, the first phase of them with that number; what has no outcome was not begun, nor what stands below it
abbrev pub acts_text : ScriptValue → ℕ → List Act → List ActOutcome → List ℕ
acts_text script number [] outcomes = []
acts_text script number (act ∷ acts) [] = []
acts_text script number (Serve mode calls ∷ acts) (Ran phase ∷ outcomes) = phase_text script number mode calls phase ++ acts_text script (number + 1) acts outcomes
acts_text script number (Serve mode calls ∷ acts) (Refused fault ∷ outcomes) = refusal_line fault
acts_text script number (Serve mode calls ∷ acts) _ = []
acts_text script number (Do ListControl ∷ acts) (Listed objects ∷ outcomes) = control_line ListControl ++ objects_text objects ++ acts_text script number acts outcomes
acts_text script number (Do ListControl ∷ acts) (Refused fault ∷ outcomes) = refusal_line fault
acts_text script number (Do ListControl ∷ acts) _ = []
acts_text script number (Do control ∷ acts) (Controlled ∷ outcomes) = control_line control ++ acts_text script number acts outcomes
acts_text script number (Do control ∷ acts) _ = []

-- the text of a run of the script of whose acts this came: its first phases are serial
abbrev pub script_output : ScriptValue → List ActOutcome → List ℕ
script_output script outcomes = acts_text script 0 (acts_of Serial script.steps) outcomes

-- the same; where the card's block could not be read, or the card not be formatted, before the first act, only that line
abbrev pub run_output : ScriptValue → (start : Option MountFault) → List ActOutcome → List ℕ
run_output script (Some fault) outcomes = refusal_line fault
run_output script None outcomes = script_output script outcomes

-- where a run stopped, if it did: before the first act, or at one
abbrev pub run_stop : (start : Option MountFault) → List ActOutcome → Option ActOutcome
run_stop (Some fault) outcomes = Some (Refused fault)
run_stop None outcomes = stop_of outcomes
