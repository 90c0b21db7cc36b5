-- Laws of the steps that were served.
use Rattle.std.specs.Prelude.{◌≡◌, List}
use Rattle.store_model.specs.declared.event.Event.{Event}
use Rattle.script_text.specs.declared.script.Mode.{Mode}
use Rattle.script_text.specs.declared.script.Step.{Step}
use Rattle.run_acts.specs.ServedSteps.{ServesSteps, steps_served}

-- Events whose calls are these steps, in order, serve the steps, whatever the mode.
abbrev pub EventsInOrderServe : Type 0
EventsInOrderServe = (mode : Mode) (steps : List Step) (events : List Event) → steps_served events ≡ steps → ServesSteps mode steps events
