-- The steps that events serve.
use Rattle.std.proofs.Common.{◌≡◌, ◌==◌, ℕ, cond, List, [], ◌∷◌, ◌++◌, refl, sym, ap, ◌∙◌}
use Rattle.std.proofs.lemmas.List.{append-nil}
use Rattle.store_model.specs.declared.event.Event.{Event}
use Rattle.store_model.specs.declared.event.Event.TheVariants.{Call as CallEvent, Landed}
use Rattle.store_model.specs.History.{calls_of}
use Rattle.script_text.specs.declared.script.Mode.{Mode}
use Rattle.script_text.specs.declared.script.Mode.TheVariants.{Serial, Threads}
use Rattle.script_text.specs.declared.script.Step.{Step}
use Rattle.script_text.specs.declared.script.Step.TheVariants.{Call as CallStep}
use Rattle.run_acts.specs.PhaseLaws.{EventsInOrderServe}
use Rattle.run_acts.specs.ServedSteps.{ServesFront, ServesSteps, calls_in, steps_served}

pub steps_served-append : (first then : List Event) → steps_served (first ++ then) ≡ steps_served first ++ steps_served then
steps_served-append [] then = refl
steps_served-append (CallEvent session number call reply mark ∷ first) then = ap (λ steps. CallStep session call ∷ steps) (steps_served-append first then)
steps_served-append (Landed commit ∷ first) then = steps_served-append first then

-- the calls of an application among the events are its calls among the steps that they serve
calls_of-steps_served : (app : ℕ) (events : List Event) → calls_of app events ≡ calls_in app (steps_served events)
calls_of-steps_served app [] = refl
calls_of-steps_served app (CallEvent session number call reply mark ∷ events) =
    ap (λ calls. cond (session == app) (call ∷ calls) calls) (calls_of-steps_served app events)
calls_of-steps_served app (Landed commit ∷ events) = calls_of-steps_served app events

pub events_in_order_serve : EventsInOrderServe
events_in_order_serve mode steps events is = record {
  of_each_application = λ app. calls_of-steps_served app events ∙ ap (calls_in app) is;
  in_script_order = λ serial. is;
}

-- what serves all of the steps serves the first of them
pub serves_all : (mode : Mode) (steps : List Step) (events : List Event) → ServesSteps mode steps events → ServesFront mode steps events
serves_all Serial steps events s = ([], sym (append-nil (steps_served events) ∙ s.in_script_order refl))
serves_all Threads steps events s = λ app. ([], sym (append-nil (calls_of app events) ∙ s.of_each_application app))
