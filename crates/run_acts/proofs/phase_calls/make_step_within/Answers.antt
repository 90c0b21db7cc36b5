-- The step's call was made; or it was refused, and noted.
use Rattle.std.proofs.Common.{◌≡◌, ◌∙◌, ◌<◌, ◌++◌, ℕ, List, [], ◌∷◌, get_or, length, Option, ap, sym, subst}
use Rattle.std.specs.Prelude.{slice_set}
use Rattle.std.proofs.lemmas.List.{length-map}
use Rattle.std.proofs.lemmas.Result.{err_from_is_err_and}
use Rattle.app_quota.specs.Quotas.{limit_of}
use Rattle.script_text.specs.Script.{IsPlaced}
use Rattle.script_text.specs.declared.script.Step.{Step}
use Rattle.script_text.specs.declared.script.Step.TheVariants.{Call as CallStep}
use Rattle.run_acts.specs.MadeCalls.{MakesCalls}
use Rattle.run_acts.specs.OwnQuotas.{CallsWithin, lists_in}
use Rattle.run_acts.specs.QuotaCalls.{MakesCallsWithin, unless_refused}
use Rattle.run_acts.specs.declared.refused_call.RefusedCall.{RefusedCall}
use Rattle.run_acts.proofs.QuotaMakings.{noted-lists, same-lists, within-made, within-noted}
use Rattle.run_acts.proofs.phase_calls.make_step_within.Goals as goal

pub make_call_within-requires-clause-app : goal.make_call_within-requires-clause-app
make_call_within-requires-clause-app g c = subst (IsPlaced (length c.args.sessions.now)) c.in-Call.is c.requires.placed

pub returns-in_default-2-clause-made : goal.returns-in_default-2-clause-made
returns-in_default-2-clause-made g c = λ old was steps many numbered within.
    let of_file = g.F.StoreFile.state in
    let of_port = g.R.RpmbPort.state in
    let draws = g.E.Entropy.faults in
    let store = g.L.StoreName.store in
    let a = c.args in
    let made = c.make_call_within in
    let limits = limit_of a.quotas.now in
    let app = c.in-Call.app in
    let call = c.in-Call.call in
    subst (λ (step : Step). MakesCallsWithin of_file of_port draws store limits old made.new.service was made.new.sessions (steps ++ step ∷ []) (lists_in a.refused.now)) (sym c.in-Call.is)
    (within-made of_file of_port draws store limits old a.service.now made.new.service was a.sessions.now made.new.sessions steps (lists_in a.refused.now) app call c.requires.sessions many
    (length-map a.refused.now _ ∙ c.requires.lists) within (subst (IsPlaced (length a.sessions.now)) c.in-Call.is c.requires.placed) made.ensures.others
    (subst (λ (o : Option ℕ). MakesCalls of_file of_port draws store a.service.now made.new.service a.sessions.now made.new.sessions (unless_refused o (CallStep app call))) c.in_default-2.is
    c.in_ok-place.ensures.made)
    (λ d. subst (CallsWithin store limits _ _ call) c.in_default-2.is (c.in_ok-place.ensures.called d)))

pub returns-clause-made : goal.returns-clause-made
returns-clause-made g c = λ old was steps many numbered within.
    let of_file = g.F.StoreFile.state in
    let of_port = g.R.RpmbPort.state in
    let draws = g.E.Entropy.faults in
    let store = g.L.StoreName.store in
    let a = c.args in
    let made = c.make_call_within in
    let limits = limit_of a.quotas.now in
    let app = c.in-Call.app in
    let call = c.in-Call.call in
    let below : app < length a.sessions.now = subst (IsPlaced (length a.sessions.now)) c.in-Call.is c.requires.placed in
    let listed : length (lists_in a.refused.now) ≡ length a.sessions.now = length-map a.refused.now _ ∙ c.requires.lists in
    let r : RefusedCall = record { step = length steps; place = c.in-Some.place } in
    let had : List RefusedCall = (get_or a.refused.now app c.index-refused-app.result).items in
    let grew : c.push.new.self.items ≡ had ++ r ∷ [] =
    c.in_ok-push.ensures.items ∙ ap (λ (n : ℕ). let noted : RefusedCall = record { step = n; place = c.in-Some.place } in had ++ noted ∷ []) (sym numbered) in
    subst
    (λ (step : Step). MakesCallsWithin of_file of_port draws store limits old made.new.service was made.new.sessions (steps ++ step ∷ [])
    (lists_in (slice_set a.refused.now app c.push.new.self))) (sym c.in-Call.is)
    (subst (MakesCallsWithin of_file of_port draws store limits old made.new.service was made.new.sessions (steps ++ CallStep app call ∷ []))
    (sym (noted-lists a.refused.now app c.index-refused-app.result c.push.new.self r (subst (λ (n : ℕ). app < n) (sym c.requires.lists) below) grew))
    (within-noted of_file of_port draws store limits old a.service.now made.new.service was a.sessions.now made.new.sessions steps (lists_in a.refused.now) app call c.requires.sessions many listed within below
    made.ensures.others c.in-Some.place
    (subst (λ (o : Option ℕ). MakesCalls of_file of_port draws store a.service.now made.new.service a.sessions.now made.new.sessions (unless_refused o (CallStep app call))) c.in-Some.is
    c.in_ok-place.ensures.made)
    (λ d. subst (CallsWithin store limits _ _ call) c.in-Some.is (c.in_ok-place.ensures.called d))))

pub returns-in_err-push-clause-unnoted : goal.returns-in_err-push-clause-unnoted
returns-in_err-push-clause-unnoted g c =
    let a = c.args in
    let app = c.in-Call.app in
    let below : app < length a.sessions.now = subst (IsPlaced (length a.sessions.now)) c.in-Call.is c.requires.placed in
    let p = err_from_is_err_and c.from_residual-in_err-push.result c.from_residual-in_err-push.ensures.1 in
    rw (p.1)
    (same-lists a.refused.now app c.index-refused-app.result c.push.new.self (subst (λ (n : ℕ). app < n) (sym c.requires.lists) below) c.in_err-push.ensures.items)
