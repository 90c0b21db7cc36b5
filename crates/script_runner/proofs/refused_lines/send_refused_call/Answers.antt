use Rattle.std.proofs.Common.{◌≡◌, ◌∙◌, Some, None, ap, slice_get, subst, sym}
use Rattle.std.specs.Prelude.{option_copied}
use Rattle.std.proofs.lemmas.Result.{on_err_weaker, on_ok_weaker}
use Rattle.script_text.specs.declared.script.Step.{Step}
use Rattle.script_text.specs.declared.script.Step.TheVariants.{Call as CallStep, Control as ControlStep}
use Rattle.script_text.specs.Text.{refused_call_line}
use Rattle.script_runner.specs.Sending.{Sends, Stops}
use Rattle.script_runner.proofs.RefusedLines.{refused_line_is}
use Rattle.script_runner.proofs.Sent.{Sends-kept, Sends-none, Stops-kept}
use Rattle.script_runner.proofs.refused_lines.send_refused_call.Goals as goal

-- there is no such step
pub returns-in_default-clause-ok : goal.returns-in_default-clause-ok
returns-in_default-clause-ok g c =
    let is : slice_get c.args.steps.now c.args.refused.now.step ≡ None = sym c.step_at.ensures ∙ ap option_copied c.in_default.is in
    rw is (Sends-none (g.K.Sink.held c.args.sink.now) c.args.kept.now.items)

-- it is no call
pub returns-in_default-step-clause-ok : goal.returns-in_default-step-clause-ok
returns-in_default-step-clause-ok g c =
    let is : slice_get c.args.steps.now c.args.refused.now.step ≡ Some (ControlStep c.in_default-step.field-0) =
    sym c.step_at.ensures ∙ ap option_copied c.in-Some.is ∙ ap (λ (s : Step). Some s) c.in_default-step.is in
    rw is (Sends-none (g.K.Sink.held c.args.sink.now) c.args.kept.now.items)

pub returns-clause-ok : goal.returns-clause-ok
returns-clause-ok g c =
    let a = c.args in
    let is : slice_get a.steps.now a.refused.now.step ≡ Some (CallStep c.in-Call.app c.in-Call.call) =
    sym c.step_at.ensures ∙ ap option_copied c.in-Some.is ∙ ap (λ (s : Step). Some s) c.in-Call.is in
    let line = refused_line_is a.script.now a.refused.now.place a.steps.now a.refused.now.step c.in-Call.app c.in-Call.call c.count_to.result is c.count_to.ensures.counted c.count_to.ensures.app c.count_to.ensures.step in
    let text = refused_call_line a.script.now a.refused.now.place c.in-Call.app c.count_to.result.calls c.in-Call.call in
    let old = g.K.Sink.held a.sink.now in
    let new = g.K.Sink.held c.flush.new.sink in
    on_ok_weaker c.flush.result
    (λ s. subst (Sends old new a.kept.now.items c.flush.new.kept.items) line (Sends-kept old new a.kept.now.items c.flush.new.kept.items text c.print_refused_call.new.out.items c.in_ok-print_refused_call.ensures.ok s))
    c.flush.ensures.ok

pub returns-clause-err : goal.returns-clause-err
returns-clause-err g c =
    let a = c.args in
    let is : slice_get a.steps.now a.refused.now.step ≡ Some (CallStep c.in-Call.app c.in-Call.call) =
    sym c.step_at.ensures ∙ ap option_copied c.in-Some.is ∙ ap (λ (s : Step). Some s) c.in-Call.is in
    let line = refused_line_is a.script.now a.refused.now.place a.steps.now a.refused.now.step c.in-Call.app c.in-Call.call c.count_to.result is c.count_to.ensures.counted c.count_to.ensures.app c.count_to.ensures.step in
    let text = refused_call_line a.script.now a.refused.now.place c.in-Call.app c.count_to.result.calls c.in-Call.call in
    let old = g.K.Sink.held a.sink.now in
    let new = g.K.Sink.held c.flush.new.sink in
    on_err_weaker c.flush.result (λ s. subst (Stops old new a.kept.now.items) line (Stops-kept old new a.kept.now.items text c.print_refused_call.new.out.items c.in_ok-print_refused_call.ensures.ok s)) c.flush.ensures.err
