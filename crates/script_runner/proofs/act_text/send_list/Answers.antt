use Rattle.std.proofs.lemmas.Result.{on_err_weaker, on_ok_weaker}
use Rattle.script_text.specs.declared.script.Control.TheVariants.{List as ListControl}
use Rattle.script_text.specs.Text.{control_line}
use Rattle.script_runner.proofs.Sent.{OnErr-always, Sends-append, Stops-append, Stops-longer}
use Rattle.script_runner.proofs.act_text.send_list.Goals as goal

pub returns-in_err-send_control-clause-err : goal.returns-in_err-send_control-clause-err
returns-in_err-send_control-clause-err g c =
    OnErr-always _ (Stops-longer (g.K.Sink.held c.args.sink.now) _ c.args.kept.now.items (control_line ListControl) c.args.lines.now c.in_err-send_control.ensures.err)

pub returns-clause-ok : goal.returns-clause-ok
returns-clause-ok g c =
    on_ok_weaker c.send_lines.result
    (λ s. Sends-append (g.K.Sink.held c.args.sink.now) _ _ c.args.kept.now.items _ _ (control_line ListControl) c.args.lines.now c.in_ok-send_control.ensures.ok s)
    c.send_lines.ensures.ok

pub returns-clause-err : goal.returns-clause-err
returns-clause-err g c =
    on_err_weaker c.send_lines.result
    (λ s. Stops-append (g.K.Sink.held c.args.sink.now) _ _ c.args.kept.now.items _ (control_line ListControl) c.args.lines.now c.in_ok-send_control.ensures.ok s)
    c.send_lines.ensures.err
