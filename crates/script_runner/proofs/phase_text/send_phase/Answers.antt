use Rattle.std.proofs.Common.{◌++◌}
use Rattle.std.proofs.lemmas.Result.{on_err_weaker, on_ok_weaker}
use Rattle.script_text.specs.Text.{events_text, phase_line}
use Rattle.script_runner.specs.RefusedLines.{refused_lines}
use Rattle.script_runner.proofs.Sent.{OnErr-always, Sends-append, Stops-append, Stops-longer}
use Rattle.script_runner.proofs.phase_text.send_phase.Goals as goal

pub returns-in_err-send_history-clause-err : goal.returns-in_err-send_history-clause-err
returns-in_err-send_history-clause-err g c =
    let a = c.args in
    let line = phase_line a.phase.now.number a.phase.now.mode a.phase.now.objects in
    let events = events_text a.script.now 0 a.phase.now.history.now.events in
    let lines = refused_lines a.script.now a.phase.now.calls.now a.phase.now.refused.now in
    OnErr-always _ (Stops-longer (g.K.Sink.held a.sink.now) (g.K.Sink.held c.send_history.new.sink) a.kept.now.items (line ++ events) lines c.in_err-send_history.ensures.err)

pub returns-clause-ok : goal.returns-clause-ok
returns-clause-ok g c =
    let a = c.args in
    let line = phase_line a.phase.now.number a.phase.now.mode a.phase.now.objects in
    let events = events_text a.script.now 0 a.phase.now.history.now.events in
    let lines = refused_lines a.script.now a.phase.now.calls.now a.phase.now.refused.now in
    on_ok_weaker c.send_refused.result
    (λ s. Sends-append (g.K.Sink.held a.sink.now) (g.K.Sink.held c.send_history.new.sink) (g.K.Sink.held c.send_refused.new.sink) a.kept.now.items c.send_history.new.kept.items c.send_refused.new.kept.items (line ++ events) lines
    c.in_ok-send_history.ensures.ok s)
    c.send_refused.ensures.ok

pub returns-clause-err : goal.returns-clause-err
returns-clause-err g c =
    let a = c.args in
    let line = phase_line a.phase.now.number a.phase.now.mode a.phase.now.objects in
    let events = events_text a.script.now 0 a.phase.now.history.now.events in
    let lines = refused_lines a.script.now a.phase.now.calls.now a.phase.now.refused.now in
    on_err_weaker c.send_refused.result
    (λ s. Stops-append (g.K.Sink.held a.sink.now) (g.K.Sink.held c.send_history.new.sink) (g.K.Sink.held c.send_refused.new.sink) a.kept.now.items c.send_history.new.kept.items (line ++ events) lines c.in_ok-send_history.ensures.ok s)
    c.send_refused.ensures.err
