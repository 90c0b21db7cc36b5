use Rattle.std.proofs.Common.{subst, sym}
use Rattle.std.proofs.lemmas.Result.{IfErr-weaker, IfOk-weaker}
use Rattle.rpmb_files.specs.Devices.{devices}
use Rattle.rpmb_files.specs.Stores.{store_state}
use Rattle.script_runner.specs.CardRunning.{unmounted}
use Rattle.script_runner.specs.CardSteps.{RefusesMount}
use Rattle.script_runner.proofs.CardLineLaws.{goes_on-remounted, stops-remounted}
use Rattle.script_runner.proofs.card_lines.do_remount.Goals as goal

pub returns-in-Ok-clause-ok : goal.returns-in-Ok-clause-ok
returns-in-Ok-clause-ok g c = λ first.
    IfOk-weaker c.tell.result _ _ (goes_on-remounted g.R.RpmbPort.state g.E.Entropy.faults _ c.args.line.now _ _ c.args.run c.in-Ok.store c.requires.line c.in-Ok.ensures.ok) c.tell.ensures.ok

pub returns-in-Ok-clause-err : goal.returns-in-Ok-clause-err
returns-in-Ok-clause-err g c = λ first lasts.
    IfErr-weaker c.tell.result _ _ (stops-remounted g.R.RpmbPort.state g.E.Entropy.faults _ c.args.line.now _ _ c.args.run c.in-Ok.store c.requires.line c.in-Ok.ensures.ok _) c.tell.ensures.err

pub returns-clause-err : goal.returns-clause-err
returns-clause-err g c = λ first lasts.
    let port = g.R.RpmbPort.state in
    let old = store_state port g.E.Entropy.faults c.args.run.store in
    let drawn = g.E.Entropy.faults c.in-Err.field-0.entropy in
    let fault = c.in-Err.field-0.fault in
    let h = c.in-Err.ensures.err first lasts in
    let prints = c.print_card_refusal-status.ensures.prints in
    unmounted h.0 fault drawn c.requires.line h.1
    (subst (λ p. RefusesMount (g.E.Entropy.is_reliable first) old.key h.0 (devices (port p) drawn) fault) (sym c.into_port.ensures) h.2)
    prints
