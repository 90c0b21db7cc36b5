use Rattle.std.proofs.Common.{sym, subst}
use Rattle.script_runner.specs.Sending.{IsWriteError}
use Rattle.script_runner.proofs.CardLineLaws.{goes_on-listed, stops-listed}
use Rattle.script_runner.proofs.card_lines.do_list.Goals as goal

pub returns-in-Ok-send_names-clause-ok : goal.returns-in-Ok-send_names-clause-ok
returns-in-Ok-send_names-clause-ok g c = λ first.
    goes_on-listed g.R.RpmbPort.state g.E.Entropy.faults _ c.args.line.now _ _ c.args.run c.in-Ok.names.items c.as_slice.result.now c.requires.line c.as_slice.ensures.value
    c.in-Ok.ensures.listing c.list.ensures.names c.send_names.new.kept c.in-Ok-send_names.ensures.ok

pub returns-clause-err : goal.returns-clause-err
returns-clause-err g c = λ first.
    stops-listed g.R.RpmbPort.state g.E.Entropy.faults _ c.args.line.now _ _ c.args.run c.in-Ok.names.items c.as_slice.result.now c.requires.line c.as_slice.ensures.value
    c.in-Ok.ensures.listing c.list.ensures.names _ c.end_with-in-Err.result c.end_with-in-Err.ensures.card c.in-Err.ensures.err
    (subst (IsWriteError _) (sym c.end_with-in-Err.ensures.status) c.in-Err.ensures.error)
