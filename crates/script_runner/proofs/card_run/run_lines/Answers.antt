use Rattle.std.proofs.Common.{sym, subst, ◌∙◌}
use Rattle.hmac_keys.specs.KeyTable.{rpmb_key}
use Rattle.rpmb_files.specs.Devices.{devices}
use Rattle.rpmb_host.specs.Calls.{HostState}
use Rattle.script_runner.specs.CardSteps.{RefusesMount}
use Rattle.script_runner.proofs.CardEndings.{RunsLines-shut}
use Rattle.script_runner.proofs.card_run.run_lines.Goals as goal

pub returns : goal.returns
returns g c = λ first lasts.
    let reliable = g.E.Entropy.is_reliable first in
    let port = g.R.RpmbPort.state in
    let draws = g.E.Entropy.faults in
    let key = rpmb_key c.args.keys.now.huk in
    let host = c.new.result in
    let h = c.in-Err.field-0 in
    let drawn = draws h.entropy in
    let over : RefusesMount reliable host.key (devices (port host.port) (draws c.args.entropy)) (devices (port h.host.port) drawn) h.fault = record {
      stands = c.in-Err.ensures.fault;
      card = c.in-Err.ensures.card_err;
      goes_on = c.in-Err.ensures.goes_on_err;
      calm = c.in-Err.ensures.calm;
      reliable = λ r. (c.in-Err.ensures.reliable_err (lasts r)).1;
    } in
    let is_host = c.new.ensures ∙ (λ i. record { port = c.args.card; key = (c.copy.ensures ∙ c.rpmb_key-key.ensures) i }) in
    let refuses : RefusesMount reliable key (devices (port c.args.card) 0) (devices (port c.into_port.result) drawn) h.fault =
    subst (λ p. RefusesMount reliable key (devices (port c.args.card) 0) (devices (port p) drawn) h.fault) (sym c.into_port.ensures)
    (subst (λ n. RefusesMount reliable key (devices (port c.args.card) n) (devices (port h.host.port) drawn) h.fault) c.requires
    (subst (λ (w : HostState g.row.R.Denot). RefusesMount reliable w.key (devices (port w.port) (draws c.args.entropy)) (devices (port h.host.port) drawn) h.fault) is_host over)) in
    RunsLines-shut reliable key c.args.script.now (port c.args.card) (port c.into_port.result) _ _ _ h.fault c.print_card_refusal-status.result drawn c.new-in-Err.result.items c.new-in-Err.ensures.items refuses
    c.print_card_refusal-status.ensures.prints
