use Rattle.std.proofs.Common.{◌≡◌, ap, subst, sym, refl, ◌∙◌}
use Rattle.card_script.specs.CardScripts.{script_of}
use Rattle.script_runner.specs.CardRuns.{IsCardScriptError, no_script, ran, unread}
use Rattle.script_runner.proofs.CardWholes.{silent, silent_is}
use Rattle.tee_ports.proofs.Streams.{Appends-none}
use Rattle.script_runner.proofs.card_run.run_card.Goals as goal

pub returns-in-Err-clause-card : goal.returns-in-Err-clause-card
returns-in-Err-clause-card g c =
    let r = c.in-Err.ensures.read in record {
      trace = silent r.0;
      taken = r.1;
      bounded = r.2;
      appended = Appends-none _;
      ends = unread r.3 (silent_is r.0) refl;
    }

pub returns-in-Err-read_script-clause-card : goal.returns-in-Err-read_script-clause-card
returns-in-Err-read_script-clause-card g c =
    let r = c.in-Ok.ensures.read in
    let same : c.as_slice.result.now ≡ r.0 = c.as_slice.ensures.value ∙ r.3.0 in record {
      trace = silent r.0;
      taken = r.1;
      bounded = r.2;
      appended = Appends-none _;
      ends = no_script (r.3.1, r.3.2) (subst (λ bytes. IsCardScriptError (script_of bytes) c.in-Err-read_script.status) same c.in-Err-read_script.ensures) (silent_is r.0) refl;
    }

pub returns-clause-card : goal.returns-clause-card
returns-clause-card g c =
    let r = c.in-Ok.ensures.read in
    let x = c.run_lines-status.ensures c.args.entropy.now c.stream.ensures.reliable in
    let same : c.as_slice.result.now ≡ r.0 = c.as_slice.ensures.value ∙ r.3.0 in record {
      trace = record { taken = r.0; put = x.put; records = x.records; refused = x.refused };
      taken = r.1;
      bounded = r.2;
      appended = x.appended;
      ends = ran c.in-Ok-read_script.script (r.3.1, r.3.2) (ap script_of (sym same) ∙ c.in-Ok-read_script.ensures) x.ends;
    }
