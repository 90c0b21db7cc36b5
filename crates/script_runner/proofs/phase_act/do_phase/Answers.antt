use Rattle.std.proofs.Common.{◌++◌, ◌∙◌, ◌+◌, ap, arith, length, refl, subst, sym}
use Rattle.std.proofs.lemmas.List.{length-map}
use Rattle.std.proofs.lemmas.Result.{IfOk-weaker}
use Rattle.run_acts.specs.Benches.{bench_state}
use Rattle.run_acts.specs.PhaseOutcomes.{OverCommits}
use Rattle.run_acts.specs.PhaseRefusals.{IsGivenUp}
use Rattle.run_acts.specs.Phases.{RunsPhase}
use Rattle.run_acts.specs.QuotaRefusals.{HoldsOfAdmitted}
use Rattle.run_acts.specs.ServedSteps.{AreCalls}
use Rattle.run_acts.proofs.Ready.{runs_where}
use Rattle.script_runner.specs.declared.run_state.Run.{Run}
use Rattle.script_runner.specs.RefusedLines.{refused_lines}
use Rattle.script_runner.specs.Text.{PhaseRecord}
use Rattle.script_text.specs.Script.{Declaration}
use Rattle.script_text.specs.Text.{events_text, phase_line}
use Rattle.script_runner.proofs.Once.{phase_text_is}
use Rattle.script_runner.proofs.Turns.{EndsAt-calls, EndsAt-over, HasDone-calls, as_given, cut-off, goes-on, next_calls}
use Rattle.script_runner.proofs.phase_act.do_phase.Goals as goal

pub run_phase-requires-clause-calls : goal.run_phase-requires-clause-calls
run_phase-requires-clause-calls g c κs within =
    let same = ap length c.applications.ensures ∙ length-map c.args.script.now.applications (λ (d : Declaration). d.app) in
    subst (λ n. AreCalls n c.calls_from-calls.result.now) (sym same) c.calls_from-calls.ensures.are_calls

pub returns-in-Ok-Served-clause-ok : goal.returns-in-Ok-Served-clause-ok
returns-in-Ok-Served-clause-ok g c = λ first lasts.
    let of_file = g.F.StoreFile.state in
    let of_port = g.R.RpmbPort.state in
    let image = g.F.FileRig.crash_image in
    let reliable = g.E.Entropy.is_reliable first in
    let keys = c.args.keys.now in
    let run = c.args.run in
    let script = c.args.script.now in
    let calls = c.calls_from-calls.ensures in
    let served = c.in-Ok-Served.end in
    let ends = rw c.in-Ok-Served.field-0-is at c.in-Ok-Served.ensures.ends in
    let old = bench_state of_file of_port run.bench in
    let new = bench_state of_file of_port served.bench in
    let ran : Run g.row.F.Denot g.row.R.Denot = record {
      bench = served.bench;
      saved = run.saved;
      quotas = run.quotas;
      arms = c.new.result;
      number = run.number + 1;
      mode = run.mode;
      at = run.at + length c.calls_from-calls.result.now;
      kept = run.kept;
    } in
    let phase : PhaseRecord = record { opening = ends.0; events = served.history.events; refused = served.refused.items } in
    let runs = as_given script run (λ apps quotas arms steps. RunsPhase of_file of_port reliable keys apps quotas arms run.mode steps old new phase.opening phase.events phase.refused) _ _ _ _
    c.applications.ensures c.as_slice.ensures.value c.as_slice-2.ensures.value calls.calls
    (runs_where of_file of_port (g.E.Entropy.is_reliable c.args.entropy.now) reliable keys _ _ _ _ _ old new phase.opening phase.events phase.refused lasts ends.2) in
    let done = HasDone-calls of_file of_port image reliable keys script run ran phase c.requires.ready c.requires.call runs c.new.ensures.items refl refl (rw c.in-Ok-Served.field-0-is at c.in-Ok-Served.ensures.whole) refl refl refl
    (ap (λ n. run.at + n) calls.count) (omega (arith, calls.count, calls.within)) in
    let text = phase_text_is script run.number run.mode served.objects (next_calls script run) phase ends.1
    ∙ (λ i. phase_line run.number run.mode served.objects ++ events_text script 0 phase.events ++ refused_lines script (sym calls.calls i) (sym c.as_slice-in-Ok-Served.ensures.value i)) in
    goes-on of_file of_port image reliable keys script run ran c.print_phase_act.result _ _ _ _ _ done text c.print_phase_act.ensures.ok

pub returns-in-Ok-Served-clause-err : goal.returns-in-Ok-Served-clause-err
returns-in-Ok-Served-clause-err g c = λ first lasts.
    let of_file = g.F.StoreFile.state in
    let of_port = g.R.RpmbPort.state in
    let image = g.F.FileRig.crash_image in
    let reliable = g.E.Entropy.is_reliable first in
    let keys = c.args.keys.now in
    let run = c.args.run in
    let script = c.args.script.now in
    let calls = c.calls_from-calls.ensures in
    let served = c.in-Ok-Served.end in
    let ends = rw c.in-Ok-Served.field-0-is at c.in-Ok-Served.ensures.ends in
    let old = bench_state of_file of_port run.bench in
    let new = bench_state of_file of_port served.bench in
    let ran : Run g.row.F.Denot g.row.R.Denot = record {
      bench = served.bench;
      saved = run.saved;
      quotas = run.quotas;
      arms = c.new.result;
      number = run.number + 1;
      mode = run.mode;
      at = run.at + length c.calls_from-calls.result.now;
      kept = run.kept;
    } in
    let phase : PhaseRecord = record { opening = ends.0; events = served.history.events; refused = served.refused.items } in
    let runs = as_given script run (λ apps quotas arms steps. RunsPhase of_file of_port reliable keys apps quotas arms run.mode steps old new phase.opening phase.events phase.refused) _ _ _ _
    c.applications.ensures c.as_slice.ensures.value c.as_slice-2.ensures.value calls.calls
    (runs_where of_file of_port (g.E.Entropy.is_reliable c.args.entropy.now) reliable keys _ _ _ _ _ old new phase.opening phase.events phase.refused lasts ends.2) in
    let done = HasDone-calls of_file of_port image reliable keys script run ran phase c.requires.ready c.requires.call runs c.new.ensures.items refl refl (rw c.in-Ok-Served.field-0-is at c.in-Ok-Served.ensures.whole) refl refl refl
    (ap (λ n. run.at + n) calls.count) (omega (arith, calls.count, calls.within)) in
    let text = phase_text_is script run.number run.mode served.objects (next_calls script run) phase ends.1
    ∙ (λ i. phase_line run.number run.mode served.objects ++ events_text script 0 phase.events ++ refused_lines script (sym calls.calls i) (sym c.as_slice-in-Ok-Served.ensures.value i)) in
    cut-off of_file of_port image reliable keys script run ran c.print_phase_act.result _ _ _ _ _ done text _ _ _ c.print_phase_act.ensures.err

pub returns-in-Ok-Served-clause-undrawn : goal.returns-in-Ok-Served-clause-undrawn
returns-in-Ok-Served-clause-undrawn g c = IfOk-weaker c.print_phase_act.result _ _ (λ next sent. c.in-Ok-Served.ensures.undrawn) c.print_phase_act.ensures.ok

pub returns-in-Ok-OverCommitted-clause-err : goal.returns-in-Ok-OverCommitted-clause-err
returns-in-Ok-OverCommitted-clause-err g c = λ first lasts.
    let of_file = g.F.StoreFile.state in
    let of_port = g.R.RpmbPort.state in
    let keys = c.args.keys.now in
    let run = c.args.run in
    let script = c.args.script.now in
    let over = as_given script run (λ apps quotas arms steps. OverCommits of_file of_port keys apps quotas (bench_state of_file of_port run.bench) (bench_state of_file of_port c.in-Ok-OverCommitted.bench) c.in-Ok-OverCommitted.sum) _ _ _ _
    c.applications.ensures c.as_slice.ensures.value c.as_slice-2.ensures.value c.calls_from-calls.ensures.calls
    (rw c.in-Ok-OverCommitted.field-0-is at c.in-Ok-OverCommitted.ensures.ends) in
    EndsAt-over of_file of_port g.F.FileRig.crash_image (g.E.Entropy.is_reliable first) keys script _ _ _ _ _ run _ c.in-Ok-OverCommitted.sum c.requires.call over c.print_excess-status.ensures.prints
    (rw c.in-Ok-OverCommitted.field-0-is at c.in-Ok-OverCommitted.ensures.whole)

pub returns-in-Err-clause-err : goal.returns-in-Err-clause-err
returns-in-Err-clause-err g c = λ first lasts.
    let of_file = g.F.StoreFile.state in
    let of_port = g.R.RpmbPort.state in
    let keys = c.args.keys.now in
    let run = c.args.run in
    let script = c.args.script.now in
    let halted = c.in-Err.field-0 in
    let given_up = as_given script run
    (λ apps quotas arms steps. HoldsOfAdmitted quotas steps
    (λ made. IsGivenUp of_file of_port keys apps arms run.mode made (bench_state of_file of_port run.bench) (bench_state of_file of_port halted.bench) (g.E.Entropy.faults c.args.entropy.now) (g.E.Entropy.faults c.run_phase.new.entropy) halted.fault)) _ _ _ _
    c.applications.ensures c.as_slice.ensures.value c.as_slice-2.ensures.value c.calls_from-calls.ensures.calls c.in-Err.ensures.refused in
    EndsAt-calls of_file of_port g.F.FileRig.crash_image (g.E.Entropy.is_reliable first) keys script _ _ _ _ _ run _ halted.fault c.requires.call given_up c.print_mount_refusal-status.ensures.prints c.in-Err.ensures.whole_err
