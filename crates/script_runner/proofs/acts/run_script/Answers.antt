use Rattle.std.proofs.Common.{refl}
use Rattle.script_text.specs.declared.script.Mode.TheVariants.{Serial}
use Rattle.run_acts.specs.Benches.{bench_state}
use Rattle.script_runner.specs.declared.run_state.Run.{Run}
use Rattle.script_runner.specs.Text.{run_output}
use Rattle.script_runner.specs.Trace.{applications_of, script_acts}
use Rattle.script_runner.proofs.Loops.{EndsFrom-first}
use Rattle.script_runner.proofs.Scripts.{RunsActs-unopened, RunsScript-opened}
use Rattle.script_runner.proofs.acts.run_script.Goals as goal

pub returns-in-Ok-clause-ran : goal.returns-in-Ok-clause-ran
returns-in-Ok-clause-ran g c =
    let run : Run g.row.F.Denot g.row.R.Denot = record { bench = c.in-Ok.bench; saved = c.new.result; quotas = c.new-in-Ok.result; arms = c.new-in-Ok-2.result; number = 0; mode = Serial; at = 0; kept = c.new-in-Ok-3.result } in
    RunsScript-opened g.F.StoreFile.state g.R.RpmbPort.state g.F.FileRig.crash_image _ _ _ c.args.keys.now _ _ _ _ c.args.script.now _ (bench_state g.F.StoreFile.state g.R.RpmbPort.state c.do_acts.result.bench) c.do_acts.result.status c.in-Ok.ensures.opens
    (EndsFrom-first g.F.StoreFile.state g.R.RpmbPort.state g.F.FileRig.crash_image _ c.args.keys.now c.args.script.now _ _ _ _ _ _ run _ c.do_acts.result.status c.in-Ok.ensures.undrawn refl refl refl c.new-in-Ok-2.ensures.items c.new-in-Ok-3.ensures.items c.new.ensures c.new-in-Ok.ensures.items (c.do_acts.ensures.ends c.args.entropy.now c.open_bench.ensures.reliable).ends)

pub returns-in-Err-clause-ran : goal.returns-in-Err-clause-ran
returns-in-Err-clause-ran g c =
    let script = c.args.script.now in
    RunsActs-unopened g.F.StoreFile.state g.R.RpmbPort.state g.F.FileRig.crash_image _ _ _ c.args.keys.now _ _ _ _ _ c.in-Err.field-0.fault c.in-Err.ensures.refused
    (applications_of script) (script_acts script) (run_output script) refl
    c.new-in-Err.result.items c.new-in-Err.ensures.items c.print_mount_refusal-status.result c.print_mount_refusal-status.ensures.prints
