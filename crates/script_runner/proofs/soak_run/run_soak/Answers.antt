use Rattle.std.proofs.Common.{refl, subst}
use Rattle.run_acts.specs.Benches.{bench_state}
use Rattle.script_runner.specs.Soaks.{IsBroken, soak_acts, soak_applications, soak_output}
use Rattle.script_runner.proofs.Scripts.{RunsActs-unopened}
use Rattle.script_runner.proofs.Soaks.{RunsSoak-broken, RunsSoak-through}
use Rattle.script_runner.proofs.soak_run.run_soak.Goals as goal

pub returns-in-Err-clause-soak : goal.returns-in-Err-clause-soak
returns-in-Err-clause-soak g c =
    let number = c.args.number in
    RunsActs-unopened g.F.StoreFile.state g.R.RpmbPort.state g.F.FileRig.crash_image _ _ _ c.args.keys.now _ _ _ _ _ c.in-Err.field-0.fault c.in-Err.ensures.refused
    (soak_applications number) (soak_acts number) (soak_output number) refl
    c.new.result.items c.new.ensures.items c.print_mount_refusal-status.result c.print_mount_refusal-status.ensures.prints

pub returns-in-Ok-soak_opened-clause-soak : goal.returns-in-Ok-soak_opened-clause-soak
returns-in-Ok-soak_opened-clause-soak g c =
    RunsSoak-through g.F.StoreFile.state g.R.RpmbPort.state g.F.FileRig.crash_image (g.E.Entropy.is_reliable c.args.entropy.now) c.args.keys.now c.args.number _ _ _ _ _ _ _ _ c.in-Ok.ensures.opens
    c.in-Ok-soak_opened.field-0.lines.items (c.in-Ok-soak_opened.ensures.ok c.args.entropy.now c.open_bench.ensures.reliable) c.print_last_lines-status.result c.print_last_lines-status.ensures.prints

pub returns-in-Err-soak_opened-clause-soak : goal.returns-in-Err-soak_opened-clause-soak
returns-in-Err-soak_opened-clause-soak g c =
    let state = g.F.StoreFile.state in
    let port = g.R.RpmbPort.state in
    let image = g.F.FileRig.crash_image in
    let rel = g.E.Entropy.is_reliable c.args.entropy.now in
    let keys = c.args.keys.now in
    let number = c.args.number in
    let halted = c.in-Err-soak_opened.field-0 in
    let is_broken = c.in-Err-soak_opened.ensures.err c.args.entropy.now c.open_bench.ensures.reliable in
    RunsSoak-broken state port image rel keys number _ _ _ _ _ _ _ _ c.in-Ok.ensures.opens halted.fault
    (subst (λ n. IsBroken state port image rel keys number n (g.E.Entropy.faults c.soak_opened.new.entropy) (bench_state state port c.in-Ok.bench) (bench_state state port halted.bench) halted.fault) c.in-Ok.ensures.undrawn is_broken)
    c.new-in-Err-soak_opened.result.items c.new-in-Err-soak_opened.ensures.items c.print_mount_refusal-status-in-Err-soak_opened.result c.print_mount_refusal-status-in-Err-soak_opened.ensures.prints
