use Rattle.std.proofs.Common.{◌≡◌, ◌⊎◌, ℕ, List, [], length, refl, sym, ap, ◌∙◌, subst, arith}
use Rattle.std.proofs.lemmas.List.{length-map}
use Rattle.std.proofs.lemmas.Result.{IfErr-weaker, IfOk-weaker}
use Rattle.run_acts.specs.ServedSteps.{AreCalls}
use Rattle.script_text.specs.Script.{Declaration, ScriptValue}
use Rattle.script_text.specs.declared.script.Mode.TheVariants.{Threads}
use Rattle.run_acts.specs.declared.MountFault.TheVariants.{NoMemory}
use Rattle.run_acts.specs.Benches.{bench_state}
use Rattle.run_acts.specs.ListedBenches.{IsListRefused, ListsBench}
use Rattle.run_acts.specs.PhaseRefusals.{IsGivenUp}
use Rattle.run_acts.specs.QuotaRefusals.{HoldsOfAdmitted}
use Rattle.store_model.specs.Object.{ObjectMap}
use Rattle.script_runner.specs.Soaks.{IsThrough, IsBroken, PrintsObjects}
use Rattle.script_runner.specs.Text.{PhaseRecord}
use Rattle.script_runner.specs.Trace.{applications_of}
use Rattle.script_runner.proofs.Soaks.{IsThrough-acts, IsBroken-undone, IsBroken-phase, IsBroken-printed, RunsPhase-soak, as_soak, length-soak_applications}
use Rattle.script_runner.proofs.soak_run.soak_opened.Goals as goal

pub returns-in_default-clause-err : goal.returns-in_default-clause-err
returns-in_default-clause-err g c = λ first lasts. IsBroken-undone g.F.StoreFile.state g.R.RpmbPort.state g.F.FileRig.crash_image (g.E.Entropy.is_reliable first) c.args.keys.now c.args.number _ _ (bench_state g.F.StoreFile.state g.R.RpmbPort.state c.args.bench)

pub run_phase-requires-clause-few : goal.run_phase-requires-clause-few
run_phase-requires-clause-few g c κs within =
    omega (arith, ap length c.applications.ensures, ap (λ (s : ScriptValue). length (applications_of s)) c.in-Ok.ensures, length-soak_applications c.args.number)

pub run_phase-requires-clause-calls : goal.run_phase-requires-clause-calls
run_phase-requires-clause-calls g c κs within =
    let same = ap length c.applications.ensures ∙ length-map c.in-Ok.script.applications (λ (d : Declaration). d.app) in
    subst (λ n. AreCalls n c.calls_from-calls.result.now) (sym same) c.calls_from-calls.ensures.are_calls

pub returns-in-Ok-Served-clause-ok : goal.returns-in-Ok-Served-clause-ok
returns-in-Ok-Served-clause-ok g c = λ first lasts.
    let state = g.F.StoreFile.state in
    let port = g.R.RpmbPort.state in
    let image = g.F.FileRig.crash_image in
    let rel = g.E.Entropy.is_reliable first in
    let keys = c.args.keys.now in
    let number = c.args.number in
    let opened = c.in-Ok-Served.end in
    let runs = rw c.in-Ok-Served.field-0-is at c.in-Ok-Served.ensures.ends in
    let phase : PhaseRecord = record { opening = runs.0; events = opened.history.events; refused = opened.refused.items } in
    let old = bench_state state port c.args.bench in
    let between = bench_state state port opened.bench in
    let ran = RunsPhase-soak state port image rel keys number _ c.in-Ok.script _ _ old between phase c.in-Ok.ensures c.applications.ensures c.calls_from-calls.ensures.calls lasts runs.2 in
    IfOk-weaker c.print_soak.result (λ s. PrintsObjects state port keys number opened.history.events between (bench_state state port s.bench) s.lines.items)
    (λ s. IsThrough state port image rel keys number old (bench_state state port s.bench) s.lines.items)
    (λ s printed. IsThrough-acts state port image rel keys number old between (bench_state state port s.bench) phase s.lines.items ran printed) c.print_soak.ensures.ok

pub returns-in-Ok-Served-clause-err : goal.returns-in-Ok-Served-clause-err
returns-in-Ok-Served-clause-err g c = λ first lasts.
    let state = g.F.StoreFile.state in
    let port = g.R.RpmbPort.state in
    let image = g.F.FileRig.crash_image in
    let rel = g.E.Entropy.is_reliable first in
    let keys = c.args.keys.now in
    let number = c.args.number in
    let opened = c.in-Ok-Served.end in
    let runs = rw c.in-Ok-Served.field-0-is at c.in-Ok-Served.ensures.ends in
    let phase : PhaseRecord = record { opening = runs.0; events = opened.history.events; refused = opened.refused.items } in
    let old = bench_state state port c.args.bench in
    let between = bench_state state port opened.bench in
    let ran = RunsPhase-soak state port image rel keys number _ c.in-Ok.script _ _ old between phase c.in-Ok.ensures c.applications.ensures c.calls_from-calls.ensures.calls lasts runs.2 in
    let mid = g.E.Entropy.faults c.run_phase.new.entropy in
    let drew = g.E.Entropy.faults c.args.entropy.now in
    let draws = g.E.Entropy.faults c.print_soak.new.entropy in
    IfErr-weaker c.print_soak.result (λ h. ((h.fault ≡ NoMemory) × ((objects : ObjectMap) × (lines : List ℕ) × ListsBench state port keys between (bench_state state port h.bench) objects lines)) ⊎ IsListRefused state port keys between (bench_state state port h.bench) mid draws h.fault)
    (λ h. IsBroken state port image rel keys number drew draws old (bench_state state port h.bench) h.fault)
    (λ h why. IsBroken-printed state port image rel keys number drew draws old between (bench_state state port h.bench) phase h.fault ran mid c.in-Ok-Served.ensures.undrawn why)
    c.print_soak.ensures.err

pub returns-clause-err : goal.returns-clause-err
returns-clause-err g c = λ first lasts.
    let state = g.F.StoreFile.state in
    let port = g.R.RpmbPort.state in
    let keys = c.args.keys.now in
    let number = c.args.number in
    let halted = c.in-Err.halted in
    let old = bench_state state port c.args.bench in
    let new = bench_state state port halted.bench in
    IsBroken-phase state port g.F.FileRig.crash_image (g.E.Entropy.is_reliable first) keys number _ _ old new halted.fault
    (as_soak number (λ a s. HoldsOfAdmitted [] s (λ steps. IsGivenUp state port keys a [] Threads steps old new (g.E.Entropy.faults c.args.entropy.now) (g.E.Entropy.faults c.run_phase.new.entropy) halted.fault)) c.in-Ok.script _ _
    c.in-Ok.ensures c.applications.ensures c.calls_from-calls.ensures.calls c.in-Err.ensures.refused)

-- a soak has no quotas
pub unreachable-requires : goal.unreachable-requires
unreachable-requires g c = absurd ((rw c.in-Ok-OverCommitted.field-0-is at c.in-Ok-OverCommitted.ensures.ends).some refl)
