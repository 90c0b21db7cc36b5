use Rattle.std.proofs.Common.{sym, ap, drop, subst, vec_len, ◌+◌, ◌∙◌}
use Rattle.script_text.specs.declared.script.Control.{Control}
use Rattle.script_text.specs.declared.script.Control.TheVariants.{Arm as ArmControl, Crash, Flip, Mode as ModeControl, Phase, Quota as QuotaControl, Restore, Save}
use Rattle.script_text.specs.declared.script.Step.TheVariants.{Control as ControlStep}
use Rattle.script_text.specs.Text.{control_line}
use Rattle.run_acts.specs.Benches.{bench_state}
use Rattle.script_runner.specs.RunReady.{IsNext}
use Rattle.script_runner.proofs.Once.{EndsAt-crashed, EndsAt-no_memory, control_text}
use Rattle.script_runner.proofs.Turns.{HasDone-arm, HasDone-crash, HasDone-flip, HasDone-mode, HasDone-phase, HasDone-quota, HasDone-restore, HasDone-save, cut-off, formed-next, goes-on}
use Rattle.script_runner.proofs.controls.do_control.Goals as goal

pub returns-in-Ok-clause-ok : goal.returns-in-Ok-clause-ok
returns-in-Ok-clause-ok g c = λ first lasts.
    let run = c.args.run in
    let script = c.args.script.now in
    let step = subst (λ (x : Control). IsNext script run (ControlStep x)) c.in-Arm.is c.requires.next in
    let done = HasDone-arm g.F.StoreFile.state g.R.RpmbPort.state g.F.FileRig.crash_image (g.E.Entropy.is_reliable first) c.args.keys.now script c.in-Arm.arm run c.in-Ok.run' c.requires.sound c.requires.ready step c.in-Ok.ensures.waits c.in-Ok.ensures.arms in
    let text = ap (λ (x : Control). control_line x) (sym c.in-Arm.is) in
    goes-on g.F.StoreFile.state g.R.RpmbPort.state g.F.FileRig.crash_image (g.E.Entropy.is_reliable first) c.args.keys.now script run _ c.print_control_act-in-Ok.result _ _ _ _ _ done (control_text script run.number (ArmControl c.in-Arm.arm) (λ e. cc) ∙ text) c.print_control_act-in-Ok.ensures.ok

pub returns-in-Ok-clause-err : goal.returns-in-Ok-clause-err
returns-in-Ok-clause-err g c = λ first lasts.
    let run = c.args.run in
    let script = c.args.script.now in
    let step = subst (λ (x : Control). IsNext script run (ControlStep x)) c.in-Arm.is c.requires.next in
    let done = HasDone-arm g.F.StoreFile.state g.R.RpmbPort.state g.F.FileRig.crash_image (g.E.Entropy.is_reliable first) c.args.keys.now script c.in-Arm.arm run c.in-Ok.run' c.requires.sound c.requires.ready step c.in-Ok.ensures.waits c.in-Ok.ensures.arms in
    let text = ap (λ (x : Control). control_line x) (sym c.in-Arm.is) in
    cut-off g.F.StoreFile.state g.R.RpmbPort.state g.F.FileRig.crash_image (g.E.Entropy.is_reliable first) c.args.keys.now script run _ c.print_control_act-in-Ok.result _ _ _ _ _ done (control_text script run.number (ArmControl c.in-Arm.arm) (λ e. cc) ∙ text) _ _ _ c.print_control_act-in-Ok.ensures.err

pub returns-in-Err-clause-err : goal.returns-in-Err-clause-err
returns-in-Err-clause-err g c = λ first lasts.
    EndsAt-no_memory g.F.StoreFile.state g.R.RpmbPort.state g.F.FileRig.crash_image (g.E.Entropy.is_reliable first) _ _ c.args.keys.now c.args.script.now _ _ c.args.run c.in-Err.end (ap (λ e. e.status) c.in-Err.ensures.err) (ap (λ e. bench_state g.F.StoreFile.state g.R.RpmbPort.state e.bench) c.in-Err.ensures.err)
    (ap (λ e. vec_len e.bench.files) c.in-Err.ensures.err ∙ c.requires.ready.whole)

pub returns-in-Ok-crash_bench-clause-ok : goal.returns-in-Ok-crash_bench-clause-ok
returns-in-Ok-crash_bench-clause-ok g c = λ first lasts.
    let run = c.args.run in
    let script = c.args.script.now in
    let step = subst (λ (x : Control). IsNext script run (ControlStep x)) c.in-Crash.is c.requires.next in
    let done = HasDone-crash g.F.StoreFile.state g.R.RpmbPort.state g.F.FileRig.crash_image (g.E.Entropy.is_reliable first) c.args.keys.now script c.in-Crash.seed run c.in-Ok-crash_bench.run' c.requires.ready step c.in-Ok-crash_bench.ensures.others c.in-Ok-crash_bench.ensures.whole c.in-Ok-crash_bench.ensures.crashes in
    let text = ap (λ (x : Control). control_line x) (sym c.in-Crash.is) in
    goes-on g.F.StoreFile.state g.R.RpmbPort.state g.F.FileRig.crash_image (g.E.Entropy.is_reliable first) c.args.keys.now script run _ c.print_control_act-in-Ok-crash_bench.result _ _ _ _ _ done (control_text script run.number (Crash c.in-Crash.seed) (λ e. cc) ∙ text) c.print_control_act-in-Ok-crash_bench.ensures.ok

pub returns-in-Ok-crash_bench-clause-err : goal.returns-in-Ok-crash_bench-clause-err
returns-in-Ok-crash_bench-clause-err g c = λ first lasts.
    let run = c.args.run in
    let script = c.args.script.now in
    let step = subst (λ (x : Control). IsNext script run (ControlStep x)) c.in-Crash.is c.requires.next in
    let done = HasDone-crash g.F.StoreFile.state g.R.RpmbPort.state g.F.FileRig.crash_image (g.E.Entropy.is_reliable first) c.args.keys.now script c.in-Crash.seed run c.in-Ok-crash_bench.run' c.requires.ready step c.in-Ok-crash_bench.ensures.others c.in-Ok-crash_bench.ensures.whole c.in-Ok-crash_bench.ensures.crashes in
    let text = ap (λ (x : Control). control_line x) (sym c.in-Crash.is) in
    cut-off g.F.StoreFile.state g.R.RpmbPort.state g.F.FileRig.crash_image (g.E.Entropy.is_reliable first) c.args.keys.now script run _ c.print_control_act-in-Ok-crash_bench.result _ _ _ _ _ done (control_text script run.number (Crash c.in-Crash.seed) (λ e. cc) ∙ text) _ _ _ c.print_control_act-in-Ok-crash_bench.ensures.err

pub returns-in-Err-crash_bench-clause-err : goal.returns-in-Err-crash_bench-clause-err
returns-in-Err-crash_bench-clause-err g c = λ first lasts.
    let run = c.args.run in
    let script = c.args.script.now in
    let step = subst (λ (x : Control). IsNext script run (ControlStep x)) c.in-Crash.is c.requires.next in
    EndsAt-crashed g.F.StoreFile.state g.R.RpmbPort.state g.F.FileRig.crash_image (g.E.Entropy.is_reliable first) _ _ c.args.keys.now script _ _ run c.in-Err-crash_bench.end c.in-Crash.seed step c.in-Err-crash_bench.ensures.err c.in-Err-crash_bench.ensures.in_part c.in-Err-crash_bench.ensures.whole_err

pub returns-in-Mode-clause-ok : goal.returns-in-Mode-clause-ok
returns-in-Mode-clause-ok g c = λ first lasts.
    let run = c.args.run in
    let script = c.args.script.now in
    let step = subst (λ (x : Control). IsNext script run (ControlStep x)) c.in-Mode.is c.requires.next in
    let done = HasDone-mode g.F.StoreFile.state g.R.RpmbPort.state g.F.FileRig.crash_image (g.E.Entropy.is_reliable first) c.args.keys.now script c.in-Mode.mode run c.requires.ready step in
    let text = ap (λ (x : Control). control_line x) (sym c.in-Mode.is) in
    goes-on g.F.StoreFile.state g.R.RpmbPort.state g.F.FileRig.crash_image (g.E.Entropy.is_reliable first) c.args.keys.now script run _ c.print_control_act.result _ _ _ _ _ done (control_text script run.number (ModeControl c.in-Mode.mode) (λ e. cc) ∙ text) c.print_control_act.ensures.ok

pub returns-in-Mode-clause-err : goal.returns-in-Mode-clause-err
returns-in-Mode-clause-err g c = λ first lasts.
    let run = c.args.run in
    let script = c.args.script.now in
    let step = subst (λ (x : Control). IsNext script run (ControlStep x)) c.in-Mode.is c.requires.next in
    let done = HasDone-mode g.F.StoreFile.state g.R.RpmbPort.state g.F.FileRig.crash_image (g.E.Entropy.is_reliable first) c.args.keys.now script c.in-Mode.mode run c.requires.ready step in
    let text = ap (λ (x : Control). control_line x) (sym c.in-Mode.is) in
    cut-off g.F.StoreFile.state g.R.RpmbPort.state g.F.FileRig.crash_image (g.E.Entropy.is_reliable first) c.args.keys.now script run _ c.print_control_act.result _ _ _ _ _ done (control_text script run.number (ModeControl c.in-Mode.mode) (λ e. cc) ∙ text) _ _ _ c.print_control_act.ensures.err

pub returns-in-Phase-clause-ok : goal.returns-in-Phase-clause-ok
returns-in-Phase-clause-ok g c = λ first lasts.
    let run = c.args.run in
    let script = c.args.script.now in
    let step = subst (λ (x : Control). IsNext script run (ControlStep x)) c.in-Phase.is c.requires.next in
    let done = HasDone-phase g.F.StoreFile.state g.R.RpmbPort.state g.F.FileRig.crash_image (g.E.Entropy.is_reliable first) c.args.keys.now script run c.requires.ready step in
    let text = ap (λ (x : Control). control_line x) (sym c.in-Phase.is) in
    goes-on g.F.StoreFile.state g.R.RpmbPort.state g.F.FileRig.crash_image (g.E.Entropy.is_reliable first) c.args.keys.now script run _ c.print_control_act-in-Phase.result _ _ _ _ _ done (control_text script run.number Phase (λ e. cc) ∙ text) c.print_control_act-in-Phase.ensures.ok

pub returns-in-Phase-clause-err : goal.returns-in-Phase-clause-err
returns-in-Phase-clause-err g c = λ first lasts.
    let run = c.args.run in
    let script = c.args.script.now in
    let step = subst (λ (x : Control). IsNext script run (ControlStep x)) c.in-Phase.is c.requires.next in
    let done = HasDone-phase g.F.StoreFile.state g.R.RpmbPort.state g.F.FileRig.crash_image (g.E.Entropy.is_reliable first) c.args.keys.now script run c.requires.ready step in
    let text = ap (λ (x : Control). control_line x) (sym c.in-Phase.is) in
    cut-off g.F.StoreFile.state g.R.RpmbPort.state g.F.FileRig.crash_image (g.E.Entropy.is_reliable first) c.args.keys.now script run _ c.print_control_act-in-Phase.result _ _ _ _ _ done (control_text script run.number Phase (λ e. cc) ∙ text) _ _ _ c.print_control_act-in-Phase.ensures.err

pub returns-in-Ok-save_bench-clause-ok : goal.returns-in-Ok-save_bench-clause-ok
returns-in-Ok-save_bench-clause-ok g c = λ first lasts.
    let run = c.args.run in
    let script = c.args.script.now in
    let step = subst (λ (x : Control). IsNext script run (ControlStep x)) c.in-Save.is c.requires.next in
    let done = HasDone-save g.F.StoreFile.state g.R.RpmbPort.state g.F.FileRig.crash_image (g.E.Entropy.is_reliable first) c.args.keys.now script c.in-Save.mark run c.in-Ok-save_bench.run' c.requires.ready step c.in-Ok-save_bench.ensures.others c.in-Ok-save_bench.ensures.saves in
    let text = ap (λ (x : Control). control_line x) (sym c.in-Save.is) in
    goes-on g.F.StoreFile.state g.R.RpmbPort.state g.F.FileRig.crash_image (g.E.Entropy.is_reliable first) c.args.keys.now script run _ c.print_control_act-in-Ok-save_bench.result _ _ _ _ _ done (control_text script run.number (Save c.in-Save.mark) (λ e. cc) ∙ text) c.print_control_act-in-Ok-save_bench.ensures.ok

pub returns-in-Ok-save_bench-clause-err : goal.returns-in-Ok-save_bench-clause-err
returns-in-Ok-save_bench-clause-err g c = λ first lasts.
    let run = c.args.run in
    let script = c.args.script.now in
    let step = subst (λ (x : Control). IsNext script run (ControlStep x)) c.in-Save.is c.requires.next in
    let done = HasDone-save g.F.StoreFile.state g.R.RpmbPort.state g.F.FileRig.crash_image (g.E.Entropy.is_reliable first) c.args.keys.now script c.in-Save.mark run c.in-Ok-save_bench.run' c.requires.ready step c.in-Ok-save_bench.ensures.others c.in-Ok-save_bench.ensures.saves in
    let text = ap (λ (x : Control). control_line x) (sym c.in-Save.is) in
    cut-off g.F.StoreFile.state g.R.RpmbPort.state g.F.FileRig.crash_image (g.E.Entropy.is_reliable first) c.args.keys.now script run _ c.print_control_act-in-Ok-save_bench.result _ _ _ _ _ done (control_text script run.number (Save c.in-Save.mark) (λ e. cc) ∙ text) _ _ _ c.print_control_act-in-Ok-save_bench.ensures.err

pub returns-in-Err-save_bench-clause-err : goal.returns-in-Err-save_bench-clause-err
returns-in-Err-save_bench-clause-err g c = λ first lasts.
    EndsAt-no_memory g.F.StoreFile.state g.R.RpmbPort.state g.F.FileRig.crash_image (g.E.Entropy.is_reliable first) _ _ c.args.keys.now c.args.script.now _ _ c.args.run c.in-Err-save_bench.end (ap (λ e. e.status) c.in-Err-save_bench.ensures.err)
    (ap (λ e. bench_state g.F.StoreFile.state g.R.RpmbPort.state e.bench) c.in-Err-save_bench.ensures.err) (ap (λ e. vec_len e.bench.files) c.in-Err-save_bench.ensures.err ∙ c.requires.ready.whole)

pub returns-in-Ok-restore_bench-clause-ok : goal.returns-in-Ok-restore_bench-clause-ok
returns-in-Ok-restore_bench-clause-ok g c = λ first lasts.
    let run = c.args.run in
    let script = c.args.script.now in
    let step = subst (λ (x : Control). IsNext script run (ControlStep x)) c.in-Restore.is c.requires.next in
    let done = HasDone-restore g.F.StoreFile.state g.R.RpmbPort.state g.F.FileRig.crash_image (g.E.Entropy.is_reliable first) c.args.keys.now script c.in-Restore.file c.in-Restore.mark run c.in-Ok-restore_bench.run' c.requires.ready step c.in-Ok-restore_bench.ensures.others c.in-Ok-restore_bench.ensures.whole c.in-Ok-restore_bench.ensures.restores in
    let text = ap (λ (x : Control). control_line x) (sym c.in-Restore.is) in
    goes-on g.F.StoreFile.state g.R.RpmbPort.state g.F.FileRig.crash_image (g.E.Entropy.is_reliable first) c.args.keys.now script run _ c.print_control_act-in-Ok-restore_bench.result _ _ _ _ _ done (control_text script run.number (Restore c.in-Restore.file c.in-Restore.mark) (λ e. cc) ∙ text) c.print_control_act-in-Ok-restore_bench.ensures.ok

pub returns-in-Ok-restore_bench-clause-err : goal.returns-in-Ok-restore_bench-clause-err
returns-in-Ok-restore_bench-clause-err g c = λ first lasts.
    let run = c.args.run in
    let script = c.args.script.now in
    let step = subst (λ (x : Control). IsNext script run (ControlStep x)) c.in-Restore.is c.requires.next in
    let done = HasDone-restore g.F.StoreFile.state g.R.RpmbPort.state g.F.FileRig.crash_image (g.E.Entropy.is_reliable first) c.args.keys.now script c.in-Restore.file c.in-Restore.mark run c.in-Ok-restore_bench.run' c.requires.ready step c.in-Ok-restore_bench.ensures.others c.in-Ok-restore_bench.ensures.whole c.in-Ok-restore_bench.ensures.restores in
    let text = ap (λ (x : Control). control_line x) (sym c.in-Restore.is) in
    cut-off g.F.StoreFile.state g.R.RpmbPort.state g.F.FileRig.crash_image (g.E.Entropy.is_reliable first) c.args.keys.now script run _ c.print_control_act-in-Ok-restore_bench.result _ _ _ _ _ done (control_text script run.number (Restore c.in-Restore.file c.in-Restore.mark) (λ e. cc) ∙ text) _ _ _ c.print_control_act-in-Ok-restore_bench.ensures.err

pub returns-in-Err-restore_bench-clause-err : goal.returns-in-Err-restore_bench-clause-err
returns-in-Err-restore_bench-clause-err g c = λ first lasts.
    EndsAt-no_memory g.F.StoreFile.state g.R.RpmbPort.state g.F.FileRig.crash_image (g.E.Entropy.is_reliable first) _ _ c.args.keys.now c.args.script.now _ _ c.args.run c.in-Err-restore_bench.end c.in-Err-restore_bench.ensures.err c.in-Err-restore_bench.ensures.same
    c.in-Err-restore_bench.ensures.whole_err

pub restore_bench-requires-clause-file : goal.restore_bench-requires-clause-file
restore_bench-requires-clause-file g c =
    let script = c.args.script.now in
    let run = c.args.run in
    (formed-next script.steps (drop (run.at + 1) script.steps) run.at (ControlStep (Restore c.in-Restore.file c.in-Restore.mark)) c.requires.sound.formed
    (subst (λ (x : Control). IsNext script run (ControlStep x)) c.in-Restore.is c.requires.next)).0

pub flip_bench-run-requires-clause-file : goal.flip_bench-run-requires-clause-file
flip_bench-run-requires-clause-file g c =
    let script = c.args.script.now in
    let run = c.args.run in
    (formed-next script.steps (drop (run.at + 1) script.steps) run.at (ControlStep (Flip c.in-Flip.file c.in-Flip.at c.in-Flip.mask)) c.requires.sound.formed
    (subst (λ (x : Control). IsNext script run (ControlStep x)) c.in-Flip.is c.requires.next)).0

pub returns-in-Flip-clause-ok : goal.returns-in-Flip-clause-ok
returns-in-Flip-clause-ok g c = λ first lasts.
    let run = c.args.run in
    let script = c.args.script.now in
    let step = subst (λ (x : Control). IsNext script run (ControlStep x)) c.in-Flip.is c.requires.next in
    let done = HasDone-flip g.F.StoreFile.state g.R.RpmbPort.state g.F.FileRig.crash_image (g.E.Entropy.is_reliable first) c.args.keys.now script c.in-Flip.file c.in-Flip.at c.in-Flip.mask run c.flip_bench-run.result c.requires.ready step c.flip_bench-run.ensures.others c.flip_bench-run.ensures.whole c.flip_bench-run.ensures.flips in
    let text = ap (λ (x : Control). control_line x) (sym c.in-Flip.is) in
    goes-on g.F.StoreFile.state g.R.RpmbPort.state g.F.FileRig.crash_image (g.E.Entropy.is_reliable first) c.args.keys.now script run _ c.print_control_act-in-Flip.result _ _ _ _ _ done (control_text script run.number (Flip c.in-Flip.file c.in-Flip.at c.in-Flip.mask) (λ e. cc) ∙ text) c.print_control_act-in-Flip.ensures.ok

pub returns-in-Flip-clause-err : goal.returns-in-Flip-clause-err
returns-in-Flip-clause-err g c = λ first lasts.
    let run = c.args.run in
    let script = c.args.script.now in
    let step = subst (λ (x : Control). IsNext script run (ControlStep x)) c.in-Flip.is c.requires.next in
    let done = HasDone-flip g.F.StoreFile.state g.R.RpmbPort.state g.F.FileRig.crash_image (g.E.Entropy.is_reliable first) c.args.keys.now script c.in-Flip.file c.in-Flip.at c.in-Flip.mask run c.flip_bench-run.result c.requires.ready step c.flip_bench-run.ensures.others c.flip_bench-run.ensures.whole c.flip_bench-run.ensures.flips in
    let text = ap (λ (x : Control). control_line x) (sym c.in-Flip.is) in
    cut-off g.F.StoreFile.state g.R.RpmbPort.state g.F.FileRig.crash_image (g.E.Entropy.is_reliable first) c.args.keys.now script run _ c.print_control_act-in-Flip.result _ _ _ _ _ done (control_text script run.number (Flip c.in-Flip.file c.in-Flip.at c.in-Flip.mask) (λ e. cc) ∙ text) _ _ _ c.print_control_act-in-Flip.ensures.err

pub returns-in-Ok-set_quota-clause-ok : goal.returns-in-Ok-set_quota-clause-ok
returns-in-Ok-set_quota-clause-ok g c = λ first lasts.
    let run = c.args.run in
    let script = c.args.script.now in
    let q = c.in-Quota in
    let step = subst (λ (x : Control). IsNext script run (ControlStep x)) q.is c.requires.next in
    let done = HasDone-quota g.F.StoreFile.state g.R.RpmbPort.state g.F.FileRig.crash_image (g.E.Entropy.is_reliable first) c.args.keys.now script q.app q.objects q.bytes run c.in-Ok-set_quota.run' c.requires.ready step c.in-Ok-set_quota.ensures.sets c.in-Ok-set_quota.ensures.quotas in
    let text = ap (λ (x : Control). control_line x) (sym q.is) in
    goes-on g.F.StoreFile.state g.R.RpmbPort.state g.F.FileRig.crash_image (g.E.Entropy.is_reliable first) c.args.keys.now script run _ c.print_control_act-in-Ok-set_quota.result _ _ _ _ _ done (control_text script run.number (QuotaControl q.app q.objects q.bytes) (λ e. cc) ∙ text) c.print_control_act-in-Ok-set_quota.ensures.ok

pub returns-in-Ok-set_quota-clause-err : goal.returns-in-Ok-set_quota-clause-err
returns-in-Ok-set_quota-clause-err g c = λ first lasts.
    let run = c.args.run in
    let script = c.args.script.now in
    let q = c.in-Quota in
    let step = subst (λ (x : Control). IsNext script run (ControlStep x)) q.is c.requires.next in
    let done = HasDone-quota g.F.StoreFile.state g.R.RpmbPort.state g.F.FileRig.crash_image (g.E.Entropy.is_reliable first) c.args.keys.now script q.app q.objects q.bytes run c.in-Ok-set_quota.run' c.requires.ready step c.in-Ok-set_quota.ensures.sets c.in-Ok-set_quota.ensures.quotas in
    let text = ap (λ (x : Control). control_line x) (sym q.is) in
    cut-off g.F.StoreFile.state g.R.RpmbPort.state g.F.FileRig.crash_image (g.E.Entropy.is_reliable first) c.args.keys.now script run _ c.print_control_act-in-Ok-set_quota.result _ _ _ _ _ done (control_text script run.number (QuotaControl q.app q.objects q.bytes) (λ e. cc) ∙ text) _ _ _ c.print_control_act-in-Ok-set_quota.ensures.err

pub returns-in-Err-set_quota-clause-err : goal.returns-in-Err-set_quota-clause-err
returns-in-Err-set_quota-clause-err g c = λ first lasts.
    EndsAt-no_memory g.F.StoreFile.state g.R.RpmbPort.state g.F.FileRig.crash_image (g.E.Entropy.is_reliable first) _ _ c.args.keys.now c.args.script.now _ _ c.args.run c.in-Err-set_quota.end (ap (λ e. e.status) c.in-Err-set_quota.ensures.err)
    (ap (λ e. bench_state g.F.StoreFile.state g.R.RpmbPort.state e.bench) c.in-Err-set_quota.ensures.err) (ap (λ e. vec_len e.bench.files) c.in-Err-set_quota.ensures.err ∙ c.requires.ready.whole)
