use Rattle.std.proofs.Common.{refl, ◌∙◌, ◌+◌}
use Rattle.std.proofs.lemmas.Result.{IfOk-weaker}
use Rattle.script_runner.proofs.Once.{list_text}
use Rattle.script_runner.proofs.Turns.{EndsAt-list, HasDone-list, cut-off, goes-on}
use Rattle.script_runner.proofs.controls.do_list.Goals as goal

pub returns-in-Ok-clause-ok : goal.returns-in-Ok-clause-ok
returns-in-Ok-clause-ok g c = λ first lasts script ready next.
    let run = c.args.run in
    let lists = c.in-Ok.ensures.lists in
    let listed = record run { bench = c.in-Ok.field-0.bench; at = run.at + 1 } in
    let done = HasDone-list g.F.StoreFile.state g.R.RpmbPort.state g.F.FileRig.crash_image (g.E.Entropy.is_reliable first) c.args.keys.now script run listed lists.0 _ ready next refl c.in-Ok.ensures.whole lists.2 in
    let text = list_text script run.number lists.0 c.as_slice.result.now (c.as_slice.ensures.value ∙ (lists.2).lines_are) in
    goes-on g.F.StoreFile.state g.R.RpmbPort.state g.F.FileRig.crash_image (g.E.Entropy.is_reliable first) c.args.keys.now script run listed c.print_list.result _ _ _ _ _ done text c.print_list.ensures.ok

pub returns-in-Ok-clause-err : goal.returns-in-Ok-clause-err
returns-in-Ok-clause-err g c = λ first lasts script ready next.
    let run = c.args.run in
    let lists = c.in-Ok.ensures.lists in
    let listed = record run { bench = c.in-Ok.field-0.bench; at = run.at + 1 } in
    let done = HasDone-list g.F.StoreFile.state g.R.RpmbPort.state g.F.FileRig.crash_image (g.E.Entropy.is_reliable first) c.args.keys.now script run listed lists.0 _ ready next refl c.in-Ok.ensures.whole lists.2 in
    let text = list_text script run.number lists.0 c.as_slice.result.now (c.as_slice.ensures.value ∙ (lists.2).lines_are) in
    cut-off g.F.StoreFile.state g.R.RpmbPort.state g.F.FileRig.crash_image (g.E.Entropy.is_reliable first) c.args.keys.now script run listed c.print_list.result _ _ _ _ _ done text _ _ _ c.print_list.ensures.err

pub returns-in-Ok-clause-undrawn : goal.returns-in-Ok-clause-undrawn
returns-in-Ok-clause-undrawn g c = IfOk-weaker c.print_list.result _ _ (λ next sent. c.in-Ok.ensures.undrawn) c.print_list.ensures.ok

pub returns-in-Err-clause-err : goal.returns-in-Err-clause-err
returns-in-Err-clause-err g c = λ first lasts script ready next.
    EndsAt-list g.F.StoreFile.state g.R.RpmbPort.state g.F.FileRig.crash_image (g.E.Entropy.is_reliable first) c.args.keys.now script _ _ _ _ _ c.args.run _ c.in-Err.field-0.fault next c.in-Err.ensures.refused c.print_mount_refusal-status.ensures.prints c.in-Err.ensures.whole_err
