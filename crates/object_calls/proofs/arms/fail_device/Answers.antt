use Rattle.std.proofs.Common.{◌≡◌, ◌-◌, ap, get_or, subst, sym, arith}
use Rattle.std.specs.Prelude.{slice_set}
use Rattle.disk_model.specs.Controls.{failure_armed}
use Rattle.object_calls.specs.OpeningArms.{FailsOnBench, IsOnBench, StayDevices}
use Rattle.object_calls.specs.OpeningFiles.{numbered_files}
use Rattle.object_calls.proofs.Rearming.{on_err, on_ok, one_armed, one_stays}
use Rattle.object_calls.proofs.arms.fail_device.Goals as goal

pub returns-in-File-clause-fails : goal.returns-in-File-clause-fails
returns-in-File-clause-fails g c = λ spare.
    let state = g.F.StoreFile.state in
    let port = g.R.RpmbPort.state c.args.gate.now.host.port in
    let d = c.args.gate.now.dir.file in
    let files = c.args.files.now in
    let n = c.in-File.file in
    let x = get_or files (n - 1) c.index-files-file.result in
    let y = c.fail_call.new.self in
    let on = subst IsOnBench c.in-File.is c.requires.device in
    on_ok c.fail_call.result (state y ≡ failure_armed (state x) c.args.call)
    (FailsOnBench c.args.device c.args.call (numbered_files state spare d files) (numbered_files state spare d (slice_set files (n - 1) y)) port port)
    (λ armed. subst (λ v. FailsOnBench v c.args.call (numbered_files state spare d files) (numbered_files state spare d (slice_set files (n - 1) y)) port port) (sym c.in-File.is)
    (one_armed state spare d files n x y port (λ s. failure_armed s c.args.call) on (omega (arith, on.1, c.requires.files)) (ap (λ v. get_or files (n - 1) v) c.index-files-file.is) armed))
    c.fail_call.ensures.armed

pub returns-in-File-clause-refused : goal.returns-in-File-clause-refused
returns-in-File-clause-refused g c = λ spare.
    let state = g.F.StoreFile.state in
    let port = g.R.RpmbPort.state c.args.gate.now.host.port in
    let d = c.args.gate.now.dir.file in
    let files = c.args.files.now in
    let n = c.in-File.file in
    let x = get_or files (n - 1) c.index-files-file.result in
    let y = c.fail_call.new.self in
    let on = subst IsOnBench c.in-File.is c.requires.device in
    on_err c.fail_call.result (state y ≡ state x) (StayDevices (numbered_files state spare d files) (numbered_files state spare d (slice_set files (n - 1) y)) port port)
    (one_stays state spare d files n x y port (λ s. s) on (omega (arith, on.1, c.requires.files)) (ap (λ v. get_or files (n - 1) v) c.index-files-file.is)) c.fail_call.ensures.refused
