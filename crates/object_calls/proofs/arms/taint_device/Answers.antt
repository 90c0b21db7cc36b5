use Rattle.std.proofs.Common.{◌≡◌, ◌-◌, ap, get_or, subst, sym, arith}
use Rattle.std.specs.Prelude.{slice_set}
use Rattle.disk_model.specs.Arms.{Taint}
use Rattle.disk_model.specs.Controls.{taint_armed}
use Rattle.object_calls.specs.OpeningArms.{TaintsOnBench, IsFileOnBench, StayDevices}
use Rattle.object_calls.specs.OpeningFiles.{numbered_files}
use Rattle.object_calls.proofs.Rearming.{on_err, on_ok, one_armed, one_stays}
use Rattle.object_calls.proofs.arms.taint_device.Goals as goal

pub returns-in-File-clause-taints : goal.returns-in-File-clause-taints
returns-in-File-clause-taints g c = λ spare.
    let taint : Taint = record { call = c.args.call; at = c.args.at; mask = c.args.mask.now } in
    let state = g.F.StoreFile.state in
    let port = g.R.RpmbPort.state c.args.gate.now.host.port in
    let d = c.args.gate.now.dir.file in
    let files = c.args.files.now in
    let n = c.in-File.file in
    let x = get_or files (n - 1) c.index-files-file.result in
    let y = c.taint_call.new.self in
    let on = subst IsFileOnBench c.in-File.is c.requires.device in
    on_ok c.taint_call.result (state y ≡ taint_armed (state x) taint)
    (TaintsOnBench c.args.device taint (numbered_files state spare d files) (numbered_files state spare d (slice_set files (n - 1) y)) port port)
    (λ armed. subst (λ v. TaintsOnBench v taint (numbered_files state spare d files) (numbered_files state spare d (slice_set files (n - 1) y)) port port) (sym c.in-File.is)
    (one_armed state spare d files n x y port (λ s. taint_armed s taint) on (omega (arith, on.1, c.requires.files)) (ap (λ v. get_or files (n - 1) v) c.index-files-file.is) armed))
    c.taint_call.ensures.armed

pub returns-in-File-clause-refused : goal.returns-in-File-clause-refused
returns-in-File-clause-refused g c = λ spare.
    let state = g.F.StoreFile.state in
    let port = g.R.RpmbPort.state c.args.gate.now.host.port in
    let d = c.args.gate.now.dir.file in
    let files = c.args.files.now in
    let n = c.in-File.file in
    let x = get_or files (n - 1) c.index-files-file.result in
    let y = c.taint_call.new.self in
    let on = subst IsFileOnBench c.in-File.is c.requires.device in
    on_err c.taint_call.result (state y ≡ state x) (StayDevices (numbered_files state spare d files) (numbered_files state spare d (slice_set files (n - 1) y)) port port)
    (one_stays state spare d files n x y port (λ s. s) on (omega (arith, on.1, c.requires.files)) (ap (λ v. get_or files (n - 1) v) c.index-files-file.is)) c.taint_call.ensures.refused
