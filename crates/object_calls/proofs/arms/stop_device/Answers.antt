use Rattle.std.proofs.Common.{◌-◌, ap, get_or, subst, sym, arith}
use Rattle.disk_model.specs.Controls.{stop_armed}
use Rattle.object_calls.specs.OpeningArms.{IsOnBench, StopsOnBench}
use Rattle.object_calls.specs.OpeningFiles.{numbered_files}
use Rattle.object_calls.proofs.Rearming.{one_armed}
use Rattle.std.specs.Prelude.{slice_set}
use Rattle.object_calls.proofs.arms.stop_device.Goals as goal

pub returns-in-File-clause-stops : goal.returns-in-File-clause-stops
returns-in-File-clause-stops g c = λ spare.
    let state = g.F.StoreFile.state in
    let port = g.R.RpmbPort.state c.args.gate.now.host.port in
    let d = c.args.gate.now.dir.file in
    let files = c.args.files.now in
    let n = c.in-File.file in
    let x = get_or files (n - 1) c.index-files-file.result in
    let y = c.stop_after.new.self in
    let on = subst IsOnBench c.in-File.is c.requires.device in
    subst (λ v. StopsOnBench v c.args.calls (numbered_files state spare d files) (numbered_files state spare d (slice_set files (n - 1) y)) port port) (sym c.in-File.is)
    (one_armed state spare d files n x y port (λ s. stop_armed s c.args.calls) on (omega (arith, on.1, c.requires.files)) (ap (λ v. get_or files (n - 1) v) c.index-files-file.is) c.stop_after.ensures)
