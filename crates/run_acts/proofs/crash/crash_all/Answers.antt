use Rattle.std.proofs.Common.{arith}
use Rattle.std.proofs.lemmas.Result.{err_from_is_err_and}
use Rattle.disk_model.specs.State.{FileState, LeftNow}
use Rattle.object_calls.specs.OpeningFiles.{files_of}
use Rattle.run_acts.proofs.Crashed.{at_place, next_crashed, stopped_crashed}
use Rattle.run_acts.proofs.crash.crash_all.Goals as goal

pub loop-file-preserved : goal.loop-file-preserved
loop-file-preserved g c =
    let state = g.F.StoreFile.state in
    let image = g.F.FileRig.crash_image in
    let i = c.loop-file.file in
    next_crashed image c.args.seed i (files_of state c.args.files.now) (files_of state c.loop-file.files) (files_of state c.crash_file.new.files) c.loop-file.invariant
    c.in_ok-crash_file.ensures.here c.in_ok-crash_file.ensures.others
    (at_place state (λ (s : FileState). LeftNow s (image s c.args.seed i)) (λ f. g.met.F.FileRig.crash_leaves f c.args.seed i) c.args.files.now i (omega (arith, c.requires, c.loop-file-test.true)))

pub returns-in_err-crash_file-clause-some : goal.returns-in_err-crash_file-clause-some
returns-in_err-crash_file-clause-some g c =
    let state = g.F.StoreFile.state in
    let i = c.loop-file.file in
    let p = err_from_is_err_and c.from_residual.result c.from_residual.ensures.1 in
    rw (p.1) (
      i,
      omega (arith, c.loop-file-test.true),
      stopped_crashed g.F.FileRig.crash_image c.args.seed i (files_of state c.args.files.now) (files_of state c.loop-file.files) (files_of state c.crash_file.new.files) c.loop-file.invariant
          c.in_err-crash_file.ensures.same c.in_err-crash_file.ensures.others,
    )
