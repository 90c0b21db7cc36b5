use Rattle.std.proofs.Common.{◌+◌, length, ◌∙◌, ap}
use Rattle.disk_model.specs.Bytes.{after_write}
use Rattle.node_image.specs.Selection.{bytes_at}
use Rattle.htree_file.proofs.CopyRuns.{change_run, rest_run, run_then}
use Rattle.htree_file.proofs.copying.copy_bytes.Goals as goal

pub returns-in_err-read_padded-clause-run : goal.returns-in_err-read_padded-clause-run
returns-in_err-read_padded-clause-run g c = rest_run _ _ _ c.read_padded.ensures.rests

pub returns-in_err-write_at-clause-run : goal.returns-in_err-write_at-clause-run
returns-in_err-write_at-clause-run g c =
    let a = g.F.StoreFile.state c.args.from.now in
    let b = g.F.StoreFile.state c.read_padded.new.file in
    let x = g.F.StoreFile.state c.args.to.now in
    let y = g.F.StoreFile.state c.write_at.new.self in
    run_then a b b x x y (rest_run a b x c.read_padded.ensures.rests)
    (change_run c.args.there (c.args.there + length c.read_padded.new.into) b x y (g.met.F.StoreFile.sound c.args.to.now) c.write_at.ensures.changes c.write_at.ensures.others c.write_at.ensures.others_struck)

pub returns-clause-run : goal.returns-clause-run
returns-clause-run g c =
    let a = g.F.StoreFile.state c.args.from.now in
    let b = g.F.StoreFile.state c.read_padded.new.file in
    let x = g.F.StoreFile.state c.args.to.now in
    let y = g.F.StoreFile.state c.write_at.new.self in
    run_then a b b x x y (rest_run a b x c.read_padded.ensures.rests)
    (change_run c.args.there (c.args.there + length c.read_padded.new.into) b x y (g.met.F.StoreFile.sound c.args.to.now) c.write_at.ensures.changes c.write_at.ensures.others c.write_at.ensures.others_struck)

pub returns-clause-read : goal.returns-clause-read
returns-clause-read g c = λ told.
    c.in_ok-read_padded.ensures.bytes told.0 ∙ ap (λ l. bytes_at l c.args.at (length c.args.bytes.now)) (c.read_padded.ensures.rests.reads told.1)

pub returns-clause-copied : goal.returns-clause-copied
returns-clause-copied g c = λ told known.
    c.in_ok-write_at.ensures.written known
    ∙ ap (λ l. after_write (g.F.StoreFile.state c.args.to.now).reads c.args.there l)
    (c.in_ok-read_padded.ensures.bytes told.0 ∙ ap (λ l. bytes_at l c.args.at (length c.args.bytes.now)) (c.read_padded.ensures.rests.reads told.1))
