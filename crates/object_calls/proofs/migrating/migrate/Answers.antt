use Rattle.std.proofs.Common.{ℕ, subst}
use Rattle.disk_model.specs.State.{FileState}
use Rattle.object_calls.specs.OpeningFiles.{files_of}
use Rattle.object_calls.specs.MigrationRefusals.{MigrationRefused}
use Rattle.object_calls.proofs.MigrationStages.{bench_then, moves_then, refused_then, short_then, writes_then}
use Rattle.object_calls.proofs.migrating.migrate.Goals as goal

pub returns-in-Ok-move_objects-clause-migrates : goal.returns-in-Ok-move_objects-clause-migrates
returns-in-Ok-move_objects-clause-migrates g c =
    let state = g.F.StoreFile.state in
    let port = g.R.RpmbPort.state in
    let keys = c.args.keys.now in
    let first = c.args.bench in
    let mid = c.in-Ok.moved.bench in
    let last = c.in-Ok-move_objects.field-0.bench in
    let f0 : ℕ → FileState = files_of state first.files.items in
    let f1 : ℕ → FileState = files_of state mid.files.items in
    let f2 : ℕ → FileState = files_of state last.files.items in
    let dir = c.in-Ok.ensures in
    let is = c.in-Ok-move_objects.ensures in
    bench_then keys f0 f1 f2 (port first.card) (port mid.card) (port last.card) dir.migrates is.migrates

pub returns-in-Ok-move_objects-clause-moves : goal.returns-in-Ok-move_objects-clause-moves
returns-in-Ok-move_objects-clause-moves g c =
    let state = g.F.StoreFile.state in
    let port = g.R.RpmbPort.state in
    let keys = c.args.keys.now in
    let first = c.args.bench in
    let mid = c.in-Ok.moved.bench in
    let last = c.in-Ok-move_objects.field-0.bench in
    let f0 : ℕ → FileState = files_of state first.files.items in
    let f1 : ℕ → FileState = files_of state mid.files.items in
    let f2 : ℕ → FileState = files_of state last.files.items in
    let dir = c.in-Ok.ensures in
    let is = c.in-Ok-move_objects.ensures in
    moves_then keys f0 f1 f2 (port first.card) (port mid.card) (port last.card) dir.goes_on is.goes_on dir.migrates c.in-Ok.moved.moved dir.moves c.in-Ok-move_objects.field-0.moved is.moves

pub returns-in-Ok-move_objects-clause-writes : goal.returns-in-Ok-move_objects-clause-writes
returns-in-Ok-move_objects-clause-writes g c =
    let state = g.F.StoreFile.state in
    let port = g.R.RpmbPort.state in
    let keys = c.args.keys.now in
    let first = c.args.bench in
    let mid = c.in-Ok.moved.bench in
    let last = c.in-Ok-move_objects.field-0.bench in
    let f0 : ℕ → FileState = files_of state first.files.items in
    let f1 : ℕ → FileState = files_of state mid.files.items in
    let f2 : ℕ → FileState = files_of state last.files.items in
    let dir = c.in-Ok.ensures in
    let is = c.in-Ok-move_objects.ensures in
    writes_then keys f0 f1 f2 (port first.card) (port mid.card) (port last.card) c.in-Ok.moved.moved c.in-Ok-move_objects.field-0.moved dir.migrates dir.writes is.writes

pub returns-in-Err-move_objects-clause-migrates_err : goal.returns-in-Err-move_objects-clause-migrates_err
returns-in-Err-move_objects-clause-migrates_err g c =
    let state = g.F.StoreFile.state in
    let port = g.R.RpmbPort.state in
    let keys = c.args.keys.now in
    let first = c.args.bench in
    let mid = c.in-Ok.moved.bench in
    let last = c.in-Err-move_objects.halted.bench in
    let f0 : ℕ → FileState = files_of state first.files.items in
    let f1 : ℕ → FileState = files_of state mid.files.items in
    let f2 : ℕ → FileState = files_of state last.files.items in
    let dir = c.in-Ok.ensures in
    let is = c.in-Err-move_objects.ensures in
    bench_then keys f0 f1 f2 (port first.card) (port mid.card) (port last.card) dir.migrates is.migrates_err

pub returns-in-Err-move_objects-clause-refused : goal.returns-in-Err-move_objects-clause-refused
returns-in-Err-move_objects-clause-refused g c =
    let state = g.F.StoreFile.state in
    let port = g.R.RpmbPort.state in
    let keys = c.args.keys.now in
    let first = c.args.bench in
    let mid = c.in-Ok.moved.bench in
    let last = c.in-Err-move_objects.halted.bench in
    let f0 : ℕ → FileState = files_of state first.files.items in
    let f1 : ℕ → FileState = files_of state mid.files.items in
    let f2 : ℕ → FileState = files_of state last.files.items in
    let dir = c.in-Ok.ensures in
    let is = c.in-Err-move_objects.ensures in
    let fault = c.in-Err-move_objects.halted.fault in
    let draws : ℕ = g.E.Entropy.faults c.move_objects.new.entropy in
    refused_then keys f0 f1 f2 (port first.card) (port mid.card) (port last.card) dir.goes_on is.goes_on_err dir.migrates c.in-Ok.moved.moved dir.moves dir.passed dir.counted (g.E.Entropy.faults c.args.entropy.now) draws fault
    (subst (λ (n : ℕ). MigrationRefused f1 f2 (port mid.card) (port last.card) keys n draws fault) dir.undrawn is.refused)

pub returns-in-Err-move_objects-clause-short : goal.returns-in-Err-move_objects-clause-short
returns-in-Err-move_objects-clause-short g c =
    let state = g.F.StoreFile.state in
    let port = g.R.RpmbPort.state in
    let keys = c.args.keys.now in
    let first = c.args.bench in
    let mid = c.in-Ok.moved.bench in
    let last = c.in-Err-move_objects.halted.bench in
    let f0 : ℕ → FileState = files_of state first.files.items in
    let f1 : ℕ → FileState = files_of state mid.files.items in
    let f2 : ℕ → FileState = files_of state last.files.items in
    let dir = c.in-Ok.ensures in
    let is = c.in-Err-move_objects.ensures in
    short_then keys f0 f1 f2 (port first.card) (port mid.card) (port last.card) dir.goes_on is.goes_on_err dir.migrates c.in-Ok.moved.moved dir.moves dir.writes c.in-Err-move_objects.halted.fault is.short
