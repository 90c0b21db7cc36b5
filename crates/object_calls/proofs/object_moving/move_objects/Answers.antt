use Rattle.std.proofs.Common.{◌≡◌, ◌∙◌, ℕ, List, false, refl, sym, ap, subst}
use Rattle.disk_model.specs.State.{FileState}
use Rattle.disk_model.specs.Calls.{GoesOn}
use Rattle.htree_file.specs.Answers.{FilePassed}
use Rattle.object_calls.specs.OpeningFiles.{files_of, numbered_files}
use Rattle.object_calls.specs.Migrated.{LeavesCurrent, MigratesBench, TellsMoves, WritesOnceEach}
use Rattle.object_calls.specs.MigrationRefusals.{MigrationRefused, SpentWithoutRoom}
use Rattle.object_calls.proofs.BenchMoves.{bench_current, bench_goes_on, bench_migrates, bench_moves, bench_passed, bench_refused, bench_short, bench_writes, mount_refused, mount_short, of_bench, refused_goes_on, refused_migrates}
use Rattle.object_calls.proofs.object_moving.move_objects.Goals as goal

pub returns-in-Err-clause-migrates_err : goal.returns-in-Err-clause-migrates_err
returns-in-Err-clause-migrates_err g c =
    let state = g.F.StoreFile.state in
    let port = g.R.RpmbPort.state in
    let keys = c.args.keys.now in
    let card = c.args.bench.card in
    let took = c.take_apart-spare.result in
    let left = c.in-Err.field-0 in
    let is = c.in-Err.ensures in
    let old : ℕ → FileState = numbered_files state took.spare took.dir took.objects.items in
    let new : ℕ → FileState = numbered_files state took.spare left.dir took.objects.items in
    let old_bench : ℕ → FileState = files_of state c.args.bench.files.items in
    let new_bench : ℕ → FileState = files_of state c.put_together-files.result.items in
    let old_is : old_bench ≡ old = c.take_apart-spare.ensures.files in
    let new_is : new_bench ≡ new = c.put_together-files.ensures.files in
    of_bench (λ f h r. MigratesBench f h (port card) (port r) keys) old old_bench new new_bench left.card left.card old_is new_is refl
    (refused_migrates state port took.spare took.dir left.dir took.objects.items card left.card keys c.requires.current is.looks_err is.leaves.card g.met.F.StoreFile.sound)

pub returns-in-Err-clause-refused : goal.returns-in-Err-clause-refused
returns-in-Err-clause-refused g c =
    let state = g.F.StoreFile.state in
    let port = g.R.RpmbPort.state in
    let keys = c.args.keys.now in
    let card = c.args.bench.card in
    let took = c.take_apart-spare.result in
    let left = c.in-Err.field-0 in
    let is = c.in-Err.ensures in
    let old : ℕ → FileState = numbered_files state took.spare took.dir took.objects.items in
    let new : ℕ → FileState = numbered_files state took.spare left.dir took.objects.items in
    let old_bench : ℕ → FileState = files_of state c.args.bench.files.items in
    let new_bench : ℕ → FileState = files_of state c.put_together-files.result.items in
    let old_is : old_bench ≡ old = c.take_apart-spare.ensures.files in
    let new_is : new_bench ≡ new = c.put_together-files.ensures.files in
    let drew : ℕ = g.E.Entropy.faults c.args.entropy.now in
    let draws : ℕ = g.E.Entropy.faults c.mount.new.entropy in
    of_bench (λ f h r. MigrationRefused f h (port card) (port r) keys drew draws c.mount_answer-fault.result) old old_bench new new_bench left.card left.card old_is new_is refl
    (subst (MigrationRefused old new (port card) (port left.card) keys drew draws) (sym c.mount_answer-fault.ensures)
    (mount_refused state port took.spare took.dir left.dir took.objects.items card left.card keys c.requires.current is.looks_err is.leaves.card drew draws left.fault is.refused))

pub returns-in-Err-clause-goes_on_err : goal.returns-in-Err-clause-goes_on_err
returns-in-Err-clause-goes_on_err g c =
    let state = g.F.StoreFile.state in
    let port = g.R.RpmbPort.state in
    let keys = c.args.keys.now in
    let card = c.args.bench.card in
    let took = c.take_apart-spare.result in
    let left = c.in-Err.field-0 in
    let is = c.in-Err.ensures in
    let old : ℕ → FileState = numbered_files state took.spare took.dir took.objects.items in
    let new : ℕ → FileState = numbered_files state took.spare left.dir took.objects.items in
    let old_bench : ℕ → FileState = files_of state c.args.bench.files.items in
    let new_bench : ℕ → FileState = files_of state c.put_together-files.result.items in
    let old_is : old_bench ≡ old = c.take_apart-spare.ensures.files in
    let new_is : new_bench ≡ new = c.put_together-files.ensures.files in
    of_bench (λ f h r. (n : ℕ) → GoesOn (f n) (h n)) old old_bench new new_bench left.card left.card old_is new_is refl
    (refused_goes_on state port took.spare took.dir left.dir took.objects.items card left.card keys c.requires.current is.looks_err is.leaves.card)

pub returns-in-Ok-answer-clause-migrates : goal.returns-in-Ok-answer-clause-migrates
returns-in-Ok-answer-clause-migrates g c =
    let state = g.F.StoreFile.state in
    let port = g.R.RpmbPort.state in
    let keys = c.args.keys.now in
    let card = c.args.bench.card in
    let took = c.take_apart-spare.result in
    let g0 = c.in-Ok.gate in
    let g1 = c.move_each-answer.new.gate in
    let moved : List g.row.F.Denot = c.move_each-answer.new.files.items in
    let is = c.in-Ok.ensures in
    let each = c.move_each-answer.ensures in
    let drew : ℕ = g.E.Entropy.faults c.args.entropy.now in
    let between : ℕ = g.E.Entropy.faults c.mount.new.entropy in
    let draws : ℕ = g.E.Entropy.faults c.move_each-answer.new.entropy in
    let old : ℕ → FileState = numbered_files state took.spare took.dir took.objects.items in
    let new : ℕ → FileState = numbered_files state took.spare g1.dir.file moved in
    let old_bench : ℕ → FileState = files_of state c.args.bench.files.items in
    let new_bench : ℕ → FileState = files_of state c.put_together-files-2.result.items in
    let closed = c.close-dir.result in
    let dir_is : closed.0 ≡ g1.dir.file = ap (λ p. p.0) c.close-dir.ensures.gives in
    let card_is : closed.1 ≡ g1.host.port = ap (λ p. p.1) c.close-dir.ensures.gives in
    let old_is : old_bench ≡ old = c.take_apart-spare.ensures.files in
    let new_is : new_bench ≡ new = c.put_together-files-2.ensures.files ∙ ap (λ d. numbered_files state took.spare d moved) dir_is in
    of_bench (λ f h r. MigratesBench f h (port card) (port r) keys) old old_bench new new_bench g1.host.port closed.1 old_is new_is card_is
    (bench_migrates state port took.spare g.met.F.StoreFile.sound took.dir card keys took.objects.items moved g0 g1 drew between draws is.opens is.looks is.passed each.goes_on each.migrates)

pub returns-in-Ok-answer-clause-moves : goal.returns-in-Ok-answer-clause-moves
returns-in-Ok-answer-clause-moves g c =
    let state = g.F.StoreFile.state in
    let port = g.R.RpmbPort.state in
    let keys = c.args.keys.now in
    let card = c.args.bench.card in
    let took = c.take_apart-spare.result in
    let g0 = c.in-Ok.gate in
    let g1 = c.move_each-answer.new.gate in
    let moved : List g.row.F.Denot = c.move_each-answer.new.files.items in
    let is = c.in-Ok.ensures in
    let each = c.move_each-answer.ensures in
    let drew : ℕ = g.E.Entropy.faults c.args.entropy.now in
    let between : ℕ = g.E.Entropy.faults c.mount.new.entropy in
    let draws : ℕ = g.E.Entropy.faults c.move_each-answer.new.entropy in
    let old : ℕ → FileState = numbered_files state took.spare took.dir took.objects.items in
    let new : ℕ → FileState = numbered_files state took.spare g1.dir.file moved in
    let old_bench : ℕ → FileState = files_of state c.args.bench.files.items in
    let new_bench : ℕ → FileState = files_of state c.put_together-files-2.result.items in
    let closed = c.close-dir.result in
    let dir_is : closed.0 ≡ g1.dir.file = ap (λ p. p.0) c.close-dir.ensures.gives in
    let card_is : closed.1 ≡ g1.host.port = ap (λ p. p.1) c.close-dir.ensures.gives in
    let old_is : old_bench ≡ old = c.take_apart-spare.ensures.files in
    let new_is : new_bench ≡ new = c.put_together-files-2.ensures.files ∙ ap (λ d. numbered_files state took.spare d moved) dir_is in
    of_bench (λ f h r. TellsMoves f h (port card) (port r) keys false c.in-Ok-answer.moved) old old_bench new new_bench g1.host.port closed.1 old_is new_is card_is
    (bench_moves state port took.spare g.met.F.StoreFile.sound took.dir card keys took.objects.items moved g0 g1 drew between draws is.opens is.looks is.passed each.goes_on c.in-Ok-answer.moved c.in-Ok-answer.ensures.moves c.requires.current)

pub returns-in-Ok-answer-clause-current : goal.returns-in-Ok-answer-clause-current
returns-in-Ok-answer-clause-current g c =
    let state = g.F.StoreFile.state in
    let port = g.R.RpmbPort.state in
    let keys = c.args.keys.now in
    let card = c.args.bench.card in
    let took = c.take_apart-spare.result in
    let g0 = c.in-Ok.gate in
    let g1 = c.move_each-answer.new.gate in
    let moved : List g.row.F.Denot = c.move_each-answer.new.files.items in
    let is = c.in-Ok.ensures in
    let each = c.move_each-answer.ensures in
    let drew : ℕ = g.E.Entropy.faults c.args.entropy.now in
    let between : ℕ = g.E.Entropy.faults c.mount.new.entropy in
    let draws : ℕ = g.E.Entropy.faults c.move_each-answer.new.entropy in
    let old : ℕ → FileState = numbered_files state took.spare took.dir took.objects.items in
    let new : ℕ → FileState = numbered_files state took.spare g1.dir.file moved in
    let old_bench : ℕ → FileState = files_of state c.args.bench.files.items in
    let new_bench : ℕ → FileState = files_of state c.put_together-files-2.result.items in
    let closed = c.close-dir.result in
    let dir_is : closed.0 ≡ g1.dir.file = ap (λ p. p.0) c.close-dir.ensures.gives in
    let card_is : closed.1 ≡ g1.host.port = ap (λ p. p.1) c.close-dir.ensures.gives in
    let old_is : old_bench ≡ old = c.take_apart-spare.ensures.files in
    let new_is : new_bench ≡ new = c.put_together-files-2.ensures.files ∙ ap (λ d. numbered_files state took.spare d moved) dir_is in
    of_bench (λ f h r. LeavesCurrent h (port r) keys) old old_bench new new_bench g1.host.port closed.1 old_is new_is card_is
    (bench_current state port took.spare g.met.F.StoreFile.sound took.dir card keys took.objects.items moved g0 g1 drew between draws is.opens is.looks is.passed each.goes_on c.in-Ok-answer.moved c.in-Ok-answer.ensures.moves)

pub returns-in-Ok-answer-clause-writes : goal.returns-in-Ok-answer-clause-writes
returns-in-Ok-answer-clause-writes g c =
    let state = g.F.StoreFile.state in
    let port = g.R.RpmbPort.state in
    let keys = c.args.keys.now in
    let card = c.args.bench.card in
    let took = c.take_apart-spare.result in
    let g0 = c.in-Ok.gate in
    let g1 = c.move_each-answer.new.gate in
    let moved : List g.row.F.Denot = c.move_each-answer.new.files.items in
    let is = c.in-Ok.ensures in
    let each = c.move_each-answer.ensures in
    let drew : ℕ = g.E.Entropy.faults c.args.entropy.now in
    let between : ℕ = g.E.Entropy.faults c.mount.new.entropy in
    let draws : ℕ = g.E.Entropy.faults c.move_each-answer.new.entropy in
    let old : ℕ → FileState = numbered_files state took.spare took.dir took.objects.items in
    let new : ℕ → FileState = numbered_files state took.spare g1.dir.file moved in
    let old_bench : ℕ → FileState = files_of state c.args.bench.files.items in
    let new_bench : ℕ → FileState = files_of state c.put_together-files-2.result.items in
    let closed = c.close-dir.result in
    let dir_is : closed.0 ≡ g1.dir.file = ap (λ p. p.0) c.close-dir.ensures.gives in
    let card_is : closed.1 ≡ g1.host.port = ap (λ p. p.1) c.close-dir.ensures.gives in
    let old_is : old_bench ≡ old = c.take_apart-spare.ensures.files in
    let new_is : new_bench ≡ new = c.put_together-files-2.ensures.files ∙ ap (λ d. numbered_files state took.spare d moved) dir_is in
    of_bench (λ f h r. WritesOnceEach (port card) (port r) keys false c.in-Ok-answer.moved) old old_bench new new_bench g1.host.port closed.1 old_is new_is card_is
    (bench_writes state port took.spare g.met.F.StoreFile.sound took.dir card keys took.objects.items moved g0 g1 drew between draws is.opens is.looks is.passed each.goes_on c.in-Ok-answer.moved c.in-Ok-answer.ensures.moves)

pub returns-in-Ok-answer-clause-goes_on : goal.returns-in-Ok-answer-clause-goes_on
returns-in-Ok-answer-clause-goes_on g c =
    let state = g.F.StoreFile.state in
    let port = g.R.RpmbPort.state in
    let keys = c.args.keys.now in
    let card = c.args.bench.card in
    let took = c.take_apart-spare.result in
    let g0 = c.in-Ok.gate in
    let g1 = c.move_each-answer.new.gate in
    let moved : List g.row.F.Denot = c.move_each-answer.new.files.items in
    let is = c.in-Ok.ensures in
    let each = c.move_each-answer.ensures in
    let drew : ℕ = g.E.Entropy.faults c.args.entropy.now in
    let between : ℕ = g.E.Entropy.faults c.mount.new.entropy in
    let draws : ℕ = g.E.Entropy.faults c.move_each-answer.new.entropy in
    let old : ℕ → FileState = numbered_files state took.spare took.dir took.objects.items in
    let new : ℕ → FileState = numbered_files state took.spare g1.dir.file moved in
    let old_bench : ℕ → FileState = files_of state c.args.bench.files.items in
    let new_bench : ℕ → FileState = files_of state c.put_together-files-2.result.items in
    let closed = c.close-dir.result in
    let dir_is : closed.0 ≡ g1.dir.file = ap (λ p. p.0) c.close-dir.ensures.gives in
    let card_is : closed.1 ≡ g1.host.port = ap (λ p. p.1) c.close-dir.ensures.gives in
    let old_is : old_bench ≡ old = c.take_apart-spare.ensures.files in
    let new_is : new_bench ≡ new = c.put_together-files-2.ensures.files ∙ ap (λ d. numbered_files state took.spare d moved) dir_is in
    of_bench (λ f h r. (n : ℕ) → GoesOn (f n) (h n)) old old_bench new new_bench g1.host.port closed.1 old_is new_is card_is
    (bench_goes_on state port took.spare g.met.F.StoreFile.sound took.dir card keys took.objects.items moved g0 g1 drew between draws is.opens is.looks is.passed each.goes_on)

pub returns-in-Ok-answer-clause-passed : goal.returns-in-Ok-answer-clause-passed
returns-in-Ok-answer-clause-passed g c =
    let state = g.F.StoreFile.state in
    let port = g.R.RpmbPort.state in
    let keys = c.args.keys.now in
    let card = c.args.bench.card in
    let took = c.take_apart-spare.result in
    let g0 = c.in-Ok.gate in
    let g1 = c.move_each-answer.new.gate in
    let moved : List g.row.F.Denot = c.move_each-answer.new.files.items in
    let is = c.in-Ok.ensures in
    let each = c.move_each-answer.ensures in
    let drew : ℕ = g.E.Entropy.faults c.args.entropy.now in
    let between : ℕ = g.E.Entropy.faults c.mount.new.entropy in
    let draws : ℕ = g.E.Entropy.faults c.move_each-answer.new.entropy in
    let old : ℕ → FileState = numbered_files state took.spare took.dir took.objects.items in
    let new : ℕ → FileState = numbered_files state took.spare g1.dir.file moved in
    let old_bench : ℕ → FileState = files_of state c.args.bench.files.items in
    let new_bench : ℕ → FileState = files_of state c.put_together-files-2.result.items in
    let closed = c.close-dir.result in
    let dir_is : closed.0 ≡ g1.dir.file = ap (λ p. p.0) c.close-dir.ensures.gives in
    let card_is : closed.1 ≡ g1.host.port = ap (λ p. p.1) c.close-dir.ensures.gives in
    let old_is : old_bench ≡ old = c.take_apart-spare.ensures.files in
    let new_is : new_bench ≡ new = c.put_together-files-2.ensures.files ∙ ap (λ d. numbered_files state took.spare d moved) dir_is in
    of_bench (λ f h r. (n : ℕ) → FilePassed (f n) (h n)) old old_bench new new_bench g1.host.port closed.1 old_is new_is card_is
    (bench_passed state port took.spare g.met.F.StoreFile.sound took.dir card keys took.objects.items moved g0 g1 drew between draws is.opens is.looks is.passed each.goes_on c.in-Ok-answer.ensures.passed)

pub returns-in-Err-answer-clause-migrates_err : goal.returns-in-Err-answer-clause-migrates_err
returns-in-Err-answer-clause-migrates_err g c =
    let state = g.F.StoreFile.state in
    let port = g.R.RpmbPort.state in
    let keys = c.args.keys.now in
    let card = c.args.bench.card in
    let took = c.take_apart-spare.result in
    let g0 = c.in-Ok.gate in
    let g1 = c.move_each-answer.new.gate in
    let moved : List g.row.F.Denot = c.move_each-answer.new.files.items in
    let is = c.in-Ok.ensures in
    let each = c.move_each-answer.ensures in
    let drew : ℕ = g.E.Entropy.faults c.args.entropy.now in
    let between : ℕ = g.E.Entropy.faults c.mount.new.entropy in
    let draws : ℕ = g.E.Entropy.faults c.move_each-answer.new.entropy in
    let old : ℕ → FileState = numbered_files state took.spare took.dir took.objects.items in
    let new : ℕ → FileState = numbered_files state took.spare g1.dir.file moved in
    let old_bench : ℕ → FileState = files_of state c.args.bench.files.items in
    let new_bench : ℕ → FileState = files_of state c.put_together-files-2.result.items in
    let closed = c.close-dir.result in
    let dir_is : closed.0 ≡ g1.dir.file = ap (λ p. p.0) c.close-dir.ensures.gives in
    let card_is : closed.1 ≡ g1.host.port = ap (λ p. p.1) c.close-dir.ensures.gives in
    let old_is : old_bench ≡ old = c.take_apart-spare.ensures.files in
    let new_is : new_bench ≡ new = c.put_together-files-2.ensures.files ∙ ap (λ d. numbered_files state took.spare d moved) dir_is in
    of_bench (λ f h r. MigratesBench f h (port card) (port r) keys) old old_bench new new_bench g1.host.port closed.1 old_is new_is card_is
    (bench_migrates state port took.spare g.met.F.StoreFile.sound took.dir card keys took.objects.items moved g0 g1 drew between draws is.opens is.looks is.passed each.goes_on each.migrates)

pub returns-in-Err-answer-clause-refused : goal.returns-in-Err-answer-clause-refused
returns-in-Err-answer-clause-refused g c =
    let state = g.F.StoreFile.state in
    let port = g.R.RpmbPort.state in
    let keys = c.args.keys.now in
    let card = c.args.bench.card in
    let took = c.take_apart-spare.result in
    let g0 = c.in-Ok.gate in
    let g1 = c.move_each-answer.new.gate in
    let moved : List g.row.F.Denot = c.move_each-answer.new.files.items in
    let is = c.in-Ok.ensures in
    let each = c.move_each-answer.ensures in
    let drew : ℕ = g.E.Entropy.faults c.args.entropy.now in
    let between : ℕ = g.E.Entropy.faults c.mount.new.entropy in
    let draws : ℕ = g.E.Entropy.faults c.move_each-answer.new.entropy in
    let old : ℕ → FileState = numbered_files state took.spare took.dir took.objects.items in
    let new : ℕ → FileState = numbered_files state took.spare g1.dir.file moved in
    let old_bench : ℕ → FileState = files_of state c.args.bench.files.items in
    let new_bench : ℕ → FileState = files_of state c.put_together-files-2.result.items in
    let closed = c.close-dir.result in
    let dir_is : closed.0 ≡ g1.dir.file = ap (λ p. p.0) c.close-dir.ensures.gives in
    let card_is : closed.1 ≡ g1.host.port = ap (λ p. p.1) c.close-dir.ensures.gives in
    let old_is : old_bench ≡ old = c.take_apart-spare.ensures.files in
    let new_is : new_bench ≡ new = c.put_together-files-2.ensures.files ∙ ap (λ d. numbered_files state took.spare d moved) dir_is in
    of_bench (λ f h r. MigrationRefused f h (port card) (port r) keys drew draws c.in-Err-answer.fault) old old_bench new new_bench g1.host.port closed.1 old_is new_is card_is
    (bench_refused state port took.spare g.met.F.StoreFile.sound took.dir card keys took.objects.items moved g0 g1 drew between draws is.opens is.looks is.passed each.goes_on c.in-Err-answer.fault c.in-Err-answer.ensures.stops)

pub returns-in-Err-answer-clause-goes_on_err : goal.returns-in-Err-answer-clause-goes_on_err
returns-in-Err-answer-clause-goes_on_err g c =
    let state = g.F.StoreFile.state in
    let port = g.R.RpmbPort.state in
    let keys = c.args.keys.now in
    let card = c.args.bench.card in
    let took = c.take_apart-spare.result in
    let g0 = c.in-Ok.gate in
    let g1 = c.move_each-answer.new.gate in
    let moved : List g.row.F.Denot = c.move_each-answer.new.files.items in
    let is = c.in-Ok.ensures in
    let each = c.move_each-answer.ensures in
    let drew : ℕ = g.E.Entropy.faults c.args.entropy.now in
    let between : ℕ = g.E.Entropy.faults c.mount.new.entropy in
    let draws : ℕ = g.E.Entropy.faults c.move_each-answer.new.entropy in
    let old : ℕ → FileState = numbered_files state took.spare took.dir took.objects.items in
    let new : ℕ → FileState = numbered_files state took.spare g1.dir.file moved in
    let old_bench : ℕ → FileState = files_of state c.args.bench.files.items in
    let new_bench : ℕ → FileState = files_of state c.put_together-files-2.result.items in
    let closed = c.close-dir.result in
    let dir_is : closed.0 ≡ g1.dir.file = ap (λ p. p.0) c.close-dir.ensures.gives in
    let card_is : closed.1 ≡ g1.host.port = ap (λ p. p.1) c.close-dir.ensures.gives in
    let old_is : old_bench ≡ old = c.take_apart-spare.ensures.files in
    let new_is : new_bench ≡ new = c.put_together-files-2.ensures.files ∙ ap (λ d. numbered_files state took.spare d moved) dir_is in
    of_bench (λ f h r. (n : ℕ) → GoesOn (f n) (h n)) old old_bench new new_bench g1.host.port closed.1 old_is new_is card_is
    (bench_goes_on state port took.spare g.met.F.StoreFile.sound took.dir card keys took.objects.items moved g0 g1 drew between draws is.opens is.looks is.passed each.goes_on)

pub returns-in-Err-clause-short : goal.returns-in-Err-clause-short
returns-in-Err-clause-short g c =
    let state = g.F.StoreFile.state in
    let port = g.R.RpmbPort.state in
    let keys = c.args.keys.now in
    let card = c.args.bench.card in
    let took = c.take_apart-spare.result in
    let left = c.in-Err.field-0 in
    let is = c.in-Err.ensures in
    let old : ℕ → FileState = numbered_files state took.spare took.dir took.objects.items in
    let new : ℕ → FileState = numbered_files state took.spare left.dir took.objects.items in
    let old_bench : ℕ → FileState = files_of state c.args.bench.files.items in
    let new_bench : ℕ → FileState = files_of state c.put_together-files.result.items in
    let old_is : old_bench ≡ old = c.take_apart-spare.ensures.files in
    let new_is : new_bench ≡ new = c.put_together-files.ensures.files in
    let drew : ℕ = g.E.Entropy.faults c.args.entropy.now in
    let draws : ℕ = g.E.Entropy.faults c.mount.new.entropy in
    of_bench (λ f h r. SpentWithoutRoom f h (port card) keys c.mount_answer-fault.result) old old_bench new new_bench left.card left.card old_is new_is refl
    (subst (SpentWithoutRoom old new (port card) keys) (sym c.mount_answer-fault.ensures)
    (mount_short state port took.spare took.dir left.dir took.objects.items card left.card keys c.requires.current is.looks_err is.leaves.card drew draws old new left.fault is.refused))

pub returns-in-Err-answer-clause-short : goal.returns-in-Err-answer-clause-short
returns-in-Err-answer-clause-short g c =
    let state = g.F.StoreFile.state in
    let port = g.R.RpmbPort.state in
    let keys = c.args.keys.now in
    let card = c.args.bench.card in
    let took = c.take_apart-spare.result in
    let g0 = c.in-Ok.gate in
    let g1 = c.move_each-answer.new.gate in
    let moved : List g.row.F.Denot = c.move_each-answer.new.files.items in
    let is = c.in-Ok.ensures in
    let each = c.move_each-answer.ensures in
    let drew : ℕ = g.E.Entropy.faults c.args.entropy.now in
    let between : ℕ = g.E.Entropy.faults c.mount.new.entropy in
    let draws : ℕ = g.E.Entropy.faults c.move_each-answer.new.entropy in
    let old : ℕ → FileState = numbered_files state took.spare took.dir took.objects.items in
    let new : ℕ → FileState = numbered_files state took.spare g1.dir.file moved in
    let old_bench : ℕ → FileState = files_of state c.args.bench.files.items in
    let new_bench : ℕ → FileState = files_of state c.put_together-files-2.result.items in
    let closed = c.close-dir.result in
    let dir_is : closed.0 ≡ g1.dir.file = ap (λ p. p.0) c.close-dir.ensures.gives in
    let card_is : closed.1 ≡ g1.host.port = ap (λ p. p.1) c.close-dir.ensures.gives in
    let old_is : old_bench ≡ old = c.take_apart-spare.ensures.files in
    let new_is : new_bench ≡ new = c.put_together-files-2.ensures.files ∙ ap (λ d. numbered_files state took.spare d moved) dir_is in
    of_bench (λ f h r. SpentWithoutRoom f h (port card) keys c.in-Err-answer.fault) old old_bench new new_bench g1.host.port closed.1 old_is new_is card_is
    (bench_short state port took.spare g.met.F.StoreFile.sound took.dir card keys took.objects.items moved g0 g1 drew between draws is.opens is.looks is.passed each.goes_on c.in-Err-answer.fault c.in-Err-answer.ensures.stops
    c.requires.current)
