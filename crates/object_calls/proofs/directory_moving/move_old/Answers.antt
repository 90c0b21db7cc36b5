use Rattle.object_calls.proofs.DirectorySteps.{moves_files}
use Rattle.object_calls.proofs.directory_moving.move_old.Goals as goal

pub returns-in-Ok-name_directory-clause-moves : goal.returns-in-Ok-name_directory-clause-moves
returns-in-Ok-name_directory-clause-moves g c =
    let state = g.F.StoreFile.state in
    let port = g.R.RpmbPort.state in
    let copied = c.in-Ok-copy_directory in
    let named = c.in-Ok-name_directory.ensures in
    moves_files c.args.keys.now (state c.args.files.old) (state copied.files.old) (state c.args.files.new) (state copied.files.new) c.args.host.now.key c.name_directory.new.host.key
    (port c.args.host.now.port) (port c.name_directory.new.host.port) c.args.counter c.args.root named.key c.if-counter-eq4294967295.false copied.ensures.copies named.card named.was named.counted
