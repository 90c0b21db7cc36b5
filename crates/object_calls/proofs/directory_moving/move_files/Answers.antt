use Rattle.object_calls.proofs.DirectorySteps.{settles_moved, settles_unmoved, stops_unmoved}
use Rattle.object_calls.proofs.directory_moving.move_files.Goals as goal

pub returns-then-root-eq-FORMAT-clause-moves : goal.returns-then-root-eq-FORMAT-clause-moves
returns-then-root-eq-FORMAT-clause-moves g c =
    let state = g.F.StoreFile.state in
    let port = g.R.RpmbPort.state in
    let read = c.in-Ok.ensures in
    settles_unmoved c.args.keys.now (state c.args.files.old) (state c.args.files.old) (state c.args.files.new) (state c.args.files.new) c.args.host.now.key c.read_root.new.host.key
    (port c.args.host.now.port) (port c.read_root.new.host.port) (port c.read_root.new.host.port) c.in-Ok.read.0 c.in-Ok.read.1 read.key read.form read.stays read.passed.0 read.told c.if-root-eq-FORMAT.true

pub returns-in-Ok-move_old-clause-moves : goal.returns-in-Ok-move_old-clause-moves
returns-in-Ok-move_old-clause-moves g c =
    let state = g.F.StoreFile.state in
    let port = g.R.RpmbPort.state in
    let read = c.in-Ok.ensures in
    let left = c.in-Ok-move_old.files in
    settles_moved c.args.keys.now (state c.args.files.old) (state left.old) (state c.args.files.new) (state left.new) c.args.host.now.key c.read_root.new.host.key
    (port c.args.host.now.port) (port c.read_root.new.host.port) (port c.move_old.new.host.port) c.in-Ok.read.0 c.in-Ok.read.1 read.key read.form read.stays read.passed.0 read.told c.if-root-eq-FORMAT.false
    c.in-Ok-move_old.ensures.moves

pub returns-in-Err-move_old-clause-stops : goal.returns-in-Err-move_old-clause-stops
returns-in-Err-move_old-clause-stops g c =
    let state = g.F.StoreFile.state in
    let port = g.R.RpmbPort.state in
    let faults = g.E.Entropy.faults in
    let read = c.in-Ok.ensures in
    let left = c.in-Err-move_old.halted in
    stops_unmoved c.args.keys.now (state c.args.files.old) (state left.files.old) (state c.args.files.new) (state left.files.new) c.args.host.now.key c.read_root.new.host.key
    (port c.args.host.now.port) (port c.read_root.new.host.port) (port c.move_old.new.host.port) c.in-Ok.read.0 c.in-Ok.read.1 read.key read.form read.stays read.passed.0 read.told
    (faults c.args.entropy.now) (faults c.read_root.new.entropy) (faults c.move_old.new.entropy) left.fault read.passed.1 c.if-root-eq-FORMAT.false c.in-Err-move_old.ensures.stops
