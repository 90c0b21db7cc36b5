use Rattle.object_calls.proofs.DirectoryCopies.{copies_between, copies_directory}
use Rattle.object_calls.proofs.directory_moving.copy_directory.Goals as goal

pub returns-in-Ok-copy_tree-clause-copies : goal.returns-in-Ok-copy_tree-clause-copies
returns-in-Ok-copy_tree-clause-copies g c =
    let state = g.F.StoreFile.state in
    let looked = c.in-Ok.ensures in
    let copied = c.in-Ok-copy_tree.ensures in
    copies_directory c.args.keys.now (state c.args.files.old) (state c.in-Ok.old) (state c.copy_tree.new.from) (state c.args.files.new) (state c.in-Ok-copy_tree.new) c.args.root looked.looks c.copy_tree.ensures.rests
    looked.passed looked.has copied.keeps copied.pending copied.opens copied.passed

pub returns-in-Err-copy_tree-clause-between : goal.returns-in-Err-copy_tree-clause-between
returns-in-Err-copy_tree-clause-between g c =
    let state = g.F.StoreFile.state in
    copies_between c.args.keys.now (state c.args.files.old) (state c.in-Ok.old) (state c.copy_tree.new.from) (state c.args.files.new) (state c.in-Err-copy_tree.field-0.file) c.args.root c.in-Ok.ensures.looks c.copy_tree.ensures.rests
    c.in-Err-copy_tree.ensures.keeps_err
