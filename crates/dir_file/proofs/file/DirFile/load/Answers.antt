use Rattle.std.proofs.Common.{Ok}
use Rattle.disk_model.proofs.Goings.{rests_then}
use Rattle.dir_file.proofs.Loading.{entries_differ, entries_kind, tree_kind, load_refused, loaded_directory, loaded_seen, refused_directory, tree_differs}
use Rattle.dir_file.proofs.PagesRead.{once_loaded}
use Rattle.dir_file.proofs.Seen.{tree_anew}
use Rattle.dir_file.proofs.file.DirFile.load.Goals as goal

pub returns-in-Err-clause-fault : goal.returns-in-Err-clause-fault
returns-in-Err-clause-fault g c =
    refused_directory (g.F.StoreFile.state c.args.file) (g.F.StoreFile.state c.in-Err.field-0.file) c.args.tsk.now c.args.root c.in-Err.field-0.fault c.in-Err.ensures.fault

pub returns-in-Ok-read_directory-clause-directory : goal.returns-in-Ok-read_directory-clause-directory
returns-in-Ok-read_directory-clause-directory g c =
    let t = c.in-Ok.tree in
    loaded_directory (g.F.StoreFile.state c.args.file) (g.F.StoreFile.state t.file) (g.F.StoreFile.state c.read_directory.new.tree.file) c.args.tsk.now t.key c.args.root t.tree
    (Ok c.in-Ok-read_directory.entries.items) c.in-Ok.ensures.rests c.in-Ok-read_directory.ensures.rests c.in-Ok.ensures.loaded c.in-Ok.ensures.key c.in-Ok-read_directory.ensures.directory

pub returns-in-Err-read_directory-clause-fault : goal.returns-in-Err-read_directory-clause-fault
returns-in-Err-read_directory-clause-fault g c =
    let t = c.in-Ok.tree in
    rw (c.into_file-file.ensures)
    (load_refused (g.F.StoreFile.state c.args.file) (g.F.StoreFile.state t.file) (g.F.StoreFile.state c.read_directory.new.tree.file) c.args.tsk.now t.key c.args.root t.tree
    c.in-Err-read_directory.fault c.in-Ok.ensures.rests c.in-Err-read_directory.ensures.rests c.in-Ok.ensures.loaded c.in-Ok.ensures.key c.in-Err-read_directory.ensures.fault)

pub returns-in-Err-clause-differs : goal.returns-in-Err-clause-differs
returns-in-Err-clause-differs g c =
    tree_differs c.args.tsk.now (g.F.StoreFile.state c.in-Err.field-0.file) c.args.root c.in-Err.field-0.fault c.in-Err.ensures.kind c.in-Err.ensures.differs

pub returns-in-Err-read_directory-clause-differs : goal.returns-in-Err-read_directory-clause-differs
returns-in-Err-read_directory-clause-differs g c =
    let t = c.in-Ok.tree in
    let d = g.F.StoreFile.state c.read_directory.new.tree.file in
    rw (c.into_file-file.ensures)
    (entries_differ c.args.tsk.now t.key d c.args.root t.tree c.in-Err-read_directory.fault c.in-Ok.ensures.verified c.in-Ok.ensures.key
    (tree_anew (g.F.StoreFile.state c.args.file) (g.F.StoreFile.state t.file) d c.args.root t.tree (g.met.F.StoreFile.sound t.file) c.in-Ok.ensures.rests c.in-Err-read_directory.ensures.rests c.in-Ok.ensures.seen)
    c.in-Err-read_directory.ensures.differs)

pub returns-in-Ok-read_directory-clause-once : goal.returns-in-Ok-read_directory-clause-once
returns-in-Ok-read_directory-clause-once g c =
    once_loaded (g.F.StoreFile.state c.args.file) (g.F.StoreFile.state c.in-Ok.tree.file) (g.F.StoreFile.state c.read_directory.new.tree.file) c.in-Ok.ensures.rests c.in-Ok.ensures.two
    c.in-Ok-read_directory.ensures.once

pub returns-in-Ok-read_directory-clause-seen : goal.returns-in-Ok-read_directory-clause-seen
returns-in-Ok-read_directory-clause-seen g c =
    let t = c.in-Ok.tree in
    loaded_seen t c.read_directory.new.tree (g.F.StoreFile.state c.args.file) (g.F.StoreFile.state t.file) (g.F.StoreFile.state c.read_directory.new.tree.file) c.args.tsk.now c.args.root
    (Ok c.in-Ok-read_directory.entries.items) c.in-Ok-read_directory.ensures.same c.in-Ok.ensures.key (g.met.F.StoreFile.sound t.file) c.in-Ok.ensures.rests c.in-Ok-read_directory.ensures.rests
    c.in-Ok.ensures.seen c.in-Ok-read_directory.ensures.seen

pub returns-in-Err-clause-kind : goal.returns-in-Err-clause-kind
returns-in-Err-clause-kind g c = tree_kind c.in-Err.field-0.fault c.in-Err.ensures.kind

pub returns-in-Err-read_directory-clause-kind : goal.returns-in-Err-read_directory-clause-kind
returns-in-Err-read_directory-clause-kind g c =
    entries_kind c.in-Ok.tree.key c.in-Ok.tree.tree (g.F.StoreFile.state c.read_directory.new.tree.file) c.in-Err-read_directory.fault c.in-Err-read_directory.ensures.differs

pub returns-in-Ok-read_directory-clause-rests : goal.returns-in-Ok-read_directory-clause-rests
returns-in-Ok-read_directory-clause-rests g c = rests_then _ _ _ c.in-Ok.ensures.rests c.in-Ok-read_directory.ensures.rests

pub returns-in-Err-read_directory-clause-rests_err : goal.returns-in-Err-read_directory-clause-rests_err
returns-in-Err-read_directory-clause-rests_err g c = rw (c.into_file-file.ensures) (rests_then _ _ _ c.in-Ok.ensures.rests c.in-Err-read_directory.ensures.rests)
