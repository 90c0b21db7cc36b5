use Rattle.std.proofs.Common.{subst, sym}
use Rattle.crash_core.specs.declared.fault.DirFault.TheVariants.{Tree}
use Rattle.crash_core.specs.DeviceKeys.{directory_key}
use Rattle.dir_file.proofs.Loading.{refused_directory, tree_differs}
use Rattle.folder_audit.specs.Objects.{DirectoryStops}
use Rattle.folder_audit.proofs.Opened.{stops_loading}
use Rattle.folder_audit.proofs.directory.load_tree.Goals as goal

pub returns-in-Err-clause-stops : goal.returns-in-Err-clause-stops
returns-in-Err-clause-stops g c =
    let a = g.G.StoreFile.state c.args.file in
    let b = g.G.StoreFile.state c.in-Err.field-0.file in
    let key = directory_key c.args.keys.now in
    let fault = c.in-Err.field-0.fault in
    let l = c.in-Err.ensures in
    subst (DirectoryStops c.args.keys.now c.args.root a b) (sym c.directory_answer.ensures)
    (stops_loading c.args.keys.now c.args.root a b (Tree fault) (refused_directory a b key c.args.root fault l.fault) (tree_differs key b c.args.root fault l.kind l.differs) l.cause)
