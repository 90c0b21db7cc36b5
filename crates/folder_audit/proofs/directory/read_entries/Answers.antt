use Rattle.std.proofs.Common.{◌∙◌, ap, subst, sym}
use Rattle.hmac_keys.specs.KeyTable.{dir_tsk}
use Rattle.folder_audit.specs.Objects.{DirectoryStops}
use Rattle.folder_audit.proofs.Opened.{stops_keyed}
use Rattle.folder_audit.proofs.directory.read_entries.Goals as goal

pub returns-in-Err-clause-stops : goal.returns-in-Err-clause-stops
returns-in-Err-clause-stops g c =
    let a = g.G.StoreFile.state c.args.file in
    let b = g.G.StoreFile.state c.in-Err.field-0.file in
    let l = c.in-Err.ensures in
    subst (DirectoryStops c.args.keys.now c.args.root a b) (sym c.directory_answer.ensures)
    (stops_keyed c.args.keys.now c.args.root a b c.dir_tsk.result (c.dir_tsk.ensures ∙ ap dir_tsk c.ssk.ensures) c.in-Err.field-0.fault l.fault l.differs l.cause)
