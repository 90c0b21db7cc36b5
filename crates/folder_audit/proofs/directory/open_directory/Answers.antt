use Rattle.std.proofs.Common.{◌∙◌, ap, sym}
use Rattle.disk_model.proofs.Goings.{rests_then}
use Rattle.crash_core.specs.OldFormats.{first_old}
use Rattle.crash_core.proofs.OldFormats.{none_old_current}
use Rattle.folder_audit.proofs.Opened.{stops_later}
use Rattle.folder_audit.proofs.Ordered.{form_of}
use Rattle.folder_audit.proofs.directory.open_directory.Goals as goal

pub returns-in-Ok-load_tree-clause-current : goal.returns-in-Ok-load_tree-clause-current
returns-in-Ok-load_tree-clause-current g c =
    let entries = c.in-Ok.read.entries.items in
    none_old_current entries (form_of entries c.in-Ok.ensures.read.are) (sym (c.in_default.ensures ∙ ap first_old c.deref.ensures.value))

pub returns-in-Ok-load_tree-clause-rests : goal.returns-in-Ok-load_tree-clause-rests
returns-in-Ok-load_tree-clause-rests g c = rests_then _ _ _ c.in-Ok.ensures.rests c.in-Ok-load_tree.ensures.rests

pub returns-in-Err-load_tree-clause-rests_err : goal.returns-in-Err-load_tree-clause-rests_err
returns-in-Err-load_tree-clause-rests_err g c = rests_then _ _ _ c.in-Ok.ensures.rests c.in-Err-load_tree.ensures.rests_err

pub returns-in-Err-load_tree-clause-stops : goal.returns-in-Err-load_tree-clause-stops
returns-in-Err-load_tree-clause-stops g c =
    let state = g.G.StoreFile.state in
    let unread = c.in-Err-load_tree.unread in
    stops_later c.args.keys.now c.args.root (state c.args.file) (state c.in-Ok.read.file) (state unread.file) unread.fault c.in-Ok.ensures.rests c.in-Ok.ensures.passed c.in-Err-load_tree.ensures.stops
