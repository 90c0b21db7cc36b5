use Rattle.std.proofs.Common.{refl, sym, subst}
use Rattle.disk_model.proofs.Goings.{goes_on_none, rests_then}
use Rattle.folder_export.specs.declared.fault.FileFault.{FileFault}
use Rattle.folder_export.specs.Copies.{OneFailed}
use Rattle.folder_export.proofs.Causes.{failed_then, one_failed_then, passes_none, passes_then}
use Rattle.folder_export.proofs.Copied.{copied_whole}
use Rattle.folder_export.proofs.copying.export_file.Goals as goal

pub returns-in-Err-copy_pages-clause-rests : goal.returns-in-Err-copy_pages-clause-rests
returns-in-Err-copy_pages-clause-rests g c = rests_then _ _ _ c.copied_length.ensures.rests c.copy_pages.ensures.rests

pub returns-in-Err-copy_pages-clause-err : goal.returns-in-Err-copy_pages-clause-err
returns-in-Err-copy_pages-clause-err g c =
    let fault = c.in-Err-copy_pages.fault in
    let first = c.in-Ok.ensures in
    let x = g.G.StoreFile.state c.args.to.now in
    one_failed_then fault.place fault.count c.args.number _ _ _ _ _ _ first.rests.goes_on first.cause (goes_on_none x) (passes_none x) c.in-Err-copy_pages.ensures.err

pub returns-in-Ok-end_at-clause-rests : goal.returns-in-Ok-end_at-clause-rests
returns-in-Ok-end_at-clause-rests g c = rests_then _ _ _ c.copied_length.ensures.rests c.copy_pages.ensures.rests

pub returns-in-Err-end_at-clause-rests : goal.returns-in-Err-end_at-clause-rests
returns-in-Err-end_at-clause-rests g c = rests_then _ _ _ c.copied_length.ensures.rests c.copy_pages.ensures.rests

pub returns-in-Ok-end_at-clause-ok : goal.returns-in-Ok-end_at-clause-ok
returns-in-Ok-end_at-clause-ok g c =
    let first = c.in-Ok.ensures in
    let end = c.in-Ok-end_at.ensures in
    copied_whole (g.F.StoreFile.state c.args.from.now) (g.F.StoreFile.state c.copied_length.new.from) (g.F.StoreFile.state c.copy_pages.new.from)
    (g.G.StoreFile.state c.args.to.now) (g.G.StoreFile.state c.copy_pages.new.to) (g.G.StoreFile.state c.end_at.new.to) c.in-Ok.length
    first.rests first.cause first.told c.copy_pages.ensures.rests c.in_default.ensures.ok c.copy_pages.ensures.goes_on end.goes_on end.passed end.resized end.same end.settled

pub returns-in-Err-end_at-clause-err : goal.returns-in-Err-end_at-clause-err
returns-in-Err-end_at-clause-err g c =
    let a = g.F.StoreFile.state c.args.from.now in
    let b = g.F.StoreFile.state c.copied_length.new.from in
    let d = g.F.StoreFile.state c.copy_pages.new.from in
    let x = g.G.StoreFile.state c.args.to.now in
    let y = g.G.StoreFile.state c.copy_pages.new.to in
    let z = g.G.StoreFile.state c.end_at.new.to in
    let pages = c.in_default.ensures.ok in
    subst (λ (f : FileFault). OneFailed f.place f.count c.args.number a d x z) (sym c.folder_fault.ensures)
    (refl, passes_then a b d c.in-Ok.ensures.cause pages.passed, failed_then x y z c.in-Err-end_at.failed.count c.copy_pages.ensures.goes_on (pages.writes).passed c.in-Err-end_at.ensures.err)
