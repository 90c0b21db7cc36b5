use Rattle.std.proofs.Common.{inl}
use Rattle.dir_file.proofs.MadeDirectory.{made_held, made_inside}
use Rattle.dir_file.proofs.SealedEntries.{sealed_made}
use Rattle.dir_file.proofs.file.DirFile.make.Goals as goal

pub invariant_of-dir : goal.invariant_of-dir
invariant_of-dir g c =
    let m = c.in-Ok-make.ensures in
    made_inside c.in-Ok-make.tree c.args.tsk.now c.in-Ok-make.root c.in-Ok.entries.items c.in-Ok.ensures m.key m.root.0 m.verified m.bytes m.idle

pub returns-in-Ok-make-clause-held : goal.returns-in-Ok-make-clause-held
returns-in-Ok-make-clause-held g c honest =
    let m = c.in-Ok-make.ensures in
    let s = g.F.StoreFile.state c.in-Ok-make.tree.file in
    rw (c.whole-root.ensures.is)
    (made_held s c.args.tsk.now c.in-Ok-make.root c.in-Ok-make.tree.tree c.blank_pages-pages.result (g.met.F.StoreFile.sound c.in-Ok-make.tree.file) (m.firm honest) c.blank_pages-pages.ensures
    (m.loaded (inl honest)) (m.opened (inl honest)))

pub returns-in-Ok-make-clause-pages : goal.returns-in-Ok-make-clause-pages
returns-in-Ok-make-clause-pages g c =
    let m = c.in-Ok-make.ensures in
    sealed_made c.args.tsk.now c.in-Ok-make.tree.key c.in-Ok-make.tree.tree c.blank_pages-pages.result c.blank_pages-pages.ensures m.key m.bytes m.seals
