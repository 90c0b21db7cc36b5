use Rattle.std.proofs.Common.{List, ℕ, sym, subst}
use Rattle.htree_file.specs.Copies.{IsCopy}
use Rattle.htree_file.proofs.CopyOpens.{copy_opens}
use Rattle.htree_file.proofs.copying.copy_tree.Goals as goal

pub returns-in-Ok-clause-copied : goal.returns-in-Ok-clause-copied
returns-in-Ok-clause-copied g c = λ told known.
    let z = g.F.StoreFile.state c.make_copy.new.to in
    subst (λ (l : List ℕ). IsCopy l z.reads c.args.root c.args.format) (sym (c.make_copy.ensures.run.rests.reads told.1)) (c.in-Ok.ensures.copied told known)

pub returns-in-Ok-clause-opens : goal.returns-in-Ok-clause-opens
returns-in-Ok-clause-opens g c = λ told known.
    let b = g.F.StoreFile.state c.make_copy.new.from in
    let z = g.F.StoreFile.state c.make_copy.new.to in
    copy_opens b.reads z.reads c.args.root c.args.format c.requires (returns-in-Ok-clause-copied g c told known)
