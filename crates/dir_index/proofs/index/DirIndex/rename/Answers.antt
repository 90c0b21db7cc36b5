use Rattle.std.proofs.Common.{ap, ◌∙◌}
use Rattle.std.specs.Map.{lookup}
use Rattle.dir_index.specs.Index.{IndexEntries, named}
use Rattle.dir_index.proofs.Places.{at, lookup_without}
use Rattle.dir_index.proofs.index.DirIndex.rename.Goals as goal

pub insert-requires-clause-fresh : goal.insert-requires-clause-fresh
insert-requires-clause-fresh c =
    ap (λ (es : IndexEntries). lookup (at (named c.args.app c.args.to)) es) c.remove.ensures.entries
    ∙ lookup_without c.args.self.now.entries (named c.args.app c.args.from) (named c.args.app c.args.to) c.requires
