use Rattle.std.proofs.Common.{sym, subst}
use Rattle.std.specs.List.Sorted.{IsStrictlySortedBy}
use Rattle.std.specs.Map.{keys_of}
use Rattle.store_model.specs.Name.{name_cmp}
use Rattle.dir_index.specs.Index.{IndexEntries}
use Rattle.dir_index.proofs.Places.{sorted_none}
use Rattle.dir_index.proofs.index.DirIndex.new.Goals as goal

pub invariant_of-result : goal.invariant_of-result
invariant_of-result c = subst (λ (es : IndexEntries). IsStrictlySortedBy name_cmp (keys_of es)) (sym c.new.ensures.items) sorted_none
