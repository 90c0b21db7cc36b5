use Rattle.std.proofs.Common.{ap, sym, subst, ◌∙◌, rules, arith}
use Rattle.std.proofs.lemmas.List.Sorted.{IsPartitionPoint-from_clause}
use Rattle.std.specs.List.Sorted.{IsStrictlySortedBy}
use Rattle.std.specs.Map.{keys_of}
use Rattle.store_model.specs.Name.{name_cmp}
use Rattle.dir_index.specs.Index.{IndexEntry, IndexEntries, IndexState}
use Rattle.dir_index.specs.Search.{IsBoundary, precedes}
use Rattle.dir_index.proofs.Above.{partitioned}
use Rattle.dir_index.proofs.index.DirIndex.first_above.Goals as goal

pub returns : goal.returns
returns c =
    let es = c.deref.result.now in
    let sorted = subst (λ (es : IndexEntries). IsStrictlySortedBy name_cmp (keys_of es)) (sym c.deref.ensures.value) c.self.invariant in
    let point = IsPartitionPoint-from_clause (λ (e : IndexEntry). precedes c.args.app c.args.after e.0) c.deref.result.now c.partition_point.result c.partition_point.ensures.partitioned (partitioned c.args.app c.args.after c.deref.result.now sorted) (λ a r q k. search rules) in
    let h : IsBoundary c.deref.result.now c.args.app c.args.after c.partition_point.result = record {
      within = c.partition_point.ensures.bound;
      before = λ k d lt. point.0 k d (omega arith) lt;
      behind = λ k d le lt. point.1 k d le lt;
    } in
    subst (λ (es : IndexEntries). IsBoundary es c.args.app c.args.after c.partition_point.result)
    (c.deref.ensures.value ∙ ap (λ (s : IndexState). s.entries) c.self.view_is) h
