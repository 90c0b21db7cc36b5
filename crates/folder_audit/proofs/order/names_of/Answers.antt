use Rattle.std.proofs.Common.{◌∙◌, ◌<◌, length, None, sym, arith}
use Rattle.std.proofs.lemmas.List.{get_or_default}
use Rattle.store_commit.proofs.Indexing.{indexed_next}
use Rattle.folder_audit.proofs.order.names_of.Goals as goal

pub loop-i-preserved : goal.loop-i-preserved
loop-i-preserved c =
    let entries = c.args.entries.now in
    let low : c.loop-i.i < length entries = omega (arith, c.requires.whole, c.loop-i-test.true) in
    indexed_next c.loop-i.index c.index_entry.new.index entries c.loop-i.i c.requires c.loop-i.invariant c.index-entries-i.result
    (get_or_default entries c.loop-i.i None c.index-entries-i.result low ∙ sym c.index-entries-i.is) c.in_ok-index_entry.ensures
