use Rattle.std.proofs.Common.{◌≡◌}
use Rattle.object_calls.specs.Opening.{bench_files, entries_in}
use Rattle.run_acts.specs.ListedObjects.{IsListedTo}
use Rattle.run_acts.proofs.ListedEntries.{how_many_past}
use Rattle.run_acts.proofs.object_list.list_opening.Given as goal

abbrev pub invariant-objects : goal.invariant-objects
invariant-objects g l = record {
  listed : IsListedTo (entries_in l.fn.opening) l.fn.opening.storage_key (bench_files g.F.StoreFile.state l.fn.opening) l.after (bench_files g.F.StoreFile.state l.opening) l.lines.items;
  same : l.opening ≡ record l.fn.opening { files = l.opening.files };
}

abbrev pub decreases-objects : goal.decreases-objects
decreases-objects g l = how_many_past l.after (entries_in l.opening)
