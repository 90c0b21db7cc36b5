use Rattle.std.proofs.Common.{◌≡◌}
use Rattle.htree_file.specs.Changes.{changes_of}
use Rattle.htree_file.specs.Staging.{SealsAnew}
use Rattle.htree_file.proofs.version.draw_vectors.Given as goal

abbrev pub invariant-loop-j : goal.invariant-loop-j
invariant-loop-j g l = record {
  anew : SealsAnew (changes_of l.pages) l.initial.table l.table;
  draws : g.E.Entropy.faults l.entropy ≡ g.E.Entropy.faults l.initial.entropy;
  lasts : g.E.Entropy.is_reliable l.initial.entropy → g.E.Entropy.is_reliable l.entropy;
}
