use Rattle.std.proofs.Common.{◌≡◌, ◌++◌, length, take}
use Rattle.tree_paths.specs.Paths.{holds}
use Rattle.script_text.specs.BadBlocks.{bad_text, is_some_of, passing}
use Rattle.script_text.proofs.bad_blocks.put_bad.Given as goal

abbrev pub invariant-loop-k : goal.invariant-loop-k
invariant-loop-k l = record {
  same : l.out.items ≡ l.initial.out.items ++ bad_text (passing (holds l.bad) l.k);
  found : l.some ≡ is_some_of (passing (holds l.bad) l.k);
  kept : take (length l.initial.out.items) l.out.items ≡ l.initial.out.items;
}
