use Rattle.std.proofs.Common.{◌+◌, ◌/◌, ◌≤◌, length, slice_index, arith}
use Rattle.tree_paths.proofs.Halving.{on_path_here, on_path_root, on_path_up}
use Rattle.tree_paths.proofs.paths.touched_nodes.Goals as goal

pub returns-clause-closed : goal.returns-clause-closed
returns-clause-closed c = λ some.
    let blocks = c.args.blocks.now in
    let inv = c.loop-block.invariant in
    let whole : length blocks ≤ c.loop-block.block-index = omega arith in
    record {
      root = inv.all 0 (omega arith) 1 (on_path_root (slice_index blocks 0 + 1) (omega arith));
      up = λ n more has. let from = inv.only n has in inv.all from.0 from.1 (n / 2) (on_path_up n (slice_index blocks from.0 + 1) from.2 more);
      block = λ i lt. inv.all i (omega arith) (slice_index blocks i + 1) (on_path_here (slice_index blocks i + 1) (omega arith));
    }
