use Rattle.std.proofs.Common.{◌≡◌, ⊎_elim, ℕ, ◌+◌, true, subst, arith, below_more}
use Rattle.tree_paths.specs.Paths.{holds}
use Rattle.tree_paths.proofs.Halving.{added_here, added_old, added_only}
use Rattle.htree_file.specs.Changes.{block_at, changes_of}
use Rattle.htree_file.proofs.write_set.own_nodes.Goals as goal

pub loop-j-preserved : goal.loop-j-preserved
loop-j-preserved c =
    let old = holds c.loop-j.nodes in
    let new = holds c.add.new.self in
    let changes = changes_of c.args.pages.now in
    let n : ℕ = c.block.result + 1 in
    let before = c.loop-j.invariant in
    record {
      all = below_more _ _ (λ i h. added_old new old n c.add.ensures (block_at changes i + 1) (before.all i h))
          (added_here new old n c.add.ensures (block_at changes c.loop-j.j + 1) (omega (arith, c.block.ensures)));
      only = λ k has. ⊎_elim
          (λ is. let e : block_at changes c.loop-j.j ≡ k = omega (arith, is, c.block.ensures) in (c.loop-j.j, omega arith, e))
          (λ had. let there = before.only k had in (there.0, omega (arith, there.1), there.2))
          (added_only new old n c.add.ensures (k + 1) has);
    }

pub returns : goal.returns
returns c = λ k. (
  λ has. let there = c.loop-j.invariant.only k has in record { place = there.0; below = omega (arith, there.1); is = there.2 },
  λ changed. subst (λ (m : ℕ). holds c.loop-j.nodes (m + 1) ≡ true) changed.is (c.loop-j.invariant.all changed.place (omega (arith, changed.below))),
)
