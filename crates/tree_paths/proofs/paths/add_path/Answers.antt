use Rattle.std.proofs.Common.{inl, inr, ⊎_elim, sym, subst, arith}
use Rattle.tree_paths.specs.Paths.{IsOnPath, holds}
use Rattle.tree_paths.proofs.Halving.{added_here, added_old, added_only, on_path_split, on_path_up}
use Rattle.tree_paths.proofs.paths.add_path.Goals as goal

pub loop-node-preserved : goal.loop-node-preserved
loop-node-preserved c =
    let old = holds c.loop-node.set in
    let new = holds c.add.new.self in
    let node = c.loop-node.node in
    let before = c.loop-node.invariant in
    let here : IsOnPath node c.args.n = before.here (omega arith) in
    record {
      low = omega arith;
      here = λ more. on_path_up node c.args.n here (omega arith);
      kept = λ m had. added_old new old node c.add.ensures m (before.kept m had);
      path = λ m on. ⊎_elim
          (λ had. inl (added_old new old node c.add.ensures m had))
          (λ rest. ⊎_elim (λ is. inl (added_here new old node c.add.ensures m is)) (λ up. inr up) (on_path_split m node rest))
          (before.path m on);
      only = λ m has. ⊎_elim
          (λ is. inr (subst (λ k. IsOnPath k c.args.n) (sym is) here))
          (λ had. before.only m had)
          (added_only new old node c.add.ensures m has);
    }
