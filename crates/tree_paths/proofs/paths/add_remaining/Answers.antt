use Rattle.std.proofs.Common.{◌≡◌, inl, inr, ⊎_elim, ◌+◌, ◌/◌, subst, arith}
use Rattle.std.proofs.lemmas.Bool.{cases_lt}
use Rattle.tree_paths.specs.Paths.{IsOnPath}
use Rattle.tree_paths.proofs.paths.add_remaining.Goals as goal

pub loop-gone-preserved : goal.loop-gone-preserved
loop-gone-preserved c =
    let before = c.loop-gone.invariant in
    let new = c.add_path.ensures in
    let gone = c.loop-gone.gone in
    record {
      kept = λ m had. new.kept m (before.kept m had);
      above = λ child past most remains m on. elim (cases_lt gone child) [
        | inl here ↦ let is : child ≡ gone + 1 = omega arith in new.path m (subst (λ n. IsOnPath m (n / 2)) is on)
        | inr earlier ↦ new.kept m (before.above child past (omega arith) remains m on)
      ];
      only = λ m has. ⊎_elim (before.only m)
          (λ on. inr (record { child = gone + 1; gone = omega arith; was = omega arith; remains = omega arith; path = on }))
          (new.only m has);
    }

pub returns-clause-above : goal.returns-clause-above
returns-clause-above c = λ m above. c.loop-gone.invariant.above above.child above.gone (omega (arith, above.was, above.remains, c.loop-gone-test.false)) above.remains m above.path
