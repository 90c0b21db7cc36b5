-- An application whose kept halves are still there gets a lock for them.
use Rattle.std.proofs.Common.{◌∙◌, arith}
use Rattle.std.proofs.lemmas.Grind.{common_steps}
use Rattle.quota_store.proofs.sharing.lock_apps.Goals as goal
use Rattle.quota_store.proofs.sharing.lock_apps.Goals.{then-is_some, else-is_some}

pub loop-number-preserved : goal.loop-number-preserved
loop-number-preserved g c =
    let l = c.loop-number in
    elim c.if-is_some.branch [
      | then-is_some w ↦
          rw (w.sessions-is, w.kept-is, w.places-is, w.locks-is) (record {
            same = w.lock_app-lock.ensures.same ∙ l.invariant.same;
            halves = w.lock_app-lock.ensures.halves;
            together = w.lock_app-lock.ensures.together;
            count = grind (arith, common_steps);
            few = grind (arith, common_steps);
            room = grind (arith, common_steps);
          })
      | else-is_some w ↦
          rw (w.sessions-is, w.kept-is, w.places-is, w.locks-is) (record {
            same = l.invariant.same;
            halves = l.invariant.halves;
            together = l.invariant.together;
            count = l.invariant.count;
            few = omega (arith, l.invariant.few);
            room = l.invariant.room;
          })
    ]
