use Rattle.std.proofs.Common.{◌∙◌, ◌+◌, ℕ, List, length, sum_by, sym, ap, arith}
use Rattle.std.proofs.lemmas.List.{take_all}
use Rattle.app_quota.specs.Commitments.{distinct_apps, unclaimed_of}
use Rattle.app_quota.specs.Quotas.{limit_of}
use Rattle.app_quota.proofs.Commitments.{commitments_are_sums, distinct_apps_are_apart}
use Rattle.run_acts.specs.MountedDevices.{objects_in}
use Rattle.run_acts.proofs.Committed.{sum-new, sum-told}
use Rattle.run_acts.proofs.commitments.committed_objects.Goals as goal
use Rattle.run_acts.proofs.commitments.committed_objects.Goals.{then-not-is_among, else-not-is_among}

pub loop-index-init : goal.loop-index-init
loop-index-init g c = record { sum = λ keys. omega (arith, c.objects.ensures.objects keys); few = omega arith }

pub loop-index-preserved : goal.loop-index-preserved
loop-index-preserved g c =
    let l = c.loop-index in
    let apps : List (List ℕ) = c.args.applications.now in
    let app : List ℕ = c.index-applications-index.result in
    record {
      sum = λ keys.
          let claim = unclaimed_of (limit_of c.args.quotas.now) (objects_in g.F.StoreFile.state g.R.RpmbPort.state keys c.args.opening.now) in
          elim c.if-not-is_among.branch [
            | then-not-is_among w ↦
                omega (
                  arith,
                  w.sum-is,
                  l.invariant.sum keys,
                  w.unclaimed_objects-sum.ensures.unclaimed keys,
                  sum-new claim apps l.index app c.loop-index-test.true c.index-applications-index.is (sym c.is_among.ensures ∙ w.if-not-is_among.true),
                )
            | else-not-is_among w ↦
                omega (arith, w.sum-is, l.invariant.sum keys, sum-told claim apps l.index app c.loop-index-test.true c.index-applications-index.is (sym c.is_among.ensures ∙ w.if-not-is_among.false))
          ];
      few = elim c.if-not-is_among.branch [
        | then-not-is_among w ↦ omega (arith, w.sum-is, l.invariant.few, w.unclaimed_objects-sum.ensures.few)
        | else-not-is_among w ↦ omega (arith, w.sum-is, l.invariant.few)
      ];
    }

pub returns : goal.returns
returns g c = λ keys.
    let l = c.loop-index in
    let apps : List (List ℕ) = c.args.applications.now in
    let limits = limit_of c.args.quotas.now in
    let objects = objects_in g.F.StoreFile.state g.R.RpmbPort.state keys c.args.opening.now in
    l.invariant.sum keys
    ∙ ap (λ (told : List (List ℕ)). length objects + sum_by (unclaimed_of limits objects) (distinct_apps told)) (take_all l.index apps (omega (arith, c.loop-index-test.false)))
    ∙ sym (commitments_are_sums limits (distinct_apps apps) objects (distinct_apps_are_apart.apart apps))
