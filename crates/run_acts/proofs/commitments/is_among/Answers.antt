use Rattle.std.proofs.Common.{◌∙◌, List, ℕ, ap, sym, arith}
use Rattle.std.proofs.lemmas.List.{take_all}
use Rattle.std.proofs.lemmas.Map.Text.{is_eq-slice_cmp}
use Rattle.app_quota.specs.Commitments.{is_among}
use Rattle.run_acts.proofs.Committed.{among-here, among-not}
use Rattle.run_acts.proofs.commitments.is_among.Goals as goal

pub returns-then-eq : goal.returns-then-eq
returns-then-eq c = sym (among-here c.args.app c.args.apps.now c.loop-other.other-index c.other-item.result c.loop-other-test.true c.other-item.is (is_eq-slice_cmp c.other-item.result c.args.app ∙ sym c.eq.ensures ∙ c.if-eq.true))

pub loop-other-preserved : goal.loop-other-preserved
loop-other-preserved c =
    among-not c.args.app c.args.apps.now c.loop-other.other-index c.other-item.result c.loop-other-test.true c.other-item.is (is_eq-slice_cmp c.other-item.result c.args.app ∙ sym c.eq.ensures ∙ c.if-eq.false) c.loop-other.invariant

pub returns : goal.returns
returns c =
    let l = c.loop-other in
    sym l.invariant ∙ ap (λ (apps : List (List ℕ)). is_among c.args.app apps) (take_all l.other-index c.args.apps.now (omega (arith, c.loop-other-test.false)))
