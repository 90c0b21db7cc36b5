use Rattle.std.proofs.Common.{◌↔◌, ℕ, Bool, true, false, IsTrue, refl, sym, subst}
use Rattle.std.specs.Bool.{OnTrue, OnFalse}
use Rattle.std.proofs.lemmas.Bool.{false≢true}
use Rattle.disk_model.specs.Images.{IsTouched}
use Rattle.disk_model.proofs.ImageLaws.{untouched_same, touched_differs}
use Rattle.disk_model.proofs.span.touched.Goals as goal

when_false : (result : Bool) (P Q : Type 0) → (IsTrue result ↔ P) → ((P → ⊥) → Q) → OnFalse result Q
when_false true P Q test q = tt
when_false false P Q test q = q (λ p. false≢true (test.1 p))

when_true : (result : Bool) (P Q : Type 0) → (IsTrue result ↔ P) → (P → Q) → OnTrue result Q
when_true true P Q test q = q (test.0 refl)
when_true false P Q test q = tt

pub returns-clause-untouched : goal.returns-clause-untouched
returns-clause-untouched c = when_false c.is_touched.result _ _ c.is_touched.ensures (λ not settled image is left.
    untouched_same settled image c.args.spans.now c.args.at (λ touched. not (subst (λ (n : ℕ). IsTouched c.args.spans.now n c.args.at) is touched)) left)

pub returns-clause-differs : goal.returns-clause-differs
returns-clause-differs c = when_true c.is_touched.result _ _ c.is_touched.ensures (λ touched settled is.
    touched_differs settled c.args.spans.now c.args.at (subst (λ (n : ℕ). IsTouched c.args.spans.now n c.args.at) (sym is) touched))
