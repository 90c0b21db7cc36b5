-- The armed faults of a port over exchanges.
use Rattle.std.proofs.Common.{◌∙◌, ℕ, Bool, List, IsTrue, Result, refl, sym, ap, subst, inl, inr}
use Rattle.tee_ports.specs.declared.failed.Failed.{Failed}
use Rattle.rpmb_card.specs.Arms.{Arms}
use Rattle.rpmb_card.specs.Port.{Exchanged, PortState}
use Rattle.rpmb_host.specs.Calls.{WriteExchanges}
use Rattle.rpmb_host.specs.Requests.{result_request}
use Rattle.store_commit.specs.Causes.{KeepsPortArms}

pub same_arms : (port : PortState) → KeepsPortArms port port
same_arms port = record { tells = refl; arms = λ told. refl }

pub arms_then : (a b c : PortState) → KeepsPortArms a b → KeepsPortArms b c → KeepsPortArms a c
arms_then a b c first then = record {
  tells = then.tells ∙ first.tells;
  arms = λ told.
      then.arms (subst (λ (t : Bool). IsTrue t) (sym first.tells) told) ∙ ap (λ (arms : Arms). record arms { calls = c.arms.calls }) (first.arms told);
}

pub exchanged_arms : (old new : PortState) (frame : List ℕ) (outcome : Result (List ℕ) Failed) → Exchanged old new frame outcome → KeepsPortArms old new
exchanged_arms old new frame outcome x = record {
  tells = x.tells_arms;
  arms = λ told.
      let counted = x.counted_call told in
      counted ∙ ap (λ (n : ℕ). record old.arms { calls = n }) (sym (ap (λ (arms : Arms). arms.calls) counted));
}

pub written_arms : (old new : PortState) (write : List ℕ) (outcome : Result (List ℕ) Failed) → WriteExchanges old new write outcome → KeepsPortArms old new
written_arms old new write outcome (inl (failed, x)) = exchanged_arms old new write outcome x
written_arms old new write outcome (inr (between, answer, first, second)) =
    arms_then old between new (exchanged_arms old between write _ first) (exchanged_arms between new result_request outcome second)
