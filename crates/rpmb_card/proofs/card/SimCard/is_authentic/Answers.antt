use Rattle.std.proofs.Common.{◌∙◌}
use Rattle.rpmb_card.proofs.Comparison.{is_ok-bytes_eq}
use Rattle.rpmb_card.proofs.card.SimCard.is_authentic.Goals as goal

pub returns-in-Some : goal.returns-in-Some
returns-in-Some c =
    rw (← c.self.view_is, c.in-Some.is) (c.is_ok.ensures.value ∙ is_ok-bytes_eq c.verify.result _ _ _ c.verify.ensures)
