use Rattle.std.proofs.Common.{◌-◌, ◌∙◌, sym}
use Rattle.run_acts.proofs.commitments.unclaimed_objects.Goals as goal

pub returns-clause-unclaimed : goal.returns-clause-unclaimed
returns-clause-unclaimed g c = λ keys. c.from.ensures ∙ c.saturating_sub.ensures ∙ (λ i. (c.limit_of-limit.ensures i).objects - sym (c.held.ensures keys) i)
