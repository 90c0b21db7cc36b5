use Rattle.std.proofs.Common.{ap, ◌∙◌}
use Rattle.std.specs.Int.{w128, to_be_bytes}
use Rattle.ghash_field.specs.Hasher.{Holds}
use Rattle.ghash_field.proofs.Ghash.finish.Goals as goal

pub returns : goal.returns
unfolding Holds
returns c = λ h xs held. c.to_be_bytes.ensures ∙ ap (to_be_bytes w128) held.2
