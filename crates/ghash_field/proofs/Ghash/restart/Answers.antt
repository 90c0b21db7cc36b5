use Rattle.std.proofs.Common.{refl}
use Rattle.ghash_field.specs.Ghash.{ghash}
use Rattle.ghash_field.specs.Hasher.{Holds}
use Rattle.ghash_field.proofs.Ghash.restart.Goals as goal

pub returns : goal.returns
unfolding Holds ghash
returns c = λ h xs held. (held.0, held.1, refl)
