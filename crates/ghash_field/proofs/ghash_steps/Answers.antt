use Rattle.std.proofs.Common.{refl}
use Rattle.ghash_field.specs.Ghash.{ghash}
use Rattle.ghash_field.proofs.FieldLaws.{ghash-more}
use Rattle.ghash_field.proofs.ghash_steps.Goals as goal

pub returns : goal.returns
unfolding ghash
returns c = record { first = λ h. refl; next = λ h x xs lt. ghash-more h x xs lt }
