use Rattle.std.proofs.Common.{bit_xor, sym, ◌∙◌}
use Rattle.ghash_field.specs.Field.{block_product, block_power}
use Rattle.ghash_field.specs.Hasher.{Holds}
use Rattle.ghash_field.proofs.FieldLaws.{ghash-more}
use Rattle.ghash_field.proofs.FourBlocks.{power-one, power-below}
use Rattle.ghash_field.proofs.Ghash.update.Goals as goal

pub returns : goal.returns
unfolding Holds
returns c = λ h xs held. (
  held.0,
  held.1,
  c.times-self.ensures (block_power h 2) (block_power h 1) (power-below h 1) (power-below h 0) held.1.1
      ∙ (λ i. block_product (bit_xor (held.2 i) (c.from_be_bytes.ensures i)) (power-one h held.0 i))
      ∙ sym (ghash-more h _ xs held.0),
)
