use Rattle.std.proofs.Common.{◌*◌, ◌/◌, ◌^◌, bit_xor, ap}
use Rattle.std.proofs.lemmas.Nat.{and_mask}
use Rattle.ghash_field.specs.Steps.{block_step}
use Rattle.ghash_field.proofs.times_x.Goals as goal

pub returns : goal.returns
unfolding block_step
returns c = ap (λ t. bit_xor (c.args.block / 2) (t * (0xe1 * 2 ^ 120))) (and_mask c.args.block 1)
