use Rattle.ghash_field.proofs.TwoLanes.{parts_made}
use Rattle.ghash_field.proofs.carryless.parts_of.Goals as goal

pub returns : goal.returns
returns c = parts_made c.args.x
