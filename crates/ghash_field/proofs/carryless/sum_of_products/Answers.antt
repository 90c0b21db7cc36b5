use Rattle.ghash_field.proofs.TwoLanes.{sum-long, sum-lane, sum, times}
use Rattle.ghash_field.proofs.carryless.sum_of_products.Goals as goal

pub returns-clause-long : goal.returns-clause-long
unfolding sum times
returns-clause-long c = sum-long c.args.x c.args.y

pub returns-clause-value : goal.returns-clause-value
unfolding sum times
returns-clause-value c = sum-lane c.args.x c.args.y
