use Rattle.std.proofs.Common.{refl}
use Rattle.aes_block.proofs.KeyPlanes.{joined_first, joined_rest}
use Rattle.aes_block.proofs.key_schedule.next_column.Goals as goal

pub returns-clause-long : goal.returns-clause-long
returns-clause-long c = refl

pub returns-clause-first : goal.returns-clause-first
returns-clause-first c = λ j lt. joined_first c.args.first c.args.v c.requires.first_long j lt

pub returns-clause-rest : goal.returns-clause-rest
returns-clause-rest c = λ j lt. joined_rest c.args.first c.args.v c.requires.first_long j lt
