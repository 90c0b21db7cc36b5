use Rattle.page_bytes.proofs.Content.{blocks-met}
use Rattle.page_bytes.proofs.range.ByteRange.end_block.Goals as goal

pub returns-then-self-clause-blocks : goal.returns-then-self-clause-blocks
returns-then-self-clause-blocks c = blocks-met c.args.self

pub returns-else-self-clause-blocks : goal.returns-else-self-clause-blocks
returns-else-self-clause-blocks c = blocks-met c.args.self
