use Rattle.std.proofs.Common.{arith}
use Rattle.store_commit.proofs.HoldLists.{all_dropped}
use Rattle.store_commit.proofs.holds.drop_file.Goals as goal

pub returns : goal.returns
returns c = all_dropped c.args.file c.args.holds.now c.loop-session.holds c.loop-session.session (omega (arith, c.told-holds, c.loop-session-test.false)) c.loop-session.invariant
