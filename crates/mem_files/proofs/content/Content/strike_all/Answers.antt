use Rattle.std.proofs.Common.{◌∙◌}
use Rattle.mem_files.specs.Contents.{stored_in}
use Rattle.mem_files.proofs.Strikes.{struck_next}
use Rattle.mem_files.proofs.content.Content.strike_all.Goals as goal

pub loop-taint-preserved : goal.loop-taint-preserved
loop-taint-preserved c = record {
  struck = struck_next (stored_in c.args.self.now) (stored_in c.loop-taint.self) (stored_in c.strike_at.new.self) c.args.taints.now c.loop-taint.taint-index c.taint-item.result c.args.call
      c.loop-taint.invariant.struck c.loop-taint-test.true c.taint-item.is c.strike_at.ensures.struck;
  rest = record {
    trail = c.strike_at.ensures.rest.trail ∙ c.loop-taint.invariant.rest.trail;
    pending_from = c.strike_at.ensures.rest.pending_from ∙ c.loop-taint.invariant.rest.pending_from;
  };
}
