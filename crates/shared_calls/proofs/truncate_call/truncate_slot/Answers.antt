-- The last validation follows the stage.
use Rattle.tee_types.specs.declared.call.Call.TheVariants.{Truncate}
use Rattle.shared_calls.proofs.Waiting.{ends-then}
use Rattle.shared_calls.proofs.truncate_call.truncate_slot.Goals as goal

pub returns-clause-ends : goal.returns-clause-ends
returns-clause-ends g c =
    ends-then g.L.StoreName.store c.args.session.now c.stage_slot.new.session c.validate_last.new.session c.stage_slot.ensures.waits (Truncate c.args.handle c.args.size) c.validate_last.result
    c.validate_last.ensures.ends
