-- The slot is shown the history, and its file is as it was.
use Rattle.shared_calls.proofs.SharedViews.{keeps-cleared}
use Rattle.shared_calls.proofs.create_call.clear_slot.Goals as goal

pub returns-clause-kept : goal.returns-clause-kept
returns-clause-kept g c =
    keeps-cleared g.L.DevicesName.devices g.L.StoreName.store c.reserve.new.gate.journal.knows c.args.slot.now c.clear.new.slot c.clear.ensures.slot c.clear.ensures.agreed c.requires.guarded c.requires.kept
