-- A call that may not grow an object stays within every limit.
use Rattle.serial_calls.proofs.QuotaCalls.{served-limits}
use Rattle.serial_calls.proofs.quota_calls.serve_other.Goals as goal

pub returns-in_err-answer-clause-limits : goal.returns-in_err-answer-clause-limits
returns-in_err-answer-clause-limits g c =
    served-limits g.F.StoreFile.state g.R.RpmbPort.state g.E.Entropy.faults g.L.StoreName.store (record { gate = c.args.gate.now; slots = c.args.slots.now.items; session = c.args.session.now })
    (record { gate = c.serve.new.gate; slots = c.serve.new.slots.items; session = c.serve.new.session }) c.args.call.now c.args.limit c.requires.other _ c.serve.result c.serve.ensures.serves

pub returns-clause-limits : goal.returns-clause-limits
returns-clause-limits g c =
    served-limits g.F.StoreFile.state g.R.RpmbPort.state g.E.Entropy.faults g.L.StoreName.store (record { gate = c.args.gate.now; slots = c.args.slots.now.items; session = c.args.session.now })
    (record { gate = c.serve.new.gate; slots = c.serve.new.slots.items; session = c.serve.new.session }) c.args.call.now c.args.limit c.requires.other _ c.serve.result c.serve.ensures.serves
