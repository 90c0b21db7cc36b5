-- The file was let be.
use Rattle.htree_file.proofs.Causes.{passed_none}
use Rattle.call_steps.proofs.InfoAnswers.{described}
use Rattle.call_steps.proofs.info_call.describe_live.Goals as goal

pub returns : goal.returns
returns g c = λ v gives.
    described g.L.StoreName.store c.args.slot.now.file c.args.slot.now v c.args.handle (passed_none c.args.slot.now.file) c.describe.result (c.describe.ensures v gives)
