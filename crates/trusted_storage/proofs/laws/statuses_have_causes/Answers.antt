use Rattle.trusted_storage.proofs.laws.statuses_have_causes.Goals as goal

pub returns : goal.returns
returns g c = λ was source held sink call. ((call.says.1).cause, (call.says.1).exact)
