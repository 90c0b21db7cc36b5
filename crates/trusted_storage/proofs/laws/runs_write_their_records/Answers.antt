use Rattle.trusted_storage.proofs.laws.runs_write_their_records.Goals as goal

pub returns : goal.returns
returns g c = λ was source held sink call. (call.says.1).trace
