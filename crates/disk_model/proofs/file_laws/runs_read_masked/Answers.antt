use Rattle.disk_model.proofs.Seen.{runs_read_masked}
use Rattle.disk_model.proofs.file_laws.runs_read_masked.Goals as goal

pub returns : goal.returns
returns c = runs_read_masked
