use Rattle.dir_index.proofs.Changes.{inserted, removed}
use Rattle.dir_index.proofs.laws.changes_concern_one_name.Goals as goal

pub returns : goal.returns
returns c = record { insert = inserted; remove = removed }
