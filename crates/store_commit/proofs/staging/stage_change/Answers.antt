use Rattle.store_commit.proofs.Preparing.{refused_change, staged_change}
use Rattle.store_commit.proofs.staging.stage_change.Goals as goal

pub returns-in-Ok-clause-answer : goal.returns-in-Ok-clause-answer
returns-in-Ok-clause-answer g c =
    staged_change (g.F.StoreFile.state c.args.dir.now.file) (g.F.StoreFile.state c.stage_entry.new.dir.file)
    c.args.dir.now.dir c.stage_entry.new.dir.dir c.args.change.now c.in-Ok.ensures.answer

pub returns-in-Err-clause-answer : goal.returns-in-Err-clause-answer
returns-in-Err-clause-answer g c =
    refused_change (g.F.StoreFile.state c.args.dir.now.file) (g.F.StoreFile.state c.stage_entry.new.dir.file)
    c.args.dir.now.dir c.stage_entry.new.dir.dir c.args.change.now c.in-Err.fault c.cause_of_tree.result c.in-Err.ensures.answer
