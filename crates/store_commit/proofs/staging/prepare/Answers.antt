use Rattle.std.proofs.Common.{ap}
use Rattle.store_commit.proofs.Preparing.{given_up, prepared}
use Rattle.store_commit.proofs.staging.prepare.Goals as goal

pub returns-in-Ok-clause-answer : goal.returns-in-Ok-clause-answer
returns-in-Ok-clause-answer g c =
    prepared (g.F.StoreFile.state c.args.dir.now.file) (g.F.StoreFile.state c.stage_change.new.dir.file) (g.F.StoreFile.state c.settle.new.self.file)
    c.args.dir.now.dir c.stage_change.new.dir.dir c.settle.new.self.dir c.args.change.now
    c.in_ok-stage_change.ensures.answer c.in-Ok.root c.in-Ok.ensures.answer

pub returns-in-Err-clause-answer : goal.returns-in-Err-clause-answer
returns-in-Err-clause-answer g c =
    given_up (g.F.StoreFile.state c.args.dir.now.file) (g.F.StoreFile.state c.stage_change.new.dir.file) (g.F.StoreFile.state c.settle.new.self.file)
    c.args.dir.now.dir c.stage_change.new.dir.dir c.settle.new.self.dir c.args.change.now
    c.in_ok-stage_change.ensures.answer (g.F.StoreFile.state c.drop_stage.new.self.file) c.drop_stage.new.self.dir
    c.in-Err.fault c.cause_of_tree.result c.in-Err.ensures.answer (ap (λ d. g.F.StoreFile.state d.file) c.drop_stage.ensures.same) (ap (λ d. d.dir) c.drop_stage.ensures.same)
