use Rattle.std.proofs.Common.{◌≡◌, ◌∙◌}
use Rattle.std.proofs.lemmas.Option.{IfSome_then}
use Rattle.store_bench.proofs.Formats.{adopted_format}
use Rattle.store_bench.proofs.trees.commit.Goals as goal

pub returns : goal.returns
returns c =
    let staged = c.in_ok-stage_write.ensures.staged in
    let before : c.drop_stage.new.self.tree.root.format ≡ 2 = (λ i. (c.drop_stage.ensures.same i).tree.root.format) ∙ c.requires in
    adopted_format c.stage_write.new.self.tree.stage c.settle.new.self.tree.stage c.settle.new.self c.adopt.new.self
    staged.opens
    (IfSome_then c.stage_write.new.self.tree.stage staged.format (λ s is. is ∙ before))
    (IfSome_then c.stage_write.new.self.tree.stage c.in_ok-root.ensures.settled (λ s both. both.1))
    c.adopt.ensures.committed
