use Rattle.std.proofs.Common.{ap, ◌∙◌}
use Rattle.node_image.specs.Layout.{is_sized}
use Rattle.htree_file.proofs.Sizes.{form_sized, sized_few}
use Rattle.image_audit.proofs.trees.head_at.Goals as goal

pub returns-in-Ok-clause-sized : goal.returns-in-Ok-clause-sized
returns-in-Ok-clause-sized c = ap is_sized c.in-Ok.ensures.head.1 ∙ form_sized c.field.result c.in-Ok.ensures.head.0

pub returns-in-Ok-clause-few : goal.returns-in-Ok-clause-few
returns-in-Ok-clause-few c = sized_few c.in-Ok.head (returns-in-Ok-clause-sized c)
