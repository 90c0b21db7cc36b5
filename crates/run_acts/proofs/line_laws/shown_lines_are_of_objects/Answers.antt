use Rattle.std.proofs.Common.{ap}
use Rattle.store_model.specs.Object.{Object}
use Rattle.run_acts.specs.Lines.{object_line}
use Rattle.run_acts.proofs.ShownObjects.{has_blocks, object_shown-is}
use Rattle.run_acts.proofs.line_laws.shown_lines_are_of_objects.Goals as goal

pub returns : goal.returns
returns c = λ shown object shows is.
    ap (λ (o : Object). object_line (record { app = shown.app; id = shown.id }, o)) (object_shown-is shown.object shown.size object shows (has_blocks object is))
