use Rattle.disk_model.proofs.Masks.{masks_undo}
use Rattle.disk_model.proofs.file_laws.masks_undo_themselves.Goals as goal

pub returns : goal.returns
returns c = masks_undo
