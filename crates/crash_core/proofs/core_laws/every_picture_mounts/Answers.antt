use Rattle.store_model.proofs.MadeChanges.{commits_make_changes}
use Rattle.store_model.proofs.QuietCalls.{unchanged_maps_stay}
use Rattle.crash_core.proofs.MountedPictures.{every-picture-mounts}
use Rattle.crash_core.proofs.core_laws.every_picture_mounts.Goals as goal

pub returns : goal.returns
returns g c = every-picture-mounts unchanged_maps_stay commits_make_changes
