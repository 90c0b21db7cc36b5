use Rattle.store_model.proofs.MadeChanges.{commits_make_changes}
use Rattle.store_model.proofs.QuietCalls.{unchanged_maps_stay}
use Rattle.crash_core.proofs.MountedPictures.{honest-pictures-mount}
use Rattle.crash_core.proofs.core_laws.honest_pictures_mount.Goals as goal

pub returns : goal.returns
returns g c = honest-pictures-mount unchanged_maps_stay commits_make_changes
