use Rattle.object_calls.proofs.MountedViews.{mounts_tell_entries}
use Rattle.object_calls.proofs.mount_laws.mounts_tell_entries.Goals as goal

pub returns : goal.returns
returns c = mounts_tell_entries
