use Rattle.object_calls.proofs.MountedParts.{mounts_begin_gates}
use Rattle.object_calls.proofs.mount_laws.mounts_begin_gates.Goals as goal

pub returns : goal.returns
returns c = mounts_begin_gates
