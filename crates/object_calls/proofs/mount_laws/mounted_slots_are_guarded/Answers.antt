use Rattle.object_calls.proofs.MountedParts.{mounted_slots_are_guarded}
use Rattle.object_calls.proofs.mount_laws.mounted_slots_are_guarded.Goals as goal

pub returns : goal.returns
returns c = mounted_slots_are_guarded
