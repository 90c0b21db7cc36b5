use Rattle.run_acts.proofs.MountedBenches.{refused_mounts_keep}
use Rattle.run_acts.proofs.device_laws.refused_mounts_keep.Goals as goal

pub returns : goal.returns
returns c = refused_mounts_keep
