use Rattle.commit_gate.proofs.ClosedStores.{tampered_files_are_supposed}
use Rattle.commit_gate.proofs.core_step_laws.tampered_files_are_supposed.Goals as goal

pub returns : goal.returns
returns c = tampered_files_are_supposed
