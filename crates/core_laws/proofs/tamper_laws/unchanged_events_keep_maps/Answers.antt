use Rattle.core_laws.proofs.QuietEvents.{unchanged_keeps}
use Rattle.core_laws.proofs.tamper_laws.unchanged_events_keep_maps.Goals as goal

pub returns : goal.returns
returns c = unchanged_keeps
