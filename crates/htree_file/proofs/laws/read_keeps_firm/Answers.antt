use Rattle.disk_model.proofs.Laws.{rest_keeps}
use Rattle.htree_file.proofs.Firmness.{keeps_selected, stays_firm}
use Rattle.htree_file.proofs.laws.read_keeps_firm.Goals as goal

pub returns : goal.returns
returns c = λ old new root tree sound still bit rests. stays_firm old new root tree sound still bit (keeps_selected tree.layout tree.nodes root.version old new (rest_keeps old new sound rests))
