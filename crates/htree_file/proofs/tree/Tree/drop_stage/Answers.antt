use Rattle.std.proofs.Common.{List, take, arith}
use Rattle.disk_model.proofs.Laws.{keeps_none}
use Rattle.node_image.specs.Parts.{layout_of}
use Rattle.node_image.specs.declared.node.NodeImage.{NodeImage}
use Rattle.htree_file.specs.Selected.{Lies}
use Rattle.htree_file.proofs.Firmness.{stays_firm}
use Rattle.htree_file.proofs.tree.Tree.drop_stage.Goals as goal

pub returns-clause-firm : goal.returns-clause-firm
returns-clause-firm g c =
    let t = c.self.inside in
    let nodes : List NodeImage = take t.head.greatest t.nodes.items in
    let s = g.F.StoreFile.state t.file in
    let sound = g.met.F.StoreFile.sound t.file in
    rw (← c.self.view_is) (stays_firm s s t.root (record { head = t.head; nodes = nodes; layout = layout_of t.root.format }) sound sound (omega arith) (keeps_none (Lies (layout_of t.root.format) nodes t.root.version) s))
