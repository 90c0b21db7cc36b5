use Rattle.std.proofs.Common.{List, take, arith}
use Rattle.disk_model.proofs.Laws.{rest_keeps, sync_keeps}
use Rattle.node_image.specs.Parts.{layout_of}
use Rattle.node_image.specs.declared.node.NodeImage.{NodeImage}
use Rattle.htree_file.proofs.Firmness.{keeps_selected, settled_firm, stays_firm}
use Rattle.htree_file.proofs.tree.Tree.settle.Goals as goal

pub returns-in_err-sync-clause-firm : goal.returns-in_err-sync-clause-firm
returns-in_err-sync-clause-firm g c =
    let t = c.self.inside in
    let nodes : List NodeImage = take t.head.greatest t.nodes.items in
    let old = g.F.StoreFile.state t.file in
    let new = g.F.StoreFile.state c.sync.new.self in
    let sound = g.met.F.StoreFile.sound t.file in
    rw (← c.self.view_is) (stays_firm old new t.root (record { head = t.head; nodes = nodes; layout = layout_of t.root.format }) sound (g.met.F.StoreFile.sound c.sync.new.self) (omega arith)
    (keeps_selected (layout_of t.root.format) nodes t.root.version old new (rest_keeps old new sound c.in_err-sync.ensures.unsettled)))

pub returns-clause-firm : goal.returns-clause-firm
returns-clause-firm g c =
    let t = c.self.inside in
    let nodes : List NodeImage = take t.head.greatest t.nodes.items in
    let old = g.F.StoreFile.state t.file in
    let new = g.F.StoreFile.state c.sync.new.self in
    let sound = g.met.F.StoreFile.sound t.file in
    rw (← c.self.view_is) (stays_firm old new t.root (record { head = t.head; nodes = nodes; layout = layout_of t.root.format }) sound (g.met.F.StoreFile.sound c.sync.new.self) (omega arith)
    (keeps_selected (layout_of t.root.format) nodes t.root.version old new (sync_keeps old new sound c.in_ok-sync.ensures.synced)))

pub returns-clause-keeps : goal.returns-clause-keeps
returns-clause-keeps g c =
    rw (← c.self.view_is) (sync_keeps (g.F.StoreFile.state c.self.inside.file) (g.F.StoreFile.state c.sync.new.self) (g.met.F.StoreFile.sound c.self.inside.file) c.in_ok-sync.ensures.synced)

pub returns-clause-next_firm : goal.returns-clause-next_firm
returns-clause-next_firm g c =
    rw (← c.self.view_is) (settled_firm _ (g.F.StoreFile.state c.self.inside.file) (g.F.StoreFile.state c.sync.new.self) c.in_ok-sync.ensures.synced)

pub returns-in_err-sync-clause-keeps : goal.returns-in_err-sync-clause-keeps
returns-in_err-sync-clause-keeps g c =
    rw (← c.self.view_is) (rest_keeps (g.F.StoreFile.state c.self.inside.file) (g.F.StoreFile.state c.sync.new.self) (g.met.F.StoreFile.sound c.self.inside.file) c.in_err-sync.ensures.unsettled)
