use Rattle.std.proofs.Common.{◌≡◌, ◌++◌, length, take, drop, ◌∙◌, ap, refl, sym, arith}
use Rattle.disk_model.specs.Calls.{Known}
use Rattle.node_image.specs.declared.node.RootRef.{RootRef}
use Rattle.node_image.specs.Parts.{layout_of}
use Rattle.node_image.specs.declared.head.Head.{Head}
use Rattle.htree_file.specs.Stages.{IsStage}
use Rattle.htree_file.specs.Value.{TreeValue}
use Rattle.htree_file.proofs.Firmness.{stays_firm}
use Rattle.htree_file.proofs.StageTree.{held, keeps_over, none_open, stage_over, within}
use Rattle.htree_file.proofs.tree.Tree.stage.Given.{Over}
use Rattle.htree_file.proofs.tree.Tree.stage.Goals as goal

pub invariant_of-self : goal.invariant_of-self
invariant_of-self g c =
    let t = c.self.inside in
    let inv = c.self.invariant in (
      inv.0,
      ap length (held c.stage.new.next t.next.items t.next.len (omega arith)) ∙ (let room : length c.stage.new.next ≡ 256 = omega (arith, inv.1) in room),
      inv.2,
      inv.3,
      inv.4,
      inv.5,
      none_open _ _ t.stage (ap (λ (v : TreeValue g.row.F.Denot). v.stage) c.self.view_is ∙ c.requires.idle),
    )

pub returns-in_err-root-clause-keeps : goal.returns-in_err-root-clause-keeps
returns-in_err-root-clause-keeps g c =
    let t = c.self.inside in
    let old = g.F.StoreFile.state t.file in
    let new = g.F.StoreFile.state c.stage.new.file in
    rw (← c.self.view_is) (keeps_over (layout_of c.of_pages-version.result.format) (layout_of t.root.format) (ap layout_of c.of_pages-version.ensures.root.2) c.deref.result.now t.nodes.items t.head.greatest c.of_pages-version.result.root t.root.version old new c.deref.ensures.value (omega (arith, c.of_pages-version.ensures.root.0, c.self.invariant.4)) c.stage.ensures.writes.keeps)

pub returns-in_err-root-clause-firm : goal.returns-in_err-root-clause-firm
returns-in_err-root-clause-firm g c =
    let t = c.self.inside in
    let old = g.F.StoreFile.state t.file in
    let new = g.F.StoreFile.state c.stage.new.file in
    rw (← c.self.view_is) (stays_firm old new t.root (record { head = t.head; nodes = take t.head.greatest t.nodes.items; layout = layout_of t.root.format }) (g.met.F.StoreFile.sound t.file) (g.met.F.StoreFile.sound c.stage.new.file) c.self.invariant.4
    (keeps_over (layout_of c.of_pages-version.result.format) (layout_of t.root.format) (ap layout_of c.of_pages-version.ensures.root.2) c.deref.result.now t.nodes.items t.head.greatest c.of_pages-version.result.root t.root.version old new c.deref.ensures.value (omega (arith, c.of_pages-version.ensures.root.0, c.self.invariant.4)) c.stage.ensures.writes.keeps))

pub returns-in_err-root-clause-budget : goal.returns-in_err-root-clause-budget
returns-in_err-root-clause-budget g c =
    let v = c.of_pages-version in
    rw (← c.self.view_is) (within v.result c.args.changes.now c.self.inside.head.greatest _ (g.F.StoreFile.state c.self.inside.file).written (g.F.StoreFile.state c.stage.new.file).written v.ensures.fits v.ensures.pages v.ensures.root.1
    (ap (λ (h : Head). h.greatest) v.ensures.head ∙ c.greatest_node.ensures.value) c.stage.ensures.writes.written)

pub returns-clause-keeps : goal.returns-clause-keeps
returns-clause-keeps g c =
    let t = c.self.inside in
    let old = g.F.StoreFile.state t.file in
    let new = g.F.StoreFile.state c.stage.new.file in
    rw (← c.self.view_is) (keeps_over (layout_of c.of_pages-version.result.format) (layout_of t.root.format) (ap layout_of c.of_pages-version.ensures.root.2) c.deref.result.now t.nodes.items t.head.greatest c.of_pages-version.result.root t.root.version old new c.deref.ensures.value (omega (arith, c.of_pages-version.ensures.root.0, c.self.invariant.4)) c.stage.ensures.writes.keeps)

pub returns-clause-firm : goal.returns-clause-firm
returns-clause-firm g c =
    let t = c.self.inside in
    let old = g.F.StoreFile.state t.file in
    let new = g.F.StoreFile.state c.stage.new.file in
    rw (← c.self.view_is) (stays_firm old new t.root (record { head = t.head; nodes = take t.head.greatest t.nodes.items; layout = layout_of t.root.format }) (g.met.F.StoreFile.sound t.file) (g.met.F.StoreFile.sound c.stage.new.file) c.self.invariant.4
    (keeps_over (layout_of c.of_pages-version.result.format) (layout_of t.root.format) (ap layout_of c.of_pages-version.ensures.root.2) c.deref.result.now t.nodes.items t.head.greatest c.of_pages-version.result.root t.root.version old new c.deref.ensures.value (omega (arith, c.of_pages-version.ensures.root.0, c.self.invariant.4)) c.stage.ensures.writes.keeps))

pub returns-clause-budget : goal.returns-clause-budget
returns-clause-budget g c =
    let v = c.of_pages-version in
    rw (← c.self.view_is) (within v.result c.args.changes.now c.self.inside.head.greatest _ (g.F.StoreFile.state c.self.inside.file).written (g.F.StoreFile.state c.stage.new.file).written v.ensures.fits v.ensures.pages v.ensures.root.1
    (ap (λ (h : Head). h.greatest) v.ensures.head ∙ c.greatest_node.ensures.value) c.stage.ensures.writes.written)

-- the stage, by the fields of the tree
staged : (g : Over) (c : goal.After-self-3-1 g) → let t = c.self.inside in let old = g.F.StoreFile.state t.file in let new = g.F.StoreFile.state c.stage.new.file in
    IsStage (Known old new) old.reads new.reads t.key t.root (record { head = t.head; nodes = take t.head.greatest t.nodes.items; layout = layout_of t.root.format }) c.in_ok-root.root
    (record { head = record { wrapped = t.head.wrapped; length = c.args.bytes; greatest = c.greatest_node.result }; nodes = take c.greatest_node.result (take t.next.len (c.stage.new.next ++ drop (length c.stage.new.next) t.next.items)); layout = layout_of c.in_ok-root.root.format }) c.args.changes.now
staged g c =
    let t = c.self.inside in
    let v = c.of_pages-version in
    let same = held c.stage.new.next t.next.items t.next.len (omega arith) in
    let made_format : c.in_ok-root.root.format ≡ v.result.format = ap (λ (r : RootRef). r.format) (c.in_ok-root.ensures.stage t.root t.head (omega (arith, v.ensures.root.0, c.self.invariant.4)) (sym v.ensures.root.2)).next_is ∙ sym v.ensures.root.2 in
    stage_over _ _ _ t.root c.in_ok-root.root v.result.key.now t.key _ (record { head = t.head; nodes = take t.head.greatest t.nodes.items; layout = layout_of t.root.format }) (record { head = v.result.head.now; nodes = take v.result.head.now.greatest c.stage.new.next; layout = layout_of v.result.format }) _ _ c.args.changes.now
    v.ensures.key (λ i. record { head = t.head; nodes = take t.head.greatest (c.deref.ensures.value i); layout = layout_of (v.ensures.root.2 i) }) (λ i. record { head = v.ensures.head i; nodes = take (v.ensures.head i).greatest (sym same i); layout = layout_of (sym made_format i) }) v.ensures.pages
    (c.in_ok-root.ensures.stage t.root t.head (omega (arith, v.ensures.root.0, c.self.invariant.4)) (sym v.ensures.root.2))

pub returns-clause-loaded : goal.returns-clause-loaded
returns-clause-loaded g c = rw (← c.self.view_is) (λ known loads. (staged g c).loaded known loads)

pub returns-clause-opened : goal.returns-clause-opened
returns-clause-opened g c = rw (← c.self.view_is) (λ known loads. (staged g c).opened refl known loads)

pub returns-clause-verified : goal.returns-clause-verified
returns-clause-verified g c = (staged g c).verified c.self.invariant.5

pub returns-clause-seals : goal.returns-clause-seals
returns-clause-seals g c = rw (← c.self.view_is) (staged g c).seals

pub returns-clause-spares : goal.returns-clause-spares
returns-clause-spares g c = rw (← c.self.view_is) (staged g c).spares

pub invariant_of-self-3 : goal.invariant_of-self-3
invariant_of-self-3 g c =
    let t = c.self.inside in
    let inv = c.self.invariant in
    (inv.0, ap length (held c.stage.new.next t.next.items t.next.len (omega arith)) ∙ (let room : length c.stage.new.next ≡ 256 = omega (arith, inv.1) in room), inv.2, inv.3, inv.4, inv.5, (staged g c).verified inv.5)

pub returns-clause-format : goal.returns-clause-format
returns-clause-format g c = rw (← c.self.view_is) (ap (λ (r : RootRef). r.format) (staged g c).next_is)
