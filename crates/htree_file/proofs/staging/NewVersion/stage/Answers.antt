use Rattle.std.proofs.Common.{◌≡◌, ℕ, ◌-◌, List, length, take, drop, length-take, sym, ◌∙◌, ap, subst, arith}
use Rattle.std.proofs.lemmas.List.{take_at}
use Rattle.disk_model.specs.State.{FileState}
use Rattle.disk_model.specs.Calls.{Known}
use Rattle.disk_model.specs.Keeps.{Keeps}
use Rattle.node_image.specs.declared.node.NodeImage.{NodeImage}
use Rattle.node_image.specs.declared.node.RootRef.{RootRef}
use Rattle.node_image.specs.Tables.{at_node}
use Rattle.node_image.specs.Parts.{layout_of}
use Rattle.tree_paths.specs.Paths.{holds}
use Rattle.tree_paths.specs.Staged.{count_to, write_budget}
use Rattle.htree_file.specs.Changes.{AreApart, AreChanges, changes_of}
use Rattle.htree_file.specs.Plans.{Fits}
use Rattle.htree_file.specs.declared.staging.NewVersion.{NewVersion}
use Rattle.htree_file.specs.Selected.{Lies}
use Rattle.htree_file.specs.Staging.{IsWritten, OffWritten, SealsAnew, WritesAtMost}
use Rattle.htree_file.specs.Stages.{IsStage}
use Rattle.htree_file.specs.WriteSets.{AreTurned, IsWriteSet}
use Rattle.htree_file.proofs.StageWhole.{drawn_flags, is_stage, lies_written}
use Rattle.htree_file.proofs.Writings.{writes_none, writes_within}
use Rattle.htree_file.proofs.staging.NewVersion.stage.Goals as goal

-- what fits, by the lengths of the tables
closed_at : (v : NewVersion) (before after : ℕ) → Fits v → before ≡ v.before → after ≡ v.head.now.greatest → IsWriteSet before after (changes_of v.pages) (holds v.set.nodes) (holds v.set.blocks)
closed_at v before after fits old new =
    subst (λ (n : ℕ). IsWriteSet n after (changes_of v.pages) (holds v.set.nodes) (holds v.set.blocks)) (sym old)
    (subst (λ (n : ℕ). IsWriteSet v.before n (changes_of v.pages) (holds v.set.nodes) (holds v.set.blocks)) (sym new) fits.closed)

-- no write meets the committed tree
misses : (v : NewVersion) (nodes filled drawn : List NodeImage) (count bytes : ℕ) (a b : FileState) → v.format ≡ 2 → Fits v → length nodes ≡ v.before → count ≡ length drawn → length drawn ≡ v.head.now.greatest
    → AreTurned nodes (holds v.set.nodes) (holds v.set.blocks) filled count → SealsAnew (changes_of v.pages) filled drawn
    → WritesAtMost (OffWritten (layout_of v.format) drawn v.root (changes_of v.pages) (holds v.set.nodes)) bytes a b → WritesAtMost (Lies (layout_of v.format) nodes (1 - v.root)) bytes a b
misses v nodes filled drawn count bytes a b two fits old long new turns anew writes =
    let closed = closed_at v (length nodes) (length drawn) fits old new in
    let e : 1 - (1 - v.root) ≡ v.root = omega (arith, fits.bits.0) in
    writes_within (OffWritten (layout_of v.format) drawn v.root (changes_of v.pages) (holds v.set.nodes)) (Lies (layout_of v.format) nodes (1 - v.root)) bytes bytes a b (omega arith)
    (λ p lies. subst (λ (r : ℕ). OffWritten (layout_of v.format) drawn r (changes_of v.pages) (holds v.set.nodes) p) e
    (lies_written (layout_of v.format) (ap layout_of two) nodes drawn (changes_of v.pages) (holds v.set.nodes) (holds v.set.blocks) (1 - v.root) (omega (arith, old, fits.bits.1)) (omega (arith, new, fits.few.1)) (omega arith) closed
    (drawn_flags nodes filled drawn (changes_of v.pages) (holds v.set.nodes) (holds v.set.blocks) closed (subst (λ (n : ℕ). AreTurned nodes (holds v.set.nodes) (holds v.set.blocks) filled n) long turns) anew)
    (subst (λ (n : ℕ). AreApart n (changes_of v.pages)) (sym new) fits.apart) p lies)) writes

pub returns-in_err-draw_vectors-clause-writes : goal.returns-in_err-draw_vectors-clause-writes
returns-in_err-draw_vectors-clause-writes g c =
    let s = g.F.StoreFile.state c.args.file.now in
    let K = Lies (layout_of c.args.self.now.format) c.args.committed.now (1 - c.args.self.now.root) in
    writes_within K K 0 (write_budget (length (changes_of c.args.self.now.pages)) (count_to (holds c.args.self.now.set.nodes) 256)) s s (omega arith) (λ p at. at) (writes_none K s)

pub returns-in_err-root-clause-writes : goal.returns-in_err-root-clause-writes
returns-in_err-root-clause-writes g c =
    let v = c.args.self.now in
    let drawn = c.draw_vectors.new.table in
    let long : length (take v.head.now.greatest c.args.next.now) ≡ length drawn = omega arith in
    misses v c.args.committed.now c.turn_nodes.new.next drawn _ _ _ _ c.requires.aligned c.requires.fits c.requires.committed long (omega (arith, long, length-take v.head.now.greatest c.args.next.now, c.requires.room, c.requires.fits.few.1)) c.turn_nodes.ensures c.draw_vectors.ensures.anew c.write.ensures.writes

pub returns-clause-writes : goal.returns-clause-writes
returns-clause-writes g c =
    let v = c.args.self.now in
    let drawn = c.draw_vectors.new.table in
    let long : length (take v.head.now.greatest c.args.next.now) ≡ length drawn = omega arith in
    misses v c.args.committed.now c.turn_nodes.new.next drawn _ _ _ _ c.requires.aligned c.requires.fits c.requires.committed long (omega (arith, long, length-take v.head.now.greatest c.args.next.now, c.requires.room, c.requires.fits.few.1)) c.turn_nodes.ensures c.draw_vectors.ensures.anew c.write.ensures.writes

pub returns-clause-stage : goal.returns-clause-stage
returns-clause-stage g c = λ root was is same_format.
    let a = g.F.StoreFile.state c.args.file.now in
    let d = g.F.StoreFile.state c.write.new.file in
    let v = c.args.self.now in
    let key = v.key.now in
    let top = v.head.now in
    let nodes = c.args.committed.now in
    let drawn = c.draw_vectors.new.table in
    let filled = c.turn_nodes.new.next in
    let next = c.write.new.table in
    let changes = changes_of v.pages in
    let dirty = holds v.set.nodes in
    let moved = holds v.set.blocks in
    let bits = c.requires.fits.bits in
    let long : length (take top.greatest c.args.next.now) ≡ length drawn = omega arith in
    let new : length drawn ≡ top.greatest = omega (arith, long, length-take top.greatest c.args.next.now, c.requires.room, c.requires.fits.few.1) in
    let long_next : length next ≡ length drawn = omega arith in
    let all : length next ≡ top.greatest = long_next ∙ new in
    let turns : AreTurned nodes dirty moved filled (length drawn) = subst (λ (n : ℕ). AreTurned nodes dirty moved filled n) long c.turn_nodes.ensures in
    let e : v.root ≡ 1 - root.version = omega (arith, is, bits.0) in
    let f : v.format ≡ root.format = sym same_format in
    let written = subst (λ (m : ℕ). IsWritten (layout_of m) (Known a d) d.reads key top (1 - root.version) changes dirty next) f (subst (λ (n : ℕ). IsWritten (layout_of v.format) (Known a d) d.reads key top n changes dirty next) e c.in_ok-root.ensures.written) in
    let keeps : Keeps (Lies (layout_of root.format) nodes root.version) a d = subst (λ (m : ℕ). Keeps (Lies (layout_of m) nodes root.version) a d) f (subst (λ (n : ℕ). Keeps (Lies (layout_of v.format) nodes n) a d) (sym is) (returns-clause-writes g c).keeps) in
    let are : AreChanges (length nodes) (length next) changes =
    subst (λ (n : ℕ). AreChanges n (length next) changes) (sym c.requires.committed) (subst (λ (n : ℕ). AreChanges v.before n changes) (sym all) c.requires.fits.changes) in
    let r : c.in_ok-root.root ≡ record { hash = (at_node next 1).hash; version = 1 - root.version; format = root.format } = c.in_ok-root.ensures.root ∙ (λ i. record { hash = (at_node next 1).hash; version = e i; format = f i }) in
    subst (λ (l : List NodeImage). IsStage (Known a d) a.reads d.reads key root (record { head = was; nodes = nodes; layout = layout_of v.format }) c.in_ok-root.root (record { head = top; nodes = l; layout = layout_of v.format }) changes) (sym (take_at next (drop top.greatest c.args.next.now) top.greatest all))
    (subst (λ (y : ℕ). IsStage (Known a d) a.reads d.reads key root (record { head = was; nodes = nodes; layout = layout_of y }) c.in_ok-root.root (record { head = top; nodes = next; layout = layout_of y }) changes) (sym f)
    (subst (λ (x : RootRef). IsStage (Known a d) a.reads d.reads key root (record { head = was; nodes = nodes; layout = layout_of root.format }) x (record { head = top; nodes = next; layout = layout_of root.format }) changes) (sym r)
    (is_stage a d key root was top nodes filled drawn next changes dirty moved (omega (arith, c.requires.committed, bits.1)) (omega (arith, all, c.requires.fits.few.1)) (omega (arith, is)) all c.requires.fits.sized long_next
    (closed_at v (length nodes) (length drawn) c.requires.fits c.requires.committed new) are turns c.draw_vectors.ensures.anew c.in_ok-root.ensures.from written keeps)))
