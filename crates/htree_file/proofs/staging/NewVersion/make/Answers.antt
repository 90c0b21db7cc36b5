use Rattle.std.proofs.Common.{◌≡◌, ℕ, ◌-◌, ◌<◌, ◌≤◌, List, ◌++◌, length, get_or, take, drop, length-take, true, sym, ◌∙◌, ap, subst, arith}
use Rattle.std.proofs.lemmas.List.{get_or-take, take_at}
use Rattle.std.proofs.lemmas.Result.{err_from_is_err_and}
use Rattle.disk_model.specs.State.{FileState}
use Rattle.disk_model.specs.Calls.{Known}
use Rattle.disk_model.specs.Keeps.{Anywhere, Keeps}
use Rattle.disk_model.proofs.Goings.{first_known, then_known}
use Rattle.disk_model.proofs.Laws.{keeps_fewer, keeps_then, rest_keeps, sync_keeps, synced}
use Rattle.node_image.specs.declared.node.NodeImage.{NodeImage}
use Rattle.node_image.specs.declared.node.RootRef.{RootRef}
use Rattle.node_image.specs.Tables.{at_node, no_node}
use Rattle.node_image.specs.Parts.{layout_of}
use Rattle.tree_paths.specs.Paths.{holds}
use Rattle.htree_file.specs.Answers.{FileFailed}
use Rattle.htree_file.specs.Changes.{IsChanged, changes_of}
use Rattle.htree_file.specs.Making.{Nowhere}
use Rattle.htree_file.specs.Staging.{IsWritten}
use Rattle.htree_file.specs.Stages.{IsMade}
use Rattle.htree_file.specs.declared.fault.TreeFault.TheVariants.{Failed}
use Rattle.htree_file.proofs.Causes.{fault_then}
use Rattle.htree_file.proofs.ChangeLists.{changed_of}
use Rattle.htree_file.proofs.Made.{is_made, made_on}
use Rattle.htree_file.proofs.staging.NewVersion.make.Goals as goal

-- keeping no place is kept by every call
less : (K : ℕ → Type 0) (a b : FileState) → Keeps K a b → Keeps Nowhere a b
less K a b keeps = keeps_fewer K Nowhere a b (λ p none. absurd none) keeps

pub returns-in_err-root-clause-keeps : goal.returns-in_err-root-clause-keeps
returns-in_err-root-clause-keeps g c = less _ _ _ c.write.ensures.writes.keeps

pub returns-in_err-sync-clause-keeps : goal.returns-in_err-sync-clause-keeps
returns-in_err-sync-clause-keeps g c =
    let d = g.F.StoreFile.state c.write.new.file in
    let e = g.F.StoreFile.state c.sync.new.self in
    keeps_then Nowhere (g.F.StoreFile.state c.args.file.now) d e (less _ _ d c.write.ensures.writes.keeps) (less Anywhere d e (rest_keeps d e (g.met.F.StoreFile.sound c.write.new.file) c.in_err-sync.ensures.unsettled))

pub returns-clause-keeps : goal.returns-clause-keeps
returns-clause-keeps g c =
    let d = g.F.StoreFile.state c.write.new.file in
    let e = g.F.StoreFile.state c.sync.new.self in
    keeps_then Nowhere (g.F.StoreFile.state c.args.file.now) d e (less _ _ d c.write.ensures.writes.keeps) (less Anywhere d e (sync_keeps d e (g.met.F.StoreFile.sound c.write.new.file) c.in_ok-sync.ensures.synced))

pub returns-clause-synced : goal.returns-clause-synced
returns-clause-synced g c = λ honest image left. synced (g.F.StoreFile.state c.write.new.file) (g.F.StoreFile.state c.sync.new.self) c.in_ok-sync.ensures.synced honest image left

pub returns-clause-flags : goal.returns-clause-flags
returns-clause-flags g c = λ n least most.
    let m : ℕ = c.args.self.now.head.now.greatest in
    let table : List NodeImage = c.write.new.table in
    let long : length (take m c.args.table.now) ≡ length table = omega arith in
    let all : length table ≡ m = omega (arith, long, length-take m c.args.table.now, c.requires.blank.room, c.requires.fits.few.1) in
    let same : take m (table ++ drop m c.args.table.now) ≡ table = take_at table (drop m c.args.table.now) m all in
    let low : n - 1 < m = omega (arith, least, most, all, ap length same) in
    ap (λ (l : List NodeImage). (get_or l (n - 1) no_node).flags) same
    ∙ c.in_ok-root.ensures.from.flags (n - 1) ∙ c.draw_vectors.ensures.anew.flags (n - 1)
    ∙ ap (λ (x : NodeImage). x.flags) (get_or-take m c.args.table.now (n - 1) no_node low) ∙ c.requires.blank.zero (n - 1)

pub returns-clause-made : goal.returns-clause-made
returns-clause-made g c =
    let a = g.F.StoreFile.state c.args.file.now in
    let d = g.F.StoreFile.state c.write.new.file in
    let e = g.F.StoreFile.state c.sync.new.self in
    let v = c.args.self.now in
    let key = v.key.now in
    let top = v.head.now in
    let table : List NodeImage = c.write.new.table in
    let changes = changes_of v.pages in
    let dirty = holds v.set.nodes in
    let fits = c.requires.fits in
    let settled = c.in_ok-sync.ensures.synced in
    let long : length (take top.greatest c.args.table.now) ≡ length table = omega arith in
    let all : length table ≡ top.greatest = omega (arith, long, length-take top.greatest c.args.table.now, c.requires.blank.room, c.requires.fits.few.1) in
    let zero : v.root ≡ 0 = c.requires.whole.1 in
    let none : v.before ≡ 0 = c.requires.whole.0 in
    let written = subst (λ (n : ℕ). IsWritten (layout_of v.format) (Known a d) d.reads key top n changes dirty table) zero c.in_ok-root.ensures.written in
    let hits : (n : ℕ) → 1 ≤ n → n ≤ length table → dirty n ≡ true = λ n least most. (fits.closed.fresh n (omega (arith, none)) (omega (arith, most, all))).0 in
    let each : (k : ℕ) → k < length table → IsChanged changes k = λ k lt. changed_of changes k (fits.changes.fresh k (omega (arith, none)) (omega (arith, lt, all))) in
    let root : c.in_ok-root.root ≡ record { hash = (at_node table 1).hash; version = 0; format = v.format } = c.in_ok-root.ensures.root ∙ (λ i. record { hash = (at_node table 1).hash; version = zero i; format = v.format }) in
    subst (λ (l : List NodeImage). IsMade (Known a e) e.reads key c.in_ok-root.root (record { head = top; nodes = l; layout = layout_of v.format }) changes) (sym (take_at table (drop top.greatest c.args.table.now) top.greatest all))
    (subst (λ (r : RootRef). IsMade (Known a e) e.reads key r (record { head = top; nodes = table; layout = layout_of v.format }) changes) (sym root)
    (made_on (Known a d) (Known a e) d.reads e.reads key _ (record { head = top; nodes = table; layout = layout_of v.format }) changes (λ known. first_known a d e settled.goes_on known) (λ known. settled.reads (then_known a d e c.write.ensures.writes.keeps.goes_on known))
    (is_made v.format (Known a d) d.reads key top changes dirty table written all fits.sized hits each)))

pub returns-clause-format : goal.returns-clause-format
returns-clause-format g c = ap (λ (r : RootRef). r.format) c.in_ok-root.ensures.root

pub returns-in_err-sync-clause-causes : goal.returns-in_err-sync-clause-causes
returns-in_err-sync-clause-causes g c =
    let p = err_from_is_err_and c.from_residual-in_err-sync.result c.from_residual-in_err-sync.ensures.1 in
    let fails = c.in_err-sync.ensures.cause in
    let failed : FileFailed (g.F.StoreFile.state c.write.new.file) (g.F.StoreFile.state c.sync.new.self) c.in_err-sync.field-0.0.count = record { rose = fails.rose; carried = fails.carried; calm = fails.calm } in
    rw (p.1, p.2) record {
      file = fault_then _ _ _ (Failed c.in_err-sync.field-0.0.count) c.write.ensures.writes.keeps.goes_on c.in_ok-root.ensures.cause failed;
      drawn = c.in_ok-draw_vectors.ensures.cause;
      lasts = c.draw_vectors.ensures.lasts;
      reliable = λ was. tt;
      kind = tt;
    }
