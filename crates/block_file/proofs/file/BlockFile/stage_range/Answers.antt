use Rattle.std.proofs.Common.{◌≡◌, ◌∙◌, min, ℕ, List, Vec, Global, length, IfSome, OnOk, Err, Ok, ap, subst, sym}
use Rattle.tree_paths.specs.Staged.{IsWithinBudget}
use Rattle.std.proofs.lemmas.Result.{err_from_is_err_and}
use Rattle.node_image.specs.Layout.{greatest_of}
use Rattle.htree_file.specs.Changes.{AreChanges, OpensAfter, SealsChanges, changed_blocks}
use Rattle.htree_file.specs.declared.change.BlockChange.{BlockChange}
use Rattle.block_file.specs.Stages.{LeavesRewritten, StageAnswer}
use Rattle.block_file.proofs.StageRewrites.{AreChanges-made, blocks_forward, blocks_read, leaves_rewritten, rewritten_then, seals_range, writes_range}
use Rattle.htree_file.proofs.Sizes.{sized_greatest}
use Rattle.htree_file.specs.Opening.{load_of}
use Rattle.disk_model.specs.Calls.{Known}
use Rattle.disk_model.specs.Keeps.{Keeps}
use Rattle.htree_file.specs.Selected.{Lies}
use Rattle.page_bytes.specs.declared.range.ByteRange.{ByteRange}
use Rattle.page_bytes.specs.Ranges.{end_block}
use Rattle.block_file.proofs.StageAfterReads.{causes_then, device_widths, early_causes, no_stage, stage_then}
use Rattle.block_file.proofs.file.BlockFile.stage_range.Goals as goal

pub returns-in_err-changes-clause-staged : goal.returns-in_err-changes-clause-staged
returns-in_err-changes-clause-staged g c =
    let t = c.args.self.now in
    let fault = c.in_err-changes.field-0.0 in
    let p = err_from_is_err_and c.from_residual.result c.from_residual.ensures.1 in
    rw (p.1, p.2) (subst (λ new. StageAnswer g.F.StoreFile.state t new c.args.size {A = Unit {0}} (Err fault)) (sym c.in_err-changes.ensures.same)
    (no_stage _ g.F.StoreFile.state t c.new_pages.new.self.file c.args.size (Unit {0}) fault (g.met.F.StoreFile.sound t.file) c.requires.idle c.in_err-changes.ensures.rests))

pub returns-clause-staged : goal.returns-clause-staged
returns-clause-staged g c =
    let t = c.args.self.now in
    let step = c.in_ok-changes.ensures in
    stage_then _ g.F.StoreFile.state t c.stage_pages.new.self c.new_pages.new.self.file c.args.size (Unit {0}) c.stage_pages.result (g.met.F.StoreFile.sound t.file) step.rests
    (subst (λ old. StageAnswer g.F.StoreFile.state old c.stage_pages.new.self c.args.size {A = Unit {0}} c.stage_pages.result) step.same c.stage_pages.ensures.staged)

upto_is : (upto end greatest : ℕ) (r : ByteRange) (size : ℕ) → upto ≡ min end greatest → end ≡ end_block r → greatest ≡ greatest_of size → upto ≡ min (end_block r) (greatest_of size)
upto_is upto end greatest r size is ends all = is ∙ (λ i. min (ends i) (all i))

pub stage_pages-requires-clause-changes : goal.stage_pages-requires-clause-changes
stage_pages-requires-clause-changes g c =
    let t = c.args.self.now in
    let a = g.F.StoreFile.state t.file in
    let b = g.F.StoreFile.state c.new_pages.new.self.file in
    let before : t.tree.head.greatest ≡ greatest_of c.args.range.size = sized_greatest t.tree.head c.requires.verified.hashed.sized ∙ ap greatest_of (sym c.requires.old_size) in
    let r = c.args.range in
    let ends : c.min-upto.result ≡ min (end_block r) (greatest_of c.args.size) = upto_is c.min-upto.result c.end_block-end.result c.greatest_node.result r c.args.size c.min-upto.ensures c.end_block-end.ensures.value c.greatest_node.ensures.value in
    subst (λ (l : List BlockChange). AreChanges c.new_pages.new.self.tree.head.greatest (greatest_of c.args.size) l) (sym c.deref.ensures.value)
    (AreChanges-made t.key t.tree r c.args.at c.args.bytes.now c.args.size c.first_block-first.result c.min-upto.result a b c.in_ok-changes.changes.items
    c.requires.reaches c.requires.fits.within c.first_block-first.ensures ends c.in_ok-changes.ensures.answer c.new_pages.new.self.tree.head.greatest
    (ap (λ t. t.tree.head.greatest) c.in_ok-changes.ensures.same ∙ before)
    (rw (c.first_block-first.ensures, ends) (blocks_forward r c.args.size c.requires.reaches)))

pub returns-clause-rewritten : goal.returns-clause-rewritten
returns-clause-rewritten g c =
    let t = c.args.self.now in
    let a = g.F.StoreFile.state t.file in
    let b = g.F.StoreFile.state c.new_pages.new.self.file in
    let new = g.F.StoreFile.state c.stage_pages.new.self.file in
    let r = c.args.range in
    let ends : c.min-upto.result ≡ min (end_block r) (greatest_of c.args.size) = upto_is c.min-upto.result c.end_block-end.result c.greatest_node.result r c.args.size c.min-upto.ensures c.end_block-end.ensures.value c.greatest_node.ensures.value in
    let many : length t.tree.nodes ≡ greatest_of r.size = c.requires.verified.hashed.all ∙ sized_greatest t.tree.head c.requires.verified.hashed.sized ∙ ap greatest_of (sym c.requires.old_size) in
    let opened = subst (λ old. OnOk c.stage_pages.result (Known (g.F.StoreFile.state old.file) new → load_of (g.F.StoreFile.state old.file).reads old.root ≡ Ok old.tree
    → IfSome c.stage_pages.new.self.stage (λ s. OpensAfter old.key old.tree.head.wrapped (g.F.StoreFile.state old.file).reads old.root new.reads s.root c.args.size c.deref.result.now)))
    c.in_ok-changes.ensures.same c.stage_pages.ensures.opened in
    rewritten_then a b new (Unit {0}) c.stage_pages.result c.stage_pages.new.self.stage t.tree t.root
    (λ s. OpensAfter t.key t.tree.head.wrapped b.reads t.root new.reads s.root c.args.size c.deref.result.now)
    (λ s. LeavesRewritten t.key t.tree.head.wrapped a.reads t.root new.reads s.root r c.args.at c.args.bytes.now c.args.size)
    c.in_ok-changes.ensures.rests c.stage_pages.ensures.staged.keeps.goes_on opened
    (λ told loads s opens.
    leaves_rewritten t.key t.tree r c.args.at c.args.bytes.now c.args.size c.first_block-first.result c.min-upto.result a b c.in_ok-changes.changes.items
    c.requires.reaches c.requires.fits.within c.first_block-first.ensures ends c.in_ok-changes.ensures.answer told t.root s.root new.reads c.requires.verified c.requires.old_size many loads
    (subst (λ (l : List BlockChange). OpensAfter t.key t.tree.head.wrapped a.reads t.root new.reads s.root c.args.size l) c.deref.ensures.value
    (subst (λ (l : List ℕ). OpensAfter t.key t.tree.head.wrapped l t.root new.reads s.root c.args.size c.deref.result.now) (c.in_ok-changes.ensures.rests.reads told.1) opens)))

pub returns-clause-blocks : goal.returns-clause-blocks
returns-clause-blocks g c =
    let t = c.args.self.now in
    let a = g.F.StoreFile.state t.file in
    let b = g.F.StoreFile.state c.new_pages.new.self.file in
    let new = g.F.StoreFile.state c.stage_pages.new.self.file in
    let r = c.args.range in
    let ends : c.min-upto.result ≡ min (end_block r) (greatest_of c.args.size) = upto_is c.min-upto.result c.end_block-end.result c.greatest_node.result r c.args.size c.min-upto.ensures c.end_block-end.ensures.value c.greatest_node.ensures.value in
    blocks_read t.key t.tree r c.args.at c.args.bytes.now c.args.size c.first_block-first.result c.min-upto.result a b c.in_ok-changes.changes.items
    c.requires.reaches c.requires.fits.within c.first_block-first.ensures ends c.in_ok-changes.ensures.answer new (Unit {0}) c.stage_pages.result (subst (λ old. Keeps (Lies old.tree.layout old.tree.nodes old.root.version) b new) c.in_ok-changes.ensures.same c.stage_pages.ensures.staged.keeps)
    c.stage_pages.ensures.causes.kind

pub returns-clause-budget : goal.returns-clause-budget
returns-clause-budget g c =
    let t = c.args.self.now in
    let b = g.F.StoreFile.state c.new_pages.new.self.file in
    let new = g.F.StoreFile.state c.stage_pages.new.self.file in
    let ends : c.min-upto.result ≡ min (end_block c.args.range) (greatest_of c.args.size) = upto_is c.min-upto.result c.end_block-end.result c.greatest_node.result c.args.range c.args.size c.min-upto.ensures c.end_block-end.ensures.value c.greatest_node.ensures.value in
    let within = subst (λ old. IsWithinBudget (changed_blocks c.deref.result.now) old.tree.head.greatest (greatest_of c.args.size) b.written new.written) c.in_ok-changes.ensures.same c.stage_pages.ensures.budget in
    writes_range c.args.range c.args.size t.tree.head.greatest c.first_block-first.result c.min-upto.result c.in_ok-changes.changes.items (g.F.StoreFile.state t.file) b new c.first_block-first.ensures ends
    c.in_ok-changes.ensures.answer.blocks c.in_ok-changes.ensures.rests.written
    (subst (λ (l : List BlockChange). IsWithinBudget (changed_blocks l) t.tree.head.greatest (greatest_of c.args.size) b.written new.written) c.deref.ensures.value within)

pub returns-clause-seals : goal.returns-clause-seals
returns-clause-seals g c =
    let t = c.args.self.now in
    let a = g.F.StoreFile.state t.file in
    let b = g.F.StoreFile.state c.new_pages.new.self.file in
    let new = g.F.StoreFile.state c.stage_pages.new.self.file in
    let r = c.args.range in
    let ends : c.min-upto.result ≡ min (end_block r) (greatest_of c.args.size) = upto_is c.min-upto.result c.end_block-end.result c.greatest_node.result r c.args.size c.min-upto.ensures c.end_block-end.ensures.value c.greatest_node.ensures.value in
    let given = subst (λ old. OnOk c.stage_pages.result (IfSome c.stage_pages.new.self.stage (λ s. SealsChanges old.key old.tree s.tree c.deref.result.now))) c.in_ok-changes.ensures.same c.stage_pages.ensures.seals in
    let seals = subst (λ (l : List BlockChange). OnOk c.stage_pages.result (IfSome c.stage_pages.new.self.stage (λ s. SealsChanges t.key t.tree s.tree l))) c.deref.ensures.value given in
    seals_range t.key t.tree r c.args.at c.args.bytes.now c.args.size c.first_block-first.result c.min-upto.result a b new c.in_ok-changes.changes.items c.first_block-first.ensures ends
    (rw (c.first_block-first.ensures, ends) (blocks_forward r c.args.size c.requires.reaches)) c.in_ok-changes.ensures.answer (subst (λ old. Keeps (Lies old.tree.layout old.tree.nodes old.root.version) b new) c.in_ok-changes.ensures.same c.stage_pages.ensures.staged.keeps) (Unit {0})
    c.stage_pages.result c.stage_pages.new.self.stage seals

pub returns-clause-causes : goal.returns-clause-causes
returns-clause-causes g c =
    causes_then (g.F.StoreFile.state c.args.self.now.file) (g.F.StoreFile.state c.new_pages.new.self.file) (g.F.StoreFile.state c.stage_pages.new.self.file) _ _ _ _ (Unit {0}) c.stage_pages.result
    c.in_ok-changes.ensures.rests.goes_on c.in_ok-changes.ensures.cause c.stage_pages.ensures.causes

pub returns-clause-widths : goal.returns-clause-widths
returns-clause-widths g c = device_widths (Unit {0}) c.stage_pages.result c.stage_pages.ensures.causes.kind

pub returns-in_err-changes-clause-causes : goal.returns-in_err-changes-clause-causes
returns-in_err-changes-clause-causes g c =
    let t = c.args.self.now in
    let a = g.F.StoreFile.state t.file in
    let b = g.F.StoreFile.state c.new_pages.new.self.file in
    let p = err_from_is_err_and c.from_residual.result c.from_residual.ensures.1 in
    rw (p.1, p.2) (early_causes t.key t.tree a b c.args.range c.args.at c.args.bytes.now c.first_block-first.result c.min-upto.result (g.E.Entropy.faults c.args.entropy.now)
    (g.E.Entropy.is_reliable c.args.entropy.now) (Unit {0}) (Vec BlockChange Global) (λ v. v.items) c.in_err-changes.field-0.0 c.in_err-changes.ensures.answer c.in_err-changes.ensures.cause)
