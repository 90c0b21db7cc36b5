use Rattle.std.proofs.Common.{◌≡◌, ℕ, ◌*◌, length, subst, arith}
use Rattle.tree_paths.specs.Paths.{holds}
use Rattle.tree_paths.specs.Staged.{count_to, write_budget}
use Rattle.node_image.specs.Parts.{layout_of}
use Rattle.htree_file.specs.Changes.{AreApart, changes_of}
use Rattle.htree_file.proofs.VersionWrites.{is_written, writes_head, writes_nodes}
use Rattle.htree_file.specs.Staging.{OffBlocks, OffWritten}
use Rattle.htree_file.proofs.Writings.{writes_within}
use Rattle.htree_file.proofs.staging.NewVersion.write.Goals as goal

pub returns-in_err-write_pages-clause-writes : goal.returns-in_err-write_pages-clause-writes
returns-in_err-write_pages-clause-writes g c =
    let changes = changes_of c.args.self.now.pages in
    let set = holds c.args.self.now.set.nodes in
    writes_within (OffBlocks (layout_of c.args.self.now.format) c.args.table.now changes) (OffWritten (layout_of c.args.self.now.format) c.args.table.now c.args.self.now.root changes set) (4096 * length changes) (write_budget (length changes) (count_to set 256)) _ _ (omega arith) (λ p off. off.blocks) c.write_pages.ensures.writes

pub returns-in_err-write_nodes-clause-writes : goal.returns-in_err-write_nodes-clause-writes
returns-in_err-write_nodes-clause-writes g c =
    let a = g.F.StoreFile.state c.args.file.now in
    let b = g.F.StoreFile.state c.write_pages.new.file in
    let e = g.F.StoreFile.state c.write_nodes.new.file in
    let changes = changes_of c.args.self.now.pages in
    let set = holds c.args.self.now.set.nodes in
    writes_nodes (layout_of c.args.self.now.format) changes set c.args.table.now c.write_pages.new.table c.rehash_nodes.new.nodes c.args.self.now.root c.in_ok-write_pages.ensures.anew c.rehash_nodes.ensures.seals (omega arith) a b e e c.write_pages.ensures.writes
    (write_budget (length changes) (count_to set 256)) (omega arith) c.write_nodes.ensures.writes

pub returns-in_err-write_head-clause-writes : goal.returns-in_err-write_head-clause-writes
returns-in_err-write_head-clause-writes g c =
    let a = g.F.StoreFile.state c.args.file.now in
    let b = g.F.StoreFile.state c.write_pages.new.file in
    let e = g.F.StoreFile.state c.write_nodes.new.file in
    let d = g.F.StoreFile.state c.write_head.new.file in
    writes_head (layout_of c.args.self.now.format) (changes_of c.args.self.now.pages) (holds c.args.self.now.set.nodes) c.args.table.now c.write_pages.new.table c.rehash_nodes.new.nodes c.args.self.now.root c.in_ok-write_pages.ensures.anew c.rehash_nodes.ensures.seals (omega arith)
    a b e d c.write_pages.ensures.writes c.write_nodes.ensures.writes c.write_head.ensures.writes

pub returns-clause-writes : goal.returns-clause-writes
returns-clause-writes g c =
    let a = g.F.StoreFile.state c.args.file.now in
    let b = g.F.StoreFile.state c.write_pages.new.file in
    let e = g.F.StoreFile.state c.write_nodes.new.file in
    let d = g.F.StoreFile.state c.write_head.new.file in
    writes_head (layout_of c.args.self.now.format) (changes_of c.args.self.now.pages) (holds c.args.self.now.set.nodes) c.args.table.now c.write_pages.new.table c.rehash_nodes.new.nodes c.args.self.now.root c.in_ok-write_pages.ensures.anew c.rehash_nodes.ensures.seals (omega arith)
    a b e d c.write_pages.ensures.writes c.write_nodes.ensures.writes c.write_head.ensures.writes

pub returns-clause-written : goal.returns-clause-written
returns-clause-written g c =
    let a = g.F.StoreFile.state c.args.file.now in
    let b = g.F.StoreFile.state c.write_pages.new.file in
    let e = g.F.StoreFile.state c.write_nodes.new.file in
    let d = g.F.StoreFile.state c.write_head.new.file in
    let next = c.rehash_nodes.new.nodes in
    let changes = changes_of c.args.self.now.pages in
    let long : c.args.self.now.head.now.greatest ≡ length next = omega arith in
    is_written (layout_of c.args.self.now.format) changes (holds c.args.self.now.set.nodes) c.args.table.now c.write_pages.new.table next c.args.self.now.root c.in_ok-write_pages.ensures.anew c.rehash_nodes.ensures.seals (omega arith)
    a b e d c.write_pages.ensures.writes c.args.self.now.key.now c.args.self.now.head.now (omega (arith, c.requires.fits.few.1)) (omega (arith, c.requires.fits.bits.0))
    (subst (λ (n : ℕ). AreApart n changes) long c.requires.fits.apart) c.write_nodes.ensures.writes c.write_head.ensures.writes
    c.in_ok-write_pages.ensures.sealed c.rehash_nodes.ensures.hashed c.in_ok-write_nodes.ensures.stand c.in_ok-write_head.ensures.stands c.in_ok-write_head.ensures.returns
