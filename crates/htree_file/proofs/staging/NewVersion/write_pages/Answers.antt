use Rattle.std.proofs.Common.{◌≡◌, ℕ, ◌+◌, ◌*◌, ◌<◌, List, length, get_or, sym, ap, subst, arith}
use Rattle.node_image.specs.declared.node.NodeImage.{NodeImage}
use Rattle.node_image.specs.Tables.{no_node}
use Rattle.node_image.specs.Parts.{layout_of}
use Rattle.htree_file.specs.Changes.{block_at, changes_of, page_at}
use Rattle.htree_file.specs.Staging.{IsSealed}
use Rattle.disk_model.specs.Calls.{Known}
use Rattle.htree_file.proofs.Causes.{passed_then}
use Rattle.htree_file.proofs.SealSteps.{anew_step, blocks_write, sealed_step}
use Rattle.htree_file.proofs.staging.NewVersion.write_pages.Goals as goal

pub returns-in_err-node-clause-writes : goal.returns-in_err-node-clause-writes
returns-in_err-node-clause-writes g c =
    let changes = changes_of c.args.self.now.pages in
    let lt : c.loop-j.j < length changes = omega arith in
    blocks_write (layout_of c.args.self.now.format) changes c.args.table.now c.loop-j.table c.loop-j.j c.block-k.result _ _ _ (sym c.block-k.ensures) lt c.loop-j.invariant.anew c.loop-j.invariant.writes c.write_page.ensures.writes (4096 * length changes) (omega (arith, lt))

pub loop-j-preserved : goal.loop-j-preserved
loop-j-preserved g c =
    let entry = g.F.StoreFile.state c.args.file.now in
    let now = g.F.StoreFile.state c.loop-j.file in
    let new = g.F.StoreFile.state c.write_page.new.file in
    let changes = changes_of c.args.self.now.pages in
    let j = c.loop-j.j in
    let k = c.block-k.result in
    let at : block_at changes j ≡ k = sym c.block-k.ensures in
    let lt : j < length changes = omega arith in
    let made = c.in_ok-node.node in
    let before = c.loop-j.invariant in
    let step = c.in_ok-node.ensures in
    let long : length c.loop-j.table ≡ c.args.self.now.head.now.greatest = omega arith in
    let low : k < length c.loop-j.table = omega (arith, at, long, c.requires.fits.apart.within j lt) in
    let flags : made.flags ≡ (get_or c.loop-j.table k no_node).flags = ap (λ (n : NodeImage). n.flags) step.tagged in
    let sealed : IsSealed (layout_of c.args.self.now.format) (Known now new) new.reads c.args.self.now.key.now c.args.self.now.head.now made k (page_at changes j) =
    subst (λ (page : List ℕ). IsSealed (layout_of c.args.self.now.format) (Known now new) new.reads c.args.self.now.key.now c.args.self.now.head.now made k page) c.page-page.ensures step.sealed in
    record {
      writes = blocks_write (layout_of c.args.self.now.format) changes c.args.table.now c.loop-j.table j k entry now new at lt before.anew before.writes c.write_page.ensures.writes (4096 * (j + 1)) (omega arith);
      passed = passed_then entry now new before.passed step.cause;
      anew = anew_step changes c.args.table.now c.loop-j.table j k made at lt low flags before.anew;
      sealed = sealed_step (layout_of c.args.self.now.format) changes c.args.self.now.head.now.greatest c.requires.fits.few.1 c.requires.fits.apart entry now new c.args.self.now.key.now c.args.self.now.head.now c.loop-j.table j k made at long lt
          before.writes.keeps.goes_on c.write_page.ensures.writes.keeps before.sealed sealed;
    }
