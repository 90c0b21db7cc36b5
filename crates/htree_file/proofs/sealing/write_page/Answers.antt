use Rattle.std.proofs.Common.{sym, subst, ℕ}
use Rattle.node_image.specs.Parts.{layout_of}
use Rattle.node_image.specs.Parts.Part.{block}
use Rattle.htree_file.specs.Standing.{Stands}
use Rattle.htree_file.proofs.PageLaws.{page_good}
use Rattle.htree_file.proofs.sealing.write_page.Goals as goal

pub returns-clause-sealed : goal.returns-clause-sealed
returns-clause-sealed g c = record {
  ciphertext = c.seal_page-tag.new.page;
  opens = page_good c.args.key.now c.args.head.now (record c.args.node.now { tag = c.seal_page-tag.result }) c.args.k c.seal_page-tag.new.page c.args.page.now c.in_ok-write_block.ensures.block c.seal_page-tag.ensures.tag (sym c.seal_page-tag.ensures.text);
  stands = λ known. subst (λ (v : ℕ). Stands (layout_of c.args.format) (g.F.StoreFile.state c.write_block.new.file).reads (block c.args.k v) c.seal_page-tag.new.page) c.version_of_block.ensures.value (c.in_ok-write_block.ensures.stands known);
}
