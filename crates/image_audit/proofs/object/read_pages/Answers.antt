use Rattle.std.proofs.Common.{◌≡◌, ◌∙◌, ◌+◌, inr, ℕ, List, length, Result, Ok, sym, ap, subst, arith}
use Rattle.core_laws.specs.Decodings.{Decoding}
use Rattle.image_audit.specs.declared.fault.ProofFault.{ProofFault}
use Rattle.image_audit.specs.Contents.{HoldsPages, cut_pages}
use Rattle.image_audit.proofs.ContentPages.{holds_more, pages_end}
use Rattle.image_audit.proofs.Cutting.{block_bad, block_good, pages_bad, pages_good}
use Rattle.image_audit.proofs.object.read_pages.Goals as goal

pub returns-in-Err-clause-err : goal.returns-in-Err-clause-err
returns-in-Err-clause-err c =
    let sp : Decoding = cut_pages c.args.key.now c.args.head.now c.args.nodes.now c.args.bytes.now c.args.at in
    let bad = block_bad c.args.key.now c.args.head.now c.args.nodes.now c.args.bytes.now c.args.at c.loop-k.k c.field-page.result c.in-Err.fault c.field-page.ensures c.in-Err.ensures.0 c.in-Err.ensures.1 in
    inr (pages_bad sp (length c.args.nodes.now) c.loop-k.k c.in-Err.fault c.loop-k-test.true c.loop-k.invariant.tested bad.0 bad.1)

pub loop-k-preserved : goal.loop-k-preserved
loop-k-preserved c =
    let sp : Decoding = cut_pages c.args.key.now c.args.head.now c.args.nodes.now c.args.bytes.now c.args.at in
    let good = block_good c.args.key.now c.args.head.now c.args.nodes.now c.args.bytes.now c.args.at c.loop-k.k c.field-page.result c.open_block.new.page c.field-page.ensures c.in-Ok.ensures in
    record {
      tested = pages_good sp (length c.args.nodes.now) c.loop-k.k c.open_block.new.page c.loop-k-test.true c.loop-k.invariant.tested good;
      pages = subst (λ (l : List ℕ). HoldsPages sp l (c.loop-k.k + 1)) (sym c.in-Ok-extend_from_slice.ensures.items)
          (holds_more sp c.loop-k.content.items c.open_block.new.page c.loop-k.k c.loop-k.invariant.pages (omega arith) good);
    }

pub returns-clause-ok : goal.returns-clause-ok
returns-clause-ok c =
    let sp : Decoding = cut_pages c.args.key.now c.args.head.now c.args.nodes.now c.args.bytes.now c.args.at in
    let last : c.loop-k.k ≡ length c.args.nodes.now = omega arith in
    c.loop-k.invariant.tested ∙ pages_end sp c.loop-k.k (length c.args.nodes.now) c.loop-k-test.false ∙ ap (λ (n : ℕ). let r : Result ℕ ProofFault = Ok n in r) last
