use Rattle.std.proofs.Common.{◌∙◌, ◌+◌, ◌*◌, ◌-◌, ℕ, take, drop, ap, arith}
use Rattle.page_bytes.proofs.Laying.{byte-laid}
use Rattle.page_bytes.proofs.page.lay.Goals as goal

-- src/page.rt:27:1
pub returns-then-from-upto : goal.returns-then-from-upto
returns-then-from-upto c i lt =
    let begin : ℕ = 4096 * c.from.result + c.offset_in-from.result - c.args.at in
    byte-laid c.args.k c.args.at begin _ _ i c.args.bytes.now _ c.args.page.now c.told-page c.offset_in-from.ensures c.offset_in-upto.ensures c.if-from-upto.true
    (ap (λ k. 4096 * k + c.offset_in-from.result - c.args.at) c.from.ensures)
    (c.copy_from_slice.ensures.after ∙ ap (λ n. take n (drop begin c.args.bytes.now)) (omega arith)) lt
