use Rattle.std.proofs.Common.{◌∙◌, ◌+◌, ◌*◌, ◌-◌, ℕ, take, drop, ap, arith}
use Rattle.page_bytes.proofs.Laying.{byte-given}
use Rattle.page_bytes.proofs.range.ByteRange.copy_out.Goals as goal

-- src/page.rt:42:5
pub returns-then-from-upto : goal.returns-then-from-upto
returns-then-from-upto c i =
    let begin : ℕ = 4096 * c.from.result + c.offset_in-from.result - c.args.self.first in
    byte-given c.args.self c.args.k begin _ _ (begin + (c.offset_in-upto.result - c.offset_in-from.result) - begin) i c.args.page.now _ c.args.into.now c.told-page
    c.offset_in-from.ensures c.offset_in-upto.ensures c.if-from-upto.true
    (ap (λ k. 4096 * k + c.offset_in-from.result - c.args.self.first) c.from.ensures) (omega arith) c.requires
    (c.copy_from_slice.ensures.after ∙ ap (λ n. take n (drop c.offset_in-from.result c.args.page.now)) (omega arith))
