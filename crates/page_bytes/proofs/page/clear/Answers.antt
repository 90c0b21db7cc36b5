use Rattle.std.proofs.Common.{◌≡◌, ◌∙◌, ◌-◌, ℕ, length, replicate, ap, arith}
use Rattle.page_bytes.proofs.Laying.{byte-cleared, length-part}
use Rattle.page_bytes.proofs.page.clear.Goals as goal
use borrow.Rule.Slice.PartMut.{mid_of}

-- src/page.rt:19:1
pub returns : goal.returns
returns c i =
    let len : length (mid_of c.args.from (c.args.upto - c.args.from) c.args.page.now) ≡ c.args.upto - c.args.from =
    length-part c.args.page.now c.args.from (c.args.upto - c.args.from) 4096 c.told-page (omega (arith, c.requires.0, c.requires.1)) in
    byte-cleared c.args.page.now c.fill.new.self c.args.from c.args.upto i c.requires.0 (omega (arith, c.told-page, c.requires.1))
    (c.fill.ensures.after (λ y e. e) ∙ ap (λ n. replicate {A = ℕ} n 0) len) (c.fill.ensures.len ∙ len)
