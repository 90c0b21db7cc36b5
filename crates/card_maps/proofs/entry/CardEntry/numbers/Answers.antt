use Rattle.std.proofs.Common.{◌≡◌, ◌+◌, ◌-◌, ℕ, take, drop, ap, sym, ◌∙◌, arith}
use Rattle.card_maps.specs.Form.{data_blocks, numbers_in, size_in}
use Rattle.card_maps.proofs.Faults.{numbers_taken}
use Rattle.card_maps.proofs.entry.CardEntry.numbers.Goals as goal

pub returns-clause-value : goal.returns-clause-value
returns-clause-value c =
    let count : c.data_blocks.result ≡ data_blocks (size_in c.self.inside.block) = c.data_blocks.ensures ∙ ap data_blocks (c.size.ensures.value ∙ ap size_in (sym c.self.view_is)) in
    let n : 84 + c.data_blocks.result - 84 ≡ c.data_blocks.result = omega arith in
    ap (λ (k : ℕ). take k (drop 84 c.self.inside.block)) n ∙ numbers_taken c.self.inside.block c.data_blocks.result count (omega arith) ∙ ap numbers_in c.self.view_is
