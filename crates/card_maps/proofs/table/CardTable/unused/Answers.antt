use Rattle.std.proofs.Common.{◌++◌, ◌∷◌, [], List, cond, true, get_or, length, ℕ, ap, sym, ◌∙◌, arith}
use Rattle.card_maps.proofs.Steps.{unused_next, unused_none}
use Rattle.card_maps.proofs.table.CardTable.unused.Goals as goal

pub loop-d-init : goal.loop-d-init
loop-d-init c = (c.new-numbers.ensures ∙ sym (unused_none c.self.inside.used), omega (arith, ap length c.new-numbers.ensures))

pub loop-d-preserved : goal.loop-d-preserved
loop-d-preserved c =
    let d : ℕ = c.loop-d.d in (
      c.push_unused.ensures.items
          ∙ ap (λ (l : List ℕ). cond (get_or c.self.inside.used c.loop-d.d true) l (l ++ c.loop-d.d ∷ [])) c.loop-d.invariant.0
          ∙ sym (unused_next c.self.inside.used c.loop-d.d),
      c.push_unused.ensures.count,
    )
