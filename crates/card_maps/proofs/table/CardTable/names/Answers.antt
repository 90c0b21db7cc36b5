use Rattle.std.proofs.Common.{◌≡◌, ◌++◌, ◌∷◌, [], ℕ, zero, suc, ◌<◌, List, Option, None, length, get_or, ap, sym, ◌∙◌, arith}
use Rattle.card_maps.specs.declared.name.CardName.{CardName}
use Rattle.card_maps.specs.Tables.{names_in}
use Rattle.card_maps.proofs.Steps.{names_next}
use Rattle.card_maps.proofs.table.CardTable.names.Goals as goal

-- the element at an index does not depend on what stands past the end
item_none : (xs : List (Option (List ℕ))) (i : ℕ) (x : Option (List ℕ)) → i < length xs → x ≡ get_or xs i x → get_or xs i None ≡ x
item_none [] i x lt is = absurd (omega (arith, lt))
item_none (y ∷ xs) zero x lt is = sym is
item_none (y ∷ xs) (suc i) x lt is = item_none xs i x (omega (arith, lt)) is

pub loop-entry-preserved : goal.loop-entry-preserved
loop-entry-preserved c =
    c.in_ok-push_name.ensures
    ∙ ap (λ (l : List CardName). l ++ names_in (c.entry-item.result ∷ [])) c.loop-entry.invariant
    ∙ sym (names_next c.deref-entry-items.result.now c.loop-entry.entry-index c.entry-item.result (omega arith) (item_none c.deref-entry-items.result.now c.loop-entry.entry-index c.entry-item.result (omega arith) c.entry-item.is))
