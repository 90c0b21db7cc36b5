use Rattle.std.proofs.Common.{◌≡◌, ◌≤◌, length}
use Rattle.card_maps.specs.Tables.{unused_below}
use Rattle.card_maps.proofs.table.CardTable.unused.Given as goal

abbrev pub invariant-loop-d : goal.invariant-loop-d
invariant-loop-d l = (l.numbers.items ≡ unused_below l.self-inside.used l.d) × (length l.numbers.items ≤ l.d)
