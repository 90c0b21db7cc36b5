use Rattle.std.proofs.Common.{◌≡◌, take}
use Rattle.card_maps.specs.Tables.{names_in}
use Rattle.card_maps.proofs.table.CardTable.names.Given as goal

abbrev pub invariant-loop-entry : goal.invariant-loop-entry
invariant-loop-entry l = l.names.items ≡ names_in (take l.entry-index l.entry-items)
