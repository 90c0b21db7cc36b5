use Rattle.std.proofs.Common.{◌≡◌}
use Rattle.open_table.specs.Table.{key_of}
use Rattle.open_table.proofs.table.OpenTable.find.Given as goal

-- the record is among those that are left, if there is one
abbrev pub invariant-loop-key : goal.invariant-loop-key
invariant-loop-key l =
    (goal.iterator-loop-key).can_next l.key-iterator ×
    (goal.iterator-loop-key).is_finite l.key-iterator ×
    (key_of l.self l.session l.handle ≡ key_of (record { records = l.key-iterator; spare = 0 }) l.session l.handle)
