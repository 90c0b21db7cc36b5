use Rattle.std.proofs.Common.{◌≡◌}
use Rattle.open_table.specs.Table.{allows_on_file}
use Rattle.open_table.proofs.table.OpenTable.allows.Given as goal

-- what the records that are left answer
abbrev pub invariant-loop-record : goal.invariant-loop-record
invariant-loop-record l =
    (goal.iterator-loop-record).can_next l.record-iterator ×
    (goal.iterator-loop-record).is_finite l.record-iterator ×
    (allows_on_file l.self l.file l.flags ≡ allows_on_file (record { records = l.record-iterator; spare = 0 }) l.file l.flags)
