use Rattle.std.proofs.Common.{◌≡◌}
use Rattle.open_table.specs.Table.{is_file_open}
use Rattle.open_table.proofs.table.OpenTable.any.Given as goal

-- what the records that are left answer
abbrev pub invariant-loop-record : goal.invariant-loop-record
invariant-loop-record l =
    (goal.iterator-loop-record).can_next l.record-iterator ×
    (goal.iterator-loop-record).is_finite l.record-iterator ×
    (is_file_open l.self l.file ≡ is_file_open (record { records = l.record-iterator; spare = 0 }) l.file)
