use Rattle.std.proofs.Common.{◌≡◌, ◌*◌, ◌≤◌, ◌^◌, take}
use Rattle.std.specs.Prelude.{count_by, sum_by}
use Rattle.app_totals.specs.EntryTotals.{is_entry_of, bytes_by}
use Rattle.app_totals.proofs.entries.entry_totals.Given as goal

abbrev pub invariant-loop-entry : goal.invariant-loop-entry
invariant-loop-entry l =
    (l.objects ≡ count_by (is_entry_of l.app) (take l.entry-index l.entries))
    × (l.bytes ≡ sum_by (bytes_by l.app) (take l.entry-index l.entries))
    × (l.objects ≤ l.entry-index)
    × (l.bytes ≤ l.entry-index * 2 ^ 32)
