use Rattle.std.proofs.Common.{◌≡◌, Ok}
use Rattle.crash_core.specs.Entries.{entries_of}
use Rattle.dir_file.specs.Pages.{some_pages}
use Rattle.dir_file.proofs.records.parse.Given as goal

abbrev pub invariant-loop-i : goal.invariant-loop-i
invariant-loop-i l = entries_of (some_pages l.pages) l.i ≡ Ok l.entries.items
