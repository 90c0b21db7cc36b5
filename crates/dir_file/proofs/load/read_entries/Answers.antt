use Rattle.std.proofs.Common.{◌∙◌, List, Option, Vec, Global, length, sym, ap}
use Rattle.dir_records.specs.declared.entry.DirEntry.{DirEntry}
use Rattle.crash_core.specs.Entries.{first_double}
use Rattle.dir_file.specs.Pages.{some_pages}
use Rattle.dir_file.proofs.Entries.{entries_back}
use Rattle.dir_file.proofs.EntriesRead.{read_double, read_single}
use Rattle.dir_file.proofs.load.read_entries.Goals as goal

pub first_double-requires : goal.first_double-requires
first_double-requires c = ap length c.deref.ensures.value ∙ (entries_back (some_pages c.args.pages.now) 256 c.in_ok-entries.entries.items c.in_ok-entries.ensures).long

pub returns-in-Some : goal.returns-in-Some
returns-in-Some c =
    read_double c.args.pages.now (Vec (Option DirEntry) Global) (λ v. v.items) c.in_ok-entries.entries c.in-Some.index c.in-Some.first c.in_ok-entries.ensures
    (ap (λ (l : List (Option DirEntry)). first_double l 0 256) (sym c.deref.ensures.value) ∙ sym c.in-Some.ensures)

pub returns-in-None : goal.returns-in-None
returns-in-None c =
    read_single c.args.pages.now (Vec (Option DirEntry) Global) (λ v. v.items) c.in_ok-entries.entries c.in_ok-entries.ensures
    (ap (λ (l : List (Option DirEntry)). first_double l 0 256) (sym c.deref.ensures.value) ∙ sym c.in-None.ensures)
