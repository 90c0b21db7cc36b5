-- A new entry fits in a place: no other one has its name or its file.
use Rattle.std.proofs.Common.{◌≡◌, ◌∙◌, ◌<◌, ◌==◌, ◌||◌, ℕ, Bool, true, false, List, Option, Some, None, is_eq, refl, sym, ap}
use Rattle.std.proofs.lemmas.Bool.{ne_eqb}
use Rattle.store_model.specs.Name.{name_cmp}
use Rattle.dir_records.specs.declared.entry.DirEntry.{DirEntry}
use Rattle.dir_records.specs.Form.{HasForm}
use Rattle.crash_core.specs.Entries.{is_double, name_of}
use Rattle.crash_core.specs.EntryLists.{IsUnnamed, entry_at}
use Rattle.crash_core.proofs.Names.{alike_is}
use Rattle.dir_file.specs.EntryForms.{Fits}
use Rattle.dir_index.specs.EntryNames.{IsEntryNamed}

pub fits_new : (entries : List (Option DirEntry)) (index : ℕ) (e : DirEntry) → index < 256 → HasForm e → IsEntryNamed entries (name_of e) None → IsUnnamed entries e.file
    → Fits entries index (Some e)
fits_new entries index e below form new unnamed = record { below = below; form = form; alone = λ i low other. alone i (entry_at entries i) refl }
  where
    alone : (i : ℕ) (o : Option DirEntry) → entry_at entries i ≡ o → is_double o (Some e) ≡ false
    alone i None at = refl
    alone i (Some f) at = by_test (is_eq (name_cmp (name_of f) (name_of e))) refl
      where
        by_test : (b : Bool) → is_eq (name_cmp (name_of f) (name_of e)) ≡ b → is_double (Some f) (Some e) ≡ false
        by_test true alike = absurd (new i f at (alike_is (name_of f) (name_of e) alike))
        by_test false alike = ap (λ (b : Bool). b || (f.file == e.file)) alike ∙ ne_eqb f.file e.file (λ same. unnamed i f at (sym same))
