-- The entries in pages that were read.
use Rattle.std.proofs.Common.{◌≡◌, ◌∙◌, ◌*◌, ◌/◌, ◌%◌, ℕ, List, [], get_or, Option, Some, None, Result, Ok, Err, if◌then◌else◌, Bool, true, false, refl, ap, subst, arith, unwrap_or}
use Rattle.std.specs.Prelude.{IfSome}
use Rattle.byte_fields.specs.Field.{field}
use Rattle.dir_records.specs.declared.entry.DirEntry.{DirEntry}
use Rattle.dir_records.specs.declared.entry.BadRecord.{BadRecord}
use Rattle.dir_records.specs.Form.{HasForm, entry_or, first_fault, is_free, record_of}
use Rattle.dir_records.specs.Layout.{entry_of}
use Rattle.dir_records.proofs.Reading.{has_form-entry_of, passes}
use Rattle.crash_core.specs.declared.fault.DirFault.{DirFault}
use Rattle.crash_core.specs.declared.fault.DirFault.TheVariants.{Tree, WrongLength, Record, Double}
use Rattle.crash_core.specs.Entries.{distinct, entries_of, first_double, or_double}
use Rattle.dir_file.specs.Pages.{Parses, some_pages}
use Rattle.dir_file.specs.EntryForms.{AreEntriesOf}
use Rattle.dir_file.specs.Pages.{ReadsEntries}
use Rattle.dir_file.proofs.Entries.{AreEntries, entries_back}

-- an entry that is read has its form
form_of : (b : List ℕ) (e : DirEntry) → record_of b ≡ Ok (Some e) → HasForm e
form_of b e is = by_free (is_free b) (first_fault b) refl is
  where
    by_free : (free : Bool) (o : Option ℕ) → first_fault b ≡ o → (if free then (let r : Result (Option DirEntry) BadRecord = Ok None in r) else entry_or o (entry_of b)) ≡ Ok (Some e) → HasForm e
    by_free true o fault ok = absurd (cc (ok))
    by_free false None none ok = let e' : entry_of b ≡ e = cc (ok) in subst HasForm e' (has_form-entry_of b (passes b none))
    by_free false (Some offset) some ok = absurd (cc (ok))

if_form : (b : List ℕ) (o : Option DirEntry) → record_of b ≡ Ok o → IfSome o HasForm
if_form b None is = tt
if_form b (Some e) is = form_of b e is

entries_form : (pages : List (Option (List ℕ))) (entries : List (Option DirEntry)) → AreEntries pages entries 256 → first_double entries 0 256 ≡ None → AreEntriesOf entries
entries_form pages entries are none = record {
  apart = none;
  whole = are.long;
  forms = λ i lt. if_form (field (128 * (i % 32)) 128 (unwrap_or (get_or pages (i / 32) None) [])) (get_or entries i None) (are.records i (omega (arith, are.long)));
}

-- the double that is found, or none
pub read_double : (pages : List (List ℕ)) (V : Type 0) (items : V → List (Option DirEntry)) (v : V) (index first : ℕ) → entries_of (some_pages pages) 256 ≡ Ok (items v)
    → first_double (items v) 0 256 ≡ Some (index, first) → distinct (entries_of (some_pages pages) 256) ≡ Err (Double index first)
read_double pages V items v index first were found =
    let are = entries_back (some_pages pages) 256 (items v) were in
    ap distinct were ∙ ap (λ (n : ℕ). or_double (items v) (first_double (items v) 0 n)) are.long ∙ ap (or_double (items v)) found

pub read_single : (pages : List (List ℕ)) (V : Type 0) (items : V → List (Option DirEntry)) (v : V) → entries_of (some_pages pages) 256 ≡ Ok (items v)
    → first_double (items v) 0 256 ≡ None → ReadsEntries pages items (Ok v)
read_single pages V items v were none =
    let are = entries_back (some_pages pages) 256 (items v) were in
    (ap distinct were ∙ ap (λ (n : ℕ). or_double (items v) (first_double (items v) 0 n)) are.long ∙ ap (or_double (items v)) none, entries_form (some_pages pages) (items v) are none)

-- what parsing refuses
pub read_refused : (pages : List (List ℕ)) (V W : Type 0) (vs : V → List (Option DirEntry)) (ws : W → List (Option DirEntry)) (fault : DirFault)
    → Parses (some_pages pages) vs (let r : Result V DirFault = Err fault in r) → ReadsEntries pages ws (let r : Result W DirFault = Err fault in r)
read_refused pages V W vs ws (Tree fault) parses = parses
read_refused pages V W vs ws (Record index offset) parses = ap distinct parses
read_refused pages V W vs ws (WrongLength bytes) parses = absurd parses
read_refused pages V W vs ws (Double index first) parses = absurd parses
