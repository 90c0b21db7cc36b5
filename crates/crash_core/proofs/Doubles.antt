-- Entries that a directory was read as have distinct names, distinct files, and forms.
use Rattle.std.proofs.Common.{◌≡◌, ◌≢◌, ◌⊎◌, ◌∙◌, ◌+◌, ◌*◌, ◌/◌, ◌%◌, ◌<◌, ◌≤◌, ◌||◌, ◌==◌, ℕ, zero, suc, Bool, true, false, cond, List, [], ◌∷◌, ◌++◌, length, length-append, get_or, unwrap_or, Option, Some, None, Result, Ok, Err, inl, inr, refl, sym, ap, subst, is_eq, true≢false, arith}
use Rattle.std.proofs.lemmas.Bool.{cases_eq, cases_lt, eq-eqb}
use Rattle.byte_fields.specs.Field.{field}
use Rattle.store_model.specs.Name.{name_cmp}
use Rattle.htree_file.specs.declared.fault.TreeFault.{TreeFault}
use Rattle.htree_file.specs.Pages.{Opened}
use Rattle.dir_records.specs.declared.entry.DirEntry.{DirEntry}
use Rattle.dir_records.specs.declared.entry.BadRecord.{BadRecord}
use Rattle.dir_records.specs.Form.{HasForm, entry_or, first_fault, is_free, record_of}
use Rattle.dir_records.specs.Layout.{entry_of}
use Rattle.dir_records.proofs.Reading.{has_form-entry_of, passes}
use Rattle.crash_core.specs.declared.fault.DirFault.{DirFault}
use Rattle.crash_core.specs.declared.fault.DirFault.TheVariants.{WrongLength}
use Rattle.crash_core.specs.Entries.{distinct, double_or, entries_of, first_double, first_like, is_double, name_of, or_double, record_at, with_record}
use Rattle.crash_core.specs.EntryLists.{AreDistinct, AreSingle, entry_at}
use Rattle.crash_core.specs.Directory.{bad_block, directory_from, directory_in, directory_pages}
use Rattle.crash_core.specs.DirectoryLaws.{AreEntries}
use Rattle.store_model.proofs.Maps.{apart-sym}

-- NO DOUBLES
-- where none is found, none of these is a double
pub like_none : (entries : List (Option DirEntry)) (entry : Option DirEntry) (j count : ℕ) → first_like entries entry j count ≡ None
    → (n : ℕ) → j ≤ n → n < j + count → is_double (get_or entries n None) entry ≡ false
unfolding first_like
like_none entries entry j zero none n from upto = absurd (omega arith)
like_none entries entry j (suc count) none n from upto =
    by_test (is_double (get_or entries j None) entry) refl (first_like entries entry (j + 1) count) (λ rest at. like_none entries entry (j + 1) count rest n at (omega arith)) none
  where
    by_test : (b : Bool) → is_double (get_or entries j None) entry ≡ b → (rest : Option ℕ) → (rest ≡ None → j + 1 ≤ n → is_double (get_or entries n None) entry ≡ false)
        → cond b (Some j) rest ≡ None → is_double (get_or entries n None) entry ≡ false
    by_test true is rest later found = absurd (cc (found))
    by_test false is rest later found = elim (cases_eq n j) [
      | inl same ↦ ap (λ (m : ℕ). is_double (get_or entries m None) entry) same ∙ is
      | inr other ↦ later found (omega (arith, other))
    ]

pub double_none : (entries : List (Option DirEntry)) (i count : ℕ) → first_double entries i count ≡ None
    → (n : ℕ) → i ≤ n → n < i + count → first_like entries (get_or entries n None) 0 n ≡ None
unfolding first_double
double_none entries i zero none n from upto = absurd (omega arith)
double_none entries i (suc count) none n from upto =
    by_first (first_like entries (get_or entries i None) 0 i) refl (first_double entries (i + 1) count) (λ rest at. double_none entries (i + 1) count rest n at (omega arith)) none
  where
    by_first : (o : Option ℕ) → first_like entries (get_or entries i None) 0 i ≡ o → (rest : Option (ℕ × ℕ)) → (rest ≡ None → i + 1 ≤ n → first_like entries (get_or entries n None) 0 n ≡ None)
        → double_or i o rest ≡ None → first_like entries (get_or entries n None) 0 n ≡ None
    by_first (Some first) is rest later found = absurd (cc (found))
    by_first None is rest later found = elim (cases_eq n i) [
      | inl same ↦ ap (λ (m : ℕ). first_like entries (get_or entries m None) 0 m) same ∙ is
      | inr other ↦ later found (omega (arith, other))
    ]

either_false : (a b : Bool) → (a || b) ≡ false → (a ≡ false) × (b ≡ false)
either_false true b none = absurd (true≢false none)
either_false false b none = (refl, none)

-- an entry stands at one of the places
pub below : (entries : List (Option DirEntry)) (index : ℕ) (e : DirEntry) → entry_at entries index ≡ Some e → index < length entries
below [] index e at = absurd (cc (at))
below (x ∷ entries) zero e at = omega arith
below (x ∷ entries) (suc index) e at = let lt = below entries index e at in omega arith

module _ (entries : List (Option DirEntry)) (none : first_double entries 0 (length entries) ≡ None) where
  two : (a b : ℕ) (e f : DirEntry) → entry_at entries a ≡ Some e → entry_at entries b ≡ Some f → a < b → is_double (Some e) (Some f) ≡ false
  two a b e f at there lt =
      (λ i. is_double (sym at i) (sym there i))
      ∙ like_none entries (get_or entries b None) 0 b (double_none entries 0 (length entries) none b (omega arith) (let long = below entries b f there in omega arith)) a (omega arith) (omega arith)

  names_apart : (a b : ℕ) (e f : DirEntry) → entry_at entries a ≡ Some e → entry_at entries b ≡ Some f → a < b → is_eq (name_cmp (name_of e) (name_of f)) ≡ false
  names_apart a b e f at there lt = (either_false (is_eq (name_cmp (name_of e) (name_of f))) _ (two a b e f at there lt)).0

  files_apart : (a b : ℕ) (e f : DirEntry) → entry_at entries a ≡ Some e → entry_at entries b ≡ Some f → a < b → e.file ≢ f.file
  files_apart a b e f at there lt same =
      true≢false (sym (eq-eqb e.file f.file same) ∙ (either_false _ (e.file == f.file) (two a b e f at there lt)).1)

  -- Entries without a double have distinct names,
  pub names_distinct : AreDistinct entries
  names_distinct index e at other f ne there = elim (cases_lt index other) [
    | inl low ↦ names_apart index other e f at there low
    | inr high ↦ apart-sym (name_of f) (name_of e) (names_apart other index f e there at (omega (arith, ne)))
  ]

  -- and distinct files.
  pub files_single : AreSingle entries
  files_single a b e f at there same = elim (cases_eq a b) [
    | inl eq ↦ eq
    | inr ne ↦ elim (cases_lt a b) [
      | inl low ↦ absurd (files_apart a b e f at there low same)
      | inr high ↦ absurd (files_apart b a f e there at (omega (arith, ne, high)) (sym same))
    ]
  ]

-- FORMS
-- 128 bytes that hold an entry hold one in its form
pub record_forms : (bytes : List ℕ) (e : DirEntry) → record_of bytes ≡ Ok (Some e) → HasForm e
record_forms bytes e is = by_free (is_free bytes) is
  where
    by_fault : (o : Option ℕ) → first_fault bytes ≡ o → entry_or o (entry_of bytes) ≡ Ok (Some e) → HasForm e
    by_fault (Some offset) fault found = absurd (cc (found))
    by_fault None fault found =
        let same : entry_of bytes ≡ e = cc (found) in
        subst HasForm same (has_form-entry_of bytes (passes bytes fault))

    by_free : (b : Bool) → cond b (Ok None) (entry_or (first_fault bytes) (entry_of bytes)) ≡ Ok (Some e) → HasForm e
    by_free true found = absurd (cc (found))
    by_free false found = by_fault (first_fault bytes) refl found

-- what stands in a longer list stood there before, or is the last
last_at : (xs : List (Option DirEntry)) (x : Option DirEntry) (index : ℕ) (e : DirEntry) → entry_at (xs ++ x ∷ []) index ≡ Some e → (entry_at xs index ≡ Some e) ⊎ (x ≡ Some e)
last_at [] x zero e at = inr at
last_at [] x (suc index) e at = absurd (cc (at))
last_at (y ∷ xs) x zero e at = inl at
last_at (y ∷ xs) x (suc index) e at = last_at xs x index e at

pub entries_form : (pages : List (Option (List ℕ))) (count : ℕ) (entries : List (Option DirEntry)) → entries_of pages count ≡ Ok entries
    → (index : ℕ) (e : DirEntry) → entry_at entries index ≡ Some e → HasForm e
unfolding entries_of
entries_form pages zero entries is index e at = let none : [] ≡ entries = cc (is) in absurd (cc (at, none))
entries_form pages (suc i) entries is index e at =
    by_last (record_at pages i) refl (entries_of pages i) (λ earlier reads there. entries_form pages i earlier reads index e there) is
  where
    by_last : (r : Result (Option DirEntry) BadRecord) → record_at pages i ≡ r → (rest : Result (List (Option DirEntry)) DirFault)
        → ((earlier : List (Option DirEntry)) → rest ≡ Ok earlier → entry_at earlier index ≡ Some e → HasForm e) → with_record i r rest ≡ Ok entries → HasForm e
    by_last r read (Err fault) earlier_form found = absurd (cc (found))
    by_last (Err bad) read (Ok earlier) earlier_form found = absurd (cc (found))
    by_last (Ok entry) read (Ok earlier) earlier_form found =
        let same : earlier ++ entry ∷ [] ≡ entries = cc (found) in
        elim (last_at earlier entry index e (ap (λ (l : List (Option DirEntry)). entry_at l index) same ∙ at)) [
          | inl old ↦ earlier_form earlier refl old
          | inr new ↦ record_forms (field (128 * (i % 32)) 128 (unwrap_or (get_or pages (i / 32) None) [])) e (read ∙ ap (λ (o : Option DirEntry). Ok o) new)
        ]

entries_length : (pages : List (Option (List ℕ))) (count : ℕ) (entries : List (Option DirEntry)) → entries_of pages count ≡ Ok entries → length entries ≡ count
unfolding entries_of
entries_length pages zero entries is = let none : [] ≡ entries = cc (is) in ap length (sym none)
entries_length pages (suc i) entries is = by_last (record_at pages i) (entries_of pages i) (λ earlier reads. entries_length pages i earlier reads) is
  where
    by_last : (r : Result (Option DirEntry) BadRecord) → (rest : Result (List (Option DirEntry)) DirFault) → ((earlier : List (Option DirEntry)) → rest ≡ Ok earlier → length earlier ≡ i)
        → with_record i r rest ≡ Ok entries → length entries ≡ suc i
    by_last r (Err fault) earlier_long found = absurd (cc (found))
    by_last (Err bad) (Ok earlier) earlier_long found = absurd (cc (found))
    by_last (Ok entry) (Ok earlier) earlier_long found =
        let same : earlier ++ entry ∷ [] ≡ entries = cc (found) in
        omega (arith, ap length same, length-append earlier (entry ∷ []), earlier_long earlier refl)

-- A DIRECTORY THAT IS READ
distinct_ok : (r : Result (List (Option DirEntry)) DirFault) (entries : List (Option DirEntry)) → distinct r ≡ Ok entries → (r ≡ Ok entries) × (first_double entries 0 (length entries) ≡ None)
distinct_ok (Err fault) entries is = absurd (cc (is))
distinct_ok (Ok found) entries is = by_double (first_double found 0 (length found)) refl is
  where
    by_double : (o : Option (ℕ × ℕ)) → first_double found 0 (length found) ≡ o → or_double found o ≡ Ok entries
        → (◌≡◌ {A = Result (List (Option DirEntry)) DirFault} (Ok found) (Ok entries)) × (first_double entries 0 (length entries) ≡ None)
    by_double (Some (i, first)) double answered = absurd (cc (answered))
    by_double None double answered =
        let same : found ≡ entries = cc (answered) in
        (answered, subst (λ (l : List (Option DirEntry)). first_double l 0 (length l) ≡ None) same double)

pub directory_reads : (bytes : ℕ) (pages : List (Option (List ℕ))) (entries : List (Option DirEntry)) → directory_in bytes pages ≡ Ok entries
    → (entries_of pages 256 ≡ Ok entries) × (first_double entries 0 (length entries) ≡ None)
directory_reads bytes pages entries is = by_length (bytes == 32768) is
  where
    by_length : (b : Bool) → cond b (distinct (entries_of pages 256)) (Err (WrongLength bytes)) ≡ Ok entries → (entries_of pages 256 ≡ Ok entries) × (first_double entries 0 (length entries) ≡ None)
    by_length true found = distinct_ok (entries_of pages 256) entries found
    by_length false found = absurd (cc (found))

module _ (entries : List (Option DirEntry)) where
  from_pages : (opened : Opened) (bad : Option ℕ) → directory_pages opened bad ≡ Ok entries → (entries_of opened.pages 256 ≡ Ok entries) × (first_double entries 0 (length entries) ≡ None)
  from_pages opened None is = directory_reads opened.bytes opened.pages entries is
  from_pages opened (Some k) is = absurd (cc (is))

  -- The entries of a directory that is read have distinct names,
  pub directory_distinct : (opened : Result Opened TreeFault) → directory_from opened ≡ Ok entries → AreDistinct entries
  directory_distinct (Err fault) is = absurd (cc (is))
  directory_distinct (Ok opened) is = names_distinct entries (from_pages opened (bad_block opened.bytes opened.pages) is).1

  -- and forms.
  pub directory_forms : (opened : Result Opened TreeFault) → directory_from opened ≡ Ok entries → (index : ℕ) (e : DirEntry) → entry_at entries index ≡ Some e → HasForm e
  directory_forms (Err fault) is = absurd (cc (is))
  directory_forms (Ok opened) is = entries_form opened.pages 256 entries (from_pages opened (bad_block opened.bytes opened.pages) is).0

  -- They are 256, in their forms, and no two have one name or one file.
  pub directory_entries : (opened : Result Opened TreeFault) → directory_from opened ≡ Ok entries → AreEntries entries
  directory_entries (Err fault) is = absurd (cc (is))
  directory_entries (Ok opened) is =
      let read = from_pages opened (bad_block opened.bytes opened.pages) is in
      record {
        whole = entries_length opened.pages 256 entries read.0;
        forms = entries_form opened.pages 256 entries read.0;
        distinct = names_distinct entries read.1;
        single = files_single entries read.1;
      }
