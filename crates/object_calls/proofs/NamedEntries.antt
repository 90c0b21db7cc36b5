-- Entries that a directory was read as have identifiers.
use Rattle.std.proofs.Common.{◌≡◌, ◌⊎◌, ◌∙◌, ◌*◌, ◌/◌, ◌%◌, ◌<◌, ◌≤◌, ℕ, zero, suc, Bool, true, false, cond, List, [], ◌∷◌, ◌++◌, length, take, get_or, unwrap_or, Option, Some, None, Result, Ok, Err, inl, inr, refl, ap, subst, arith}
use Rattle.std.proofs.lemmas.Bool.{cases_lt}
use Rattle.std.proofs.lemmas.List.{get_or_past, length-take-le}
use Rattle.byte_fields.specs.Field.{field}
use Rattle.byte_fields.proofs.Fields.{length-field}
use Rattle.tee_types.specs.Identifier.{IsIdentifier}
use Rattle.dir_records.specs.declared.entry.DirEntry.{DirEntry}
use Rattle.dir_records.specs.declared.entry.BadRecord.{BadRecord}
use Rattle.dir_records.specs.Form.{entry_or, first_fault, is_free, record_of}
use Rattle.dir_records.specs.Layout.{byte, entry_of, id_length}
use Rattle.dir_records.proofs.Reading.{Passes, passes}
use Rattle.htree_file.specs.Pages.{Opened}
use Rattle.crash_core.specs.declared.fault.DirFault.{DirFault}
use Rattle.crash_core.specs.Directory.{bad_block, directory_from, directory_pages}
use Rattle.crash_core.specs.Entries.{entries_of, record_at, with_record}
use Rattle.crash_core.specs.EntryLists.{entry_at}
use Rattle.crash_core.proofs.Doubles.{directory_reads}
use Rattle.object_calls.specs.Opening.{AreIdentified}

-- bytes that pass the tests reach beyond the identifier
long_enough : (b : List ℕ) → 1 ≤ byte 122 b → 122 < length b
long_enough b is = elim (cases_lt 122 (length b)) [
  | inl within ↦ within
  | inr past ↦ let none : byte 122 b ≡ 0 = get_or_past b 122 0 past in absurd (omega (arith, is, none))
]

entry_identified : (b : List ℕ) → Passes b → IsIdentifier (entry_of b).id
unfolding entry_of
entry_identified b p =
    let long : 122 < length b = long_enough b p.format.0 in
    let count : length (take (id_length b) (field 16 64 b)) ≡ id_length b = length-take-le (id_length b) (field 16 64 b) (omega (arith, p.count.1, length-field b 16 64 (omega (arith, long)))) in
    (omega (arith, count, p.count.0), omega (arith, count, p.count.1))

record_identified : (bytes : List ℕ) (e : DirEntry) → record_of bytes ≡ Ok (Some e) → IsIdentifier e.id
record_identified bytes e is = by_free (is_free bytes) is
  where
    by_fault : (o : Option ℕ) → first_fault bytes ≡ o → entry_or o (entry_of bytes) ≡ Ok (Some e) → IsIdentifier e.id
    by_fault (Some offset) fault found = absurd (cc (found))
    by_fault None fault found =
        let same : entry_of bytes ≡ e = cc (found) in
        subst (λ (x : DirEntry). IsIdentifier x.id) same (entry_identified bytes (passes bytes fault))

    by_free : (b : Bool) → cond b (Ok None) (entry_or (first_fault bytes) (entry_of bytes)) ≡ Ok (Some e) → IsIdentifier e.id
    by_free true found = absurd (cc (found))
    by_free false found = by_fault (first_fault bytes) refl found

-- what stands in a longer list stood there before, or is the last
last_at : (xs : List (Option DirEntry)) (x : Option DirEntry) (index : ℕ) (e : DirEntry) → entry_at (xs ++ x ∷ []) index ≡ Some e → (entry_at xs index ≡ Some e) ⊎ (x ≡ Some e)
last_at [] x zero e at = inr at
last_at [] x (suc index) e at = absurd (cc (at))
last_at (y ∷ xs) x zero e at = inl at
last_at (y ∷ xs) x (suc index) e at = last_at xs x index e at

entries_identified : (pages : List (Option (List ℕ))) (count : ℕ) (entries : List (Option DirEntry)) → entries_of pages count ≡ Ok entries → AreIdentified entries
unfolding entries_of
entries_identified pages zero entries is index e at = let none : [] ≡ entries = cc (is) in absurd (cc (at, none))
entries_identified pages (suc i) entries is index e at =
    by_last (record_at pages i) refl (entries_of pages i) (λ earlier reads there. entries_identified pages i earlier reads index e there) is
  where
    by_last : (r : Result (Option DirEntry) BadRecord) → record_at pages i ≡ r → (rest : Result (List (Option DirEntry)) DirFault)
        → ((earlier : List (Option DirEntry)) → rest ≡ Ok earlier → entry_at earlier index ≡ Some e → IsIdentifier e.id) → with_record i r rest ≡ Ok entries → IsIdentifier e.id
    by_last r read (Err fault) before found = absurd (cc (found))
    by_last (Err bad) read (Ok earlier) before found = absurd (cc (found))
    by_last (Ok entry) read (Ok earlier) before found =
        let same : earlier ++ entry ∷ [] ≡ entries = cc (found) in
        elim (last_at earlier entry index e (ap (λ (l : List (Option DirEntry)). entry_at l index) same ∙ at)) [
          | inl old ↦ before earlier refl old
          | inr new ↦ record_identified (field (128 * (i % 32)) 128 (unwrap_or (get_or pages (i / 32) None) [])) e (read ∙ ap (λ (o : Option DirEntry). Ok o) new)
        ]

pub directory_identified : (opened : Opened) (entries : List (Option DirEntry)) → directory_from (Ok opened) ≡ Ok entries → AreIdentified entries
directory_identified opened entries is = by_bad (bad_block opened.bytes opened.pages) is
  where
    by_bad : (bad : Option ℕ) → directory_pages opened bad ≡ Ok entries → AreIdentified entries
    by_bad None found = entries_identified opened.pages 256 entries (directory_reads opened.bytes opened.pages entries found).0
    by_bad (Some k) found = absurd (cc (found))
