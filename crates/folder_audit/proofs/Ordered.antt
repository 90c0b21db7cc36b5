-- The entry of a name.
use Rattle.std.proofs.Common.{◌≡◌, ◌∙◌, ◌<◌, ℕ, List, length, get_or, Option, Some, None, sym, ap, subst}
use Rattle.std.specs.Prelude.{IfSome}
use Rattle.std.specs.Map.{keys_of}
use Rattle.std.proofs.lemmas.List.{get_or_default}
use Rattle.std.proofs.lemmas.Map.Entries.{lookup_from_place}
use Rattle.std.proofs.lemmas.Map.Keys.{IsDistinct-from_sorted}
use Rattle.std.proofs.lemmas.Option.{slice_get-get_or}
use Rattle.store_model.specs.Name.{name_cmp}
use Rattle.store_model.proofs.MapLaws.{alike}
use Rattle.dir_records.specs.declared.entry.DirEntry.{DirEntry}
use Rattle.dir_records.specs.Form.{HasForm}
use Rattle.dir_file.specs.EntryForms.{AreEntriesOf}
use Rattle.crash_core.specs.EntryLists.{entry_at}
use Rattle.crash_core.proofs.Doubles.{below}
use Rattle.dir_index.specs.Index.{IndexEntries, IndexEntry, index_at}
use Rattle.folder_audit.specs.Order.{AreNamesOf, IsOfName}

-- each entry has its form
pub form_of : (entries : List (Option DirEntry)) → AreEntriesOf entries → (index : ℕ) (e : DirEntry) → entry_at entries index ≡ Some e → HasForm e
form_of entries are index e at = subst (λ (o : Option DirEntry). IfSome o HasForm) at (are.forms index (below entries index e at))

module _ (entries : List (Option DirEntry)) (names : IndexEntries) (are : AreNamesOf entries names) (k : ℕ) (d : IndexEntry) (low : k < length names) where
  held : index_at (record { entries = names; spare = 0 }) (get_or names k d).0 ≡ Some (get_or names k d).1
  held = lookup_from_place alike names k (get_or names k d).0 (get_or names k d).1 (IsDistinct-from_sorted name_cmp (keys_of names) are.sorted) (slice_get-get_or names k d low)

  pub name_entry : (e : DirEntry) × IsOfName entries (get_or names k d) e
  name_entry = let f = are.index.found (get_or names k d).0 (get_or names k d).1 held in (f.0, record { at = f.1; named = f.2 })

  pub name_below : (get_or names k d).1 < length entries
  name_below = below entries (get_or names k d).1 name_entry.0 (name_entry.1).at

  -- which was read at its index
  pub name_holds : (seen : IndexEntries) (r : IndexEntry) (other : Option DirEntry) (e : DirEntry) → seen ≡ names → get_or entries (get_or seen k r).1 other ≡ Some e
      → IsOfName entries (get_or names k d) e
  name_holds seen r other e is at =
      let place : (get_or seen k r).1 ≡ (get_or names k d).1 =
      ap (λ (l : IndexEntries). (get_or l k r).1) is ∙ ap (λ (n : IndexEntry). n.1) (get_or_default names k r d low) in
      let here : get_or entries (get_or names k d).1 other ≡ Some e = ap (λ (i : ℕ). get_or entries i other) (sym place) ∙ at in
      let same : Some name_entry.0 ≡ Some e = sym (name_entry.1).at ∙ get_or_default entries (get_or names k d).1 None other name_below ∙ here in
      subst (IsOfName entries (get_or names k d)) (cc (same)) name_entry.1

  pub name_found : (seen : IndexEntries) (r : IndexEntry) (other : Option DirEntry) → seen ≡ names → get_or entries (get_or seen k r).1 other ≡ Some name_entry.0
  name_found seen r other is =
      let place : (get_or seen k r).1 ≡ (get_or names k d).1 =
      ap (λ (l : IndexEntries). (get_or l k r).1) is ∙ ap (λ (n : IndexEntry). n.1) (get_or_default names k r d low) in
      ap (λ (i : ℕ). get_or entries i other) place ∙ get_or_default entries (get_or names k d).1 other None name_below ∙ (name_entry.1).at

  pub index_below : (seen : IndexEntries) → seen ≡ names → (get_or seen k d).1 < length entries
  index_below seen is = subst (λ (l : IndexEntries). (get_or l k d).1 < length entries) (sym is) name_below
