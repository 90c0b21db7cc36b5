-- What the nodes of a directory's tree seal, whatever its file is.
use Rattle.std.proofs.Common.{◌≡◌, ◌∙◌, ◌+◌, ◌*◌, ◌/◌, ◌<◌, ℕ, List, [], length, get_or, slice_set, Option, Some, None, Ok, sym, ap, subst, inl, inr, arith, get_or-set_same, get_or-set_other}
use Rattle.std.proofs.lemmas.Bool.{cases_eq}
use Rattle.std.proofs.lemmas.List.{get_or-map, length-map}
use Rattle.std.proofs.Math.ListN.{length-set}
use Rattle.aes_block.specs.WrappedKey.{unwrapped_of}
use Rattle.byte_fields.specs.Field.{field}
use Rattle.node_image.proofs.Matching.{row_is}
use Rattle.htree_file.specs.Changes.{Seals, SealsAt, SealsChanges, opened_after, page_after, page_for}
use Rattle.htree_file.specs.Opening.{Loaded}
use Rattle.htree_file.specs.Pages.{Opened, page_of}
use Rattle.dir_records.specs.declared.entry.DirEntry.{DirEntry}
use Rattle.dir_records.specs.Form.{record_of}
use Rattle.crash_core.specs.Directory.{directory_from}
use Rattle.dir_file.specs.EntryForms.{Fits, no_entries}
use Rattle.dir_file.specs.Loading.{IsReadDirectory}
use Rattle.dir_file.specs.Making.{AreBlank}
use Rattle.dir_file.specs.Pages.{AreSealed, some_pages}
use Rattle.dir_file.proofs.ChangedEntry.{holds_after, one_change, page_here, page_other}
use Rattle.dir_file.proofs.Entries.{HoldsEntries, directory_held, directory_holds}
use Rattle.dir_file.proofs.MadeDirectory.{blank, blank_holds}

-- a node with the same vector and tag seals the same page, under the same wrapped key
seals_kept : (key : List ℕ) (old new : Loaded) (k : ℕ) (page : List ℕ) → new.head.wrapped ≡ old.head.wrapped → SealsAt key old new k None → Seals key old k page → Seals key new k page
seals_kept key old new k page wrapped same seals = (
  seals.0,
  (λ i. page_of key (record { wrapped = wrapped i; length = 0; greatest = 0 }) (record { hash = []; iv = same.0 i; tag = same.1 i; flags = 0 }) k seals.0) ∙ seals.1,
)

page_changed : (block k : ℕ) (page : List ℕ) → block ≡ k → page_for (one_change block page) k ≡ Some page
page_changed block k page same = subst (λ (m : ℕ). page_for (one_change block page) m ≡ Some page) same (page_here block page)

some_page : (l : List (List ℕ)) (k : ℕ) → length l ≡ 8 → k < 8 → get_or (some_pages l) k None ≡ Some (get_or l k [])
some_page l k long lt = get_or-map (λ p. Some p) l k [] None (omega (arith, long, lt))

-- eight pages with one replaced
module _ (bytes : ℕ) (items : List (List ℕ)) (long : length items ≡ 8) (block : ℕ) (below : block < 8) (page : List ℕ) where
  item_here : (k : ℕ) → block ≡ k → get_or (slice_set items block page) k [] ≡ page
  item_here k same = ap (λ (m : ℕ). get_or (slice_set items block page) m []) (sym same) ∙ get_or-set_same items block page [] (omega (arith, long, below))

  item_other : (k : ℕ) → (block ≡ k → ⊥) → get_or (slice_set items block page) k [] ≡ get_or items k []
  item_other k other = get_or-set_other items block k page [] (λ e. other (sym e))

  after_long : length (slice_set items block page) ≡ 8
  after_long = length-set items block page ∙ long

  page_then : (k : ℕ) → k < 8 → page_after (page_for (one_change block page) k) (get_or (some_pages items) k None) ≡ get_or (some_pages (slice_set items block page)) k None
  page_then k lt = elim (cases_eq block k) [
    | inl same ↦
        ap (λ (o : Option (List ℕ)). page_after o (get_or (some_pages items) k None)) (page_changed block k page same)
        ∙ ap (λ (p : List ℕ). let o : Option (List ℕ) = Some p in o) (sym (item_here k same))
        ∙ sym (some_page (slice_set items block page) k after_long lt)
    | inr other ↦
        ap (λ (o : Option (List ℕ)). page_after o (get_or (some_pages items) k None)) (page_other block k page other)
        ∙ some_page items k long lt
        ∙ ap (λ (p : List ℕ). let o : Option (List ℕ) = Some p in o) (sym (item_other k other))
        ∙ sym (some_page (slice_set items block page) k after_long lt)
  ]

  pages_then : (opened_after (record { bytes = bytes; pages = some_pages items }) 32768 (one_change block page)).pages ≡ some_pages (slice_set items block page)
  pages_then =
      row_is (λ k. page_after (page_for (one_change block page) k) (get_or (some_pages items) k None)) (some_pages (slice_set items block page)) 8 None
      (length-map (slice_set items block page) (λ p. Some p) ∙ after_long) page_then

  -- the nodes of the new tree seal them
  sealed_then : (key : List ℕ) (old new : Loaded) → new.head.wrapped ≡ old.head.wrapped → length new.nodes ≡ 8 → SealsChanges key old new (one_change block page) → AreSealed key old items
      → AreSealed key new (slice_set items block page)
  sealed_then key old new wrapped many seals was k lt = elim (cases_eq block k) [
    | inl same ↦
        subst (Seals key new k) (sym (item_here k same)) (subst (SealsAt key old new k) (page_changed block k page same) (seals k (omega (arith, lt, many, after_long))))
    | inr other ↦
        subst (Seals key new k) (sym (item_other k other))
        (seals_kept key old new k (get_or items k []) wrapped (subst (SealsAt key old new k) (page_other block k page other) (seals k (omega (arith, lt, many, after_long)))) (was k (omega (arith, lt, long, after_long))))
  ]

-- A stage of one entry: where the nodes of the old tree seal pages that hold the entries, those of the new one seal pages that hold
-- the entries with the one changed.
pub sealed_after : (tsk key : List ℕ) (old new : Loaded) (entries : List (Option DirEntry)) (index : ℕ) (entry : Option DirEntry) (page : List ℕ)
    → key ≡ unwrapped_of tsk old.head.wrapped → new.head.wrapped ≡ old.head.wrapped → new.head.length ≡ 32768 → length new.nodes ≡ 8 → Fits entries index entry
    → ((j : ℕ) → j < 32 → record_of (field (128 * j) 128 page) ≡ Ok (get_or (slice_set entries index entry) (32 * (index / 32) + j) None))
    → SealsChanges key old new (one_change (index / 32) page) → IsReadDirectory tsk old (Ok entries) → IsReadDirectory tsk new (Ok (slice_set entries index entry))
sealed_after tsk key old new entries index entry page keyed wrapped bytes many fits records seals was =
    let below : index / 32 < 8 = omega (arith, fits.below) in
    let opened : Opened = record { bytes = old.head.length; pages = some_pages was.items } in
    let holds : HoldsEntries opened entries = directory_holds old.head.length was.items entries was.long was.reads in
    record {
      items = slice_set was.items (index / 32) page;
      long = after_long old.head.length was.items was.long (index / 32) below page;
      sealed = subst (λ (k : List ℕ). AreSealed k new (slice_set was.items (index / 32) page)) (keyed ∙ ap (unwrapped_of tsk) (sym wrapped))
          (sealed_then old.head.length was.items was.long (index / 32) below page key old new wrapped many seals (subst (λ (k : List ℕ). AreSealed k old was.items) (sym keyed) was.sealed));
      reads =
          ap (λ (n : ℕ). directory_from (Ok (record { bytes = n; pages = some_pages (slice_set was.items (index / 32) page) }))) bytes
          ∙ ap (λ (p : List (Option (List ℕ))). directory_from (Ok (record { bytes = 32768; pages = p }))) (sym (pages_then old.head.length was.items was.long (index / 32) below page))
          ∙ directory_held (opened_after opened 32768 (one_change (index / 32) page)) (slice_set entries index entry) (holds_after opened entries holds index entry fits page records);
    }

-- a directory that was made
pub sealed_made : (tsk key : List ℕ) (tree : Loaded) (pages : List (List ℕ)) → AreBlank pages → key ≡ unwrapped_of tsk tree.head.wrapped → tree.head.length ≡ 32768 → AreSealed key tree pages
    → IsReadDirectory tsk tree (Ok no_entries)
sealed_made tsk key tree pages zero keyed bytes sealed = record {
  items = pages;
  long = zero.long;
  sealed = subst (λ (k : List ℕ). AreSealed k tree pages) keyed sealed;
  reads = ap (λ (n : ℕ). directory_from (Ok (record { bytes = n; pages = some_pages pages }))) bytes ∙ directory_held (blank pages) no_entries (blank_holds pages zero);
}
