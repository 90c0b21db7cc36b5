-- A directory with the page of one block replaced.
use Rattle.std.proofs.Common.{◌≡◌, ◌≢◌, ◌∙◌, ◌+◌, ◌*◌, ◌/◌, ◌%◌, ◌<◌, ◌==◌, ℕ, List, [], ◌∷◌, length, get_or, slice_set, unwrap_or, Option, Some, None, Result, Ok, is_none, Bool, true, false, refl, sym, ap, subst, inl, inr, arith, get_or-set_same, get_or-set_other}
use Rattle.std.proofs.lemmas.Bool.{cases_eq, cond-true, cond-false, eq-eqb, eqb-true, ne_eqb}
use Rattle.std.proofs.Common.{is_eq}
use Rattle.store_model.specs.declared.name.ObjectName.{ObjectName}
use Rattle.store_model.specs.Name.{name_cmp}
use Rattle.crash_core.proofs.Names.{alike_is}
use Rattle.crash_core.proofs.EntryMaps.{self}
use Rattle.std.specs.Prelude.{◌||◌}
use Rattle.std.proofs.Math.ListN.{length-set}
use Rattle.std.specs.Prelude.{option_map}
use Rattle.aes_block.specs.WrappedKey.{unwrapped_of}
use Rattle.byte_fields.specs.Field.{field}
use Rattle.node_image.specs.declared.node.RootRef.{RootRef}
use Rattle.node_image.proofs.Matching.{length-row, row_at}
use Rattle.htree_file.specs.declared.change.BlockChange.{BlockChange}
use Rattle.htree_file.specs.Changes.{OpensAfter, opened_after, page_after, page_for}
use Rattle.htree_file.specs.Opening.{Loaded, load_of}
use Rattle.htree_file.specs.Pages.{Opened}
use Rattle.dir_records.specs.declared.entry.DirEntry.{DirEntry}
use Rattle.dir_records.specs.declared.entry.BadRecord.{BadRecord}
use Rattle.dir_records.specs.Form.{record_of}
use Rattle.crash_core.specs.Entries.{is_double, name_of, record_at}
use Rattle.crash_core.specs.Directory.{directory_of}
use Rattle.dir_records.specs.Form.{HasForm}
use Rattle.std.proofs.Common.{IfSome}
use Rattle.dir_file.specs.EntryForms.{AreEntriesOf, Fits, HasForms}
use Rattle.dir_file.proofs.Entries.{Distinct, HoldsEntries, double_back, entries_single, directory_opened, directory_opens}

-- the change of one block
abbrev pub one_change : (block : ℕ) (page : List ℕ) → List BlockChange
one_change block page = record { block = block; page = page } ∷ []

pub page_here : (block : ℕ) (page : List ℕ) → page_for (one_change block page) block ≡ Some page
page_here block page =
    ap (λ (o : Option BlockChange). option_map (λ (c : BlockChange). c.page) o)
    (cond-true (block == block) (let o : Option BlockChange = Some (record { block = block; page = page }) in o) None (eq-eqb block block refl))

pub page_other : (block k : ℕ) (page : List ℕ) → block ≢ k → page_for (one_change block page) k ≡ None
page_other block k page other =
    ap (λ (o : Option BlockChange). option_map (λ (c : BlockChange). c.page) o)
    (cond-false (block == k) (let o : Option BlockChange = Some (record { block = block; page = page }) in o) None (ne_eqb block k other))

alike : (x y : Bool) → (x ≡ true → y ≡ true) → (y ≡ true → x ≡ true) → x ≡ y
alike true y to from = sym (to refl)
alike false true to from = from refl
alike false false to from = refl

swapped : (a b : ObjectName) → is_eq (name_cmp a b) ≡ true → is_eq (name_cmp b a) ≡ true
swapped a b h = ap (λ (x : ObjectName). is_eq (name_cmp x a)) (sym (alike_is a b h)) ∙ ap is_eq (self a)

name_sym : (a b : ObjectName) → is_eq (name_cmp a b) ≡ is_eq (name_cmp b a)
name_sym a b = alike (is_eq (name_cmp a b)) (is_eq (name_cmp b a)) (swapped a b) (swapped b a)

number_sym : (a b : ℕ) → a == b ≡ b == a
number_sym a b = alike (a == b) (b == a) (λ h. eq-eqb b a (sym (eqb-true a b h))) (λ h. eq-eqb a b (sym (eqb-true b a h)))

-- doubles are doubles both ways
double_sym : (a b : Option DirEntry) → is_double a b ≡ is_double b a
double_sym None None = refl
double_sym None (Some b) = refl
double_sym (Some a) None = refl
double_sym (Some a) (Some b) = same_sym a b
  where
    same_sym : (a b : DirEntry) → is_double (Some a) (Some b) ≡ is_double (Some b) (Some a)
    same_sym a b = λ i. name_sym (name_of a) (name_of b) i || number_sym a.file b.file i

-- entries without doubles stay so, where the new one fits
module _ (entries : List (Option DirEntry)) (index : ℕ) (entry : Option DirEntry) (long : length entries ≡ 256) (distinct_are : Distinct entries 256) (fits : Fits entries index entry) where
  pub distinct_after : Distinct (slice_set entries index entry) 256
  distinct_after i lt j le = elim (cases_eq i index) [
    | inl same ↦
        let ne : j ≢ index = λ e. absurd (omega arith) in
        ap (λ (e : Option DirEntry). is_double e (get_or (slice_set entries index entry) i None)) (get_or-set_other entries index j entry None ne)
        ∙ ap (is_double (get_or entries j None)) (entry_at i same)
        ∙ fits.alone j (omega arith) ne
    | inr other ↦ elim (cases_eq j index) [
      | inl first ↦
          ap (λ (e : Option DirEntry). is_double e (get_or (slice_set entries index entry) i None)) (entry_at j first)
          ∙ ap (is_double entry) (get_or-set_other entries index i entry None other)
          ∙ double_sym entry (get_or entries i None)
          ∙ fits.alone i lt other
      | inr ne ↦
          ap (λ (e : Option DirEntry). is_double e (get_or (slice_set entries index entry) i None)) (get_or-set_other entries index j entry None ne)
          ∙ ap (is_double (get_or entries j None)) (get_or-set_other entries index i entry None other)
          ∙ distinct_are i lt j le
    ]
  ]
    where
      entry_at : (k : ℕ) → k ≡ index → get_or (slice_set entries index entry) k None ≡ entry
      entry_at k same = ap (λ (m : ℕ). get_or (slice_set entries index entry) m None) same ∙ get_or-set_same entries index entry None (omega (arith, long, fits.below))

forms_after : (entries : List (Option DirEntry)) (index : ℕ) (entry : Option DirEntry) → length entries ≡ 256 → HasForms entries → Fits entries index entry → HasForms (slice_set entries index entry)
forms_after entries index entry long forms fits i lt = elim (cases_eq i index) [
  | inl same ↦
      let at : get_or (slice_set entries index entry) i None ≡ entry =
      ap (λ (m : ℕ). get_or (slice_set entries index entry) m None) same ∙ get_or-set_same entries index entry None (omega (arith, long, fits.below)) in
      subst (λ (e : Option DirEntry). IfSome e HasForm) (sym at) fits.form
  | inr other ↦
      subst (λ (e : Option DirEntry). IfSome e HasForm) (sym (get_or-set_other entries index i entry None other)) (forms i (omega (arith, lt, length-set entries index entry)))
]

-- A directory's entries are ones still, once one that fits was changed.
pub entries_after : (entries : List (Option DirEntry)) (index : ℕ) (entry : Option DirEntry) → Fits entries index entry → AreEntriesOf entries → AreEntriesOf (slice_set entries index entry)
entries_after entries index entry fits are = record {
  whole = length-set entries index entry ∙ are.whole;
  forms = forms_after entries index entry are.whole are.forms fits;
  apart = entries_single (slice_set entries index entry) (distinct_after entries index entry are.whole (λ i lt j le. double_back entries 256 are.apart i lt j le) fits);
}

module _ (opened : Opened) (entries : List (Option DirEntry)) (holds : HoldsEntries opened entries) (index : ℕ) (entry : Option DirEntry) (fits : Fits entries index entry) (page : List ℕ)
    (records : (j : ℕ) → j < 32 → record_of (field (128 * j) 128 page) ≡ Ok (get_or (slice_set entries index entry) (32 * (index / 32) + j) None)) where
  abbrev now : Opened
  now = opened_after opened 32768 (one_change (index / 32) page)

  abbrev after : List (Option DirEntry)
  after = slice_set entries index entry

  abbrev page_then : ℕ → Option (List ℕ)
  page_then k = page_after (page_for (one_change (index / 32) page) k) (get_or opened.pages k None)

  then_at : (k : ℕ) → k < 8 → get_or now.pages k None ≡ page_then k
  then_at k lt = row_at page_then 8 k None lt

  changed_at : get_or now.pages (index / 32) None ≡ Some page
  changed_at = then_at (index / 32) (omega (arith, fits.below)) ∙ ap (λ (o : Option (List ℕ)). page_after o (get_or opened.pages (index / 32) None)) (page_here (index / 32) page)

  other_at : (k : ℕ) → k < 8 → index / 32 ≢ k → get_or now.pages k None ≡ get_or opened.pages k None
  other_at k lt other = then_at k lt ∙ ap (λ (o : Option (List ℕ)). page_after o (get_or opened.pages k None)) (page_other (index / 32) k page other)

  still_good : (k : ℕ) → k < 8 → is_none (get_or now.pages k None) ≡ false
  still_good k lt = elim (cases_eq (index / 32) k) [
    | inl same ↦ subst (λ (m : ℕ). is_none (get_or now.pages m None) ≡ false) same (ap is_none changed_at)
    | inr other ↦ ap is_none (other_at k lt other) ∙ holds.good k lt
  ]

  record_by : (o : Option (List ℕ)) (i : ℕ) → Result (Option DirEntry) BadRecord
  record_by o i = record_of (field (128 * (i % 32)) 128 (unwrap_or o []))

  record_then : (i : ℕ) → i < 256 → record_at now.pages i ≡ Ok (get_or after i None)
  unfolding record_by
  record_then i lt = elim (cases_eq (index / 32) (i / 32)) [
    | inl same ↦
        let at : get_or now.pages (i / 32) None ≡ Some page = ap (λ (m : ℕ). get_or now.pages m None) (sym same) ∙ changed_at in
        let place : 32 * (index / 32) + i % 32 ≡ i = omega arith in
        ap (λ (o : Option (List ℕ)). record_by o i) at
        ∙ records (i % 32) (omega arith)
        ∙ ap (λ (m : ℕ). let r : Result (Option DirEntry) BadRecord = Ok (get_or after m None) in r) place
    | inr other ↦
        let ne : i ≢ index = λ e. other (ap (λ (m : ℕ). m / 32) (sym e)) in
        ap (λ (o : Option (List ℕ)). record_by o i) (other_at (i / 32) (omega arith) other)
        ∙ holds.entries_are.records i lt
        ∙ ap (λ (e : Option DirEntry). let r : Result (Option DirEntry) BadRecord = Ok e in r) (sym (set_away i ne))
  ]
    where
      set_away : (i : ℕ) → i ≢ index → get_or (slice_set entries index entry) i None ≡ get_or entries i None
      set_away i ne = get_or-set_other entries index i entry None ne

  pub holds_after : HoldsEntries now after
  holds_after = record {
    bytes = refl;
    blocks = length-row page_then 8;
    good = still_good;
    entries_are = record { long = length-set entries index entry ∙ holds.entries_are.long; records = record_then };
    distinct_are = distinct_after entries index entry holds.entries_are.long holds.distinct_are fits;
  }

-- The directory after the change of one block.
pub changed_directory : (tsk before after key : List ℕ) (root next : RootRef) (tree then : Loaded) (entries : List (Option DirEntry)) (index : ℕ) (entry : Option DirEntry) (page : List ℕ)
    → load_of before root ≡ Ok tree → load_of after next ≡ Ok then → key ≡ unwrapped_of tsk tree.head.wrapped → directory_of tsk before root ≡ Ok entries → Fits entries index entry
    → ((j : ℕ) → j < 32 → record_of (field (128 * j) 128 page) ≡ Ok (get_or (slice_set entries index entry) (32 * (index / 32) + j) None))
    → OpensAfter key tree.head.wrapped before root after next 32768 (one_change (index / 32) page)
    → directory_of tsk after next ≡ Ok (slice_set entries index entry)
changed_directory tsk before after key root next tree then entries index entry page loads loaded keyed is fits records opens =
    let was = directory_opens tsk before root tree entries loads is in
    directory_opened tsk after next then (opened_after was.0 32768 (one_change (index / 32) page)) (slice_set entries index entry) loaded
    (opens tsk was.0 keyed was.1) (holds_after was.0 entries was.2 index entry fits page records)

-- no entry fits everywhere
double_none : (e : Option DirEntry) → is_double e None ≡ false
double_none None = refl
double_none (Some e) = refl

pub none_fits : (entries : List (Option DirEntry)) (index : ℕ) → index < 256 → Fits entries index None
none_fits entries index below = record { below = below; form = tt; alone = λ i lt ne. double_none (get_or entries i None) }
