-- The least entry of an application above an identifier.
use Rattle.std.proofs.Common.{◌≡◌, ◌∙◌, ℕ, true, List, [], Option, Some, None, IsSome, is_eq, refl, sym, ap, subst}
use Rattle.std.specs.declared.cmp.Ordering.{Ordering}
use Rattle.std.specs.declared.cmp.Ordering.TheVariants.{Less, Equal, Greater}
use Rattle.std.specs.Ordering.{is_le, is_lt, ordering_then}
use Rattle.std.proofs.lemmas.Bool.{and_parts}
use Rattle.tee_types.specs.Identifier.{bytes_cmp}
use Rattle.store_model.specs.declared.name.ObjectName.{ObjectName}
use Rattle.store_model.specs.Name.{name_cmp}
use Rattle.dir_records.specs.declared.entry.DirEntry.{DirEntry}
use Rattle.crash_core.specs.Entries.{name_of}
use Rattle.crash_core.specs.EntryLists.{entry_at}
use Rattle.crash_core.proofs.Names.{alike_is}
use Rattle.dir_index.specs.Above.{IsLeastAbove, is_above}
use Rattle.dir_index.specs.Index.{IndexState, index_at, named}
use Rattle.store_commit.specs.NameIndex.{IsIndexOf}
use Rattle.dir_index.specs.EntryNames.{IsLeastEntry, IsNextAbove}

tied : (o : Ordering) → is_eq o ≡ true → o ≡ Equal
tied Less h = absurd (cc (h))
tied Equal h = refl
tied Greater h = absurd (cc (h))

-- bytes that are alike are one
same_bytes : (a b : List ℕ) → is_eq (bytes_cmp a b) ≡ true → a ≡ b
same_bytes a b alike =
    let x : ObjectName = record { app = a; id = [] } in
    let y : ObjectName = record { app = b; id = [] } in
    let is : is_eq (name_cmp x y) ≡ true = ap (λ (o : Ordering). is_eq (ordering_then o (bytes_cmp [] []))) (tied (bytes_cmp a b) alike) in
    ap (λ (n : ObjectName). n.app) (alike_is x y is)

-- a name above is one of the application
app_above : (app : List ℕ) (after : Option (List ℕ)) (name : ObjectName) → is_above app after name ≡ true → app ≡ name.app
app_above app None name above = same_bytes app name.app above
app_above app (Some id) name above = same_bytes app name.app (and_parts (is_eq (bytes_cmp app name.app)) (is_lt (bytes_cmp id name.id)) above).0

module _ (s : IndexState) (entries : List (Option DirEntry)) (app : List ℕ) (after : Option (List ℕ)) (id : List ℕ) (index : ℕ)
    (is : IsIndexOf s entries) (least : IsLeastAbove s app after id index) where
  abbrev there : (e : DirEntry) × (entry_at entries index ≡ Some e) × (name_of e ≡ named app id)
  there = is.found (named app id) index least.held

  least_here : IsLeastEntry entries app after there.0
  least_here = record {
    index = index;
    at = there.1;
    above = ap (is_above app after) there.2 ∙ least.above;
    least = λ i f at above.
        let own : name_of f ≡ named app f.id = λ k. record { app = sym (app_above app after (name_of f) above) k; id = f.id } in
        let held : index_at s (named app f.id) ≡ Some i = ap (index_at s) (sym own) ∙ is.held i f at in
        subst (λ (l : List ℕ). is_le (bytes_cmp l f.id) ≡ true) (sym (ap (λ (n : ObjectName). n.id) there.2))
        (least.least f.id (subst IsSome (sym held) refl) (ap (is_above app after) (sym own) ∙ above));
  }

  pub above_entry : (o : Option DirEntry) → o ≡ entry_at entries index → IsNextAbove entries app after o
  above_entry o at = subst (IsNextAbove entries app after) (sym (at ∙ there.1)) least_here
