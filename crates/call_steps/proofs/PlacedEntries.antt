-- The entries of a directory, with one put in the place of an object's own, and with one cleared.
use Rattle.std.proofs.Common.{List, None, Option, Some, ap, false, inl, inr, length, subst, sym, ℕ, ◌<◌, ◌∙◌, ◌≡◌, ◌≢◌}
use Rattle.std.proofs.lemmas.List.{length-set}
use Rattle.std.specs.Ordering.{is_eq}
use Rattle.std.specs.Prelude.{slice_set}
use Rattle.crash_core.specs.DirectoryLaws.{AreEntries}
use Rattle.crash_core.specs.Entries.{name_of}
use Rattle.crash_core.specs.EntryLists.{AreDistinct, AreSingle, IsAlone, entry_at}
use Rattle.dir_records.specs.Form.{HasForm}
use Rattle.dir_records.specs.declared.entry.DirEntry.{DirEntry}
use Rattle.call_rules.proofs.ChangedShapes.{cleared_at, distinct-cleared, set_cases}
use Rattle.store_model.proofs.MapLaws.{alike}
use Rattle.store_model.specs.Name.{name_cmp}
use Rattle.core_laws.proofs.Mending.{some_same}

-- an entry with a name and a file for itself is put in place of another
module _ (entries : List (Option DirEntry)) (are : AreEntries entries) (index : ℕ) (next : DirEntry) (place : index < length entries) (form : HasForm next)
    (named : IsAlone entries index (name_of next)) (filed : (other : ℕ) (f : DirEntry) → other ≢ index → entry_at entries other ≡ Some f → next.file ≢ f.file) where
  abbrev after : List (Option DirEntry)
  after = slice_set entries index (Some next)

  next_is : (f : DirEntry) → Some next ≡ Some f → next ≡ f
  next_is f is = some_same next f is

  placed_form : (i : ℕ) (f : DirEntry) → entry_at after i ≡ Some f → HasForm f
  placed_form i f at_ = elim (set_cases entries index i (Some next) f at_) [
    | inl here ↦ subst HasForm (next_is f here.1) form
    | inr there ↦ are.forms i f there.1
  ]

  placed_distinct : AreDistinct after
  placed_distinct i e at_ j f other there = elim (set_cases entries index i (Some next) e at_) [
    | inl here ↦ elim (set_cases entries index j (Some next) f there) [
      | inl same ↦ absurd (other (same.0 ∙ sym here.0))
      | inr old ↦ subst (λ (x : DirEntry). is_eq (name_cmp (name_of x) (name_of f)) ≡ false) (next_is e here.1) (named j f old.0 old.1)
    ]
    | inr was ↦ elim (set_cases entries index j (Some next) f there) [
      | inl same ↦ subst (λ (x : DirEntry). is_eq (name_cmp (name_of e) (name_of x)) ≡ false) (next_is f same.1) (alike.symm (name_of e) (name_of next) ∙ named i e was.0 was.1)
      | inr old ↦ are.distinct i e was.1 j f other old.1
    ]
  ]

  placed_single : AreSingle after
  placed_single a b e f at_ there same = elim (set_cases entries index a (Some next) e at_) [
    | inl here ↦ elim (set_cases entries index b (Some next) f there) [
      | inl both ↦ here.0 ∙ sym both.0
      | inr old ↦ absurd (filed b f old.0 old.1 (ap (λ (x : DirEntry). x.file) (next_is e here.1) ∙ same))
    ]
    | inr was ↦ elim (set_cases entries index b (Some next) f there) [
      | inl both ↦ absurd (filed a e was.0 was.1 (ap (λ (x : DirEntry). x.file) (next_is f both.1) ∙ sym same))
      | inr old ↦ are.single a b e f was.1 old.1 same
    ]
  ]

  pub entries_placed : AreEntries after
  entries_placed = record {
    whole = simp length-set are.whole;
    forms = placed_form;
    distinct = placed_distinct;
    single = placed_single;
  }

-- the file of an object's own entry is no other's
pub file_own : (entries : List (Option DirEntry)) → AreEntries entries → (index : ℕ) (e : DirEntry) → entry_at entries index ≡ Some e
    → (other : ℕ) (f : DirEntry) → other ≢ index → entry_at entries other ≡ Some f → e.file ≢ f.file
file_own entries are index e at_ other f off there same = off (sym (are.single index other e f at_ there same))

-- the entries with one cleared
pub entries_cleared : (entries : List (Option DirEntry)) (index : ℕ) → AreEntries entries → AreEntries (slice_set entries index None)
entries_cleared entries index are = record {
  whole = simp length-set are.whole;
  forms = λ i e at_. are.forms i e (cleared_at entries index i e at_).1;
  distinct = distinct-cleared entries index are.distinct;
  single = λ a b e f at_ there same. are.single a b e f (cleared_at entries index a e at_).1 (cleared_at entries index b f there).1 same;
}
