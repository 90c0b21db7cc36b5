-- A ready commit's change may be brought to the gate: it fits in the entries, and the file that it puts is taken.
use Rattle.std.proofs.Common.{◌≡◌, ◌≢◌, ◌<◌, ◌==◌, ◌||◌, ℕ, Bool, false, List, Option, Some, None, length, is_eq, refl, sym, ap, ◌∙◌, subst, inl, inr}
use Rattle.std.proofs.lemmas.Bool.{ne_eqb}
use Rattle.tee_types.specs.declared.call.Call.{Call}
use Rattle.tee_types.specs.declared.call.Call.TheVariants.{Create, Rename, Truncate, Write}
use Rattle.store_model.specs.Name.{name_cmp}
use Rattle.dir_records.specs.declared.entry.DirEntry.{DirEntry}
use Rattle.store_commit.specs.EntryForms.{Fits}
use Rattle.crash_core.specs.DirectoryLaws.{AreEntries}
use Rattle.crash_core.specs.Entries.{is_double, name_of}
use Rattle.crash_core.specs.EntryLists.{entry_at}
use Rattle.crash_core.specs.declared.change.EntryChange.{EntryChange}
use Rattle.crash_core.specs.declared.change.EntryChange.TheVariants.{Clear, Put}
use Rattle.crash_core.specs.EntryChanges.{changed, file_put, index_of}
use Rattle.crash_core.proofs.Lists.{set_else, set_here}
use Rattle.store_commit.specs.Changes.{FitsIn}
use Rattle.store_commit.specs.Holds.{IsTaken}
use Rattle.core_laws.specs.CallChanges.{IsCallChange}
use Rattle.commit_gate.specs.GateEnds.{HoldsNewFile}

-- no other entry is a double of the one that is put
module _ (entries : List (Option DirEntry)) (index : ℕ) (e : DirEntry) (within : index < length entries) (after : AreEntries (changed entries (Put index e))) where
  here : entry_at (changed entries (Put index e)) index ≡ Some e
  here = set_here entries index (Some e) within

  alone : (i : ℕ) → i ≢ index → (o : Option DirEntry) → entry_at entries i ≡ o → is_double o (Some e) ≡ false
  alone i other None at = refl
  alone i other (Some f) at =
      let there : entry_at (changed entries (Put index e)) i ≡ Some f = set_else entries index (Some e) i other ∙ at in
      let unlike : is_eq (name_cmp (name_of f) (name_of e)) ≡ false = after.distinct i f there index e (λ same. other (sym same)) here in
      ap (λ (b : Bool). b || (f.file == e.file)) unlike ∙ ne_eqb f.file e.file (λ same. other (after.single i index f e there here same))

  pub put_fits : length entries ≡ 256 → Fits entries index (Some e)
  put_fits whole = record {
    below = subst (λ (n : ℕ). index < n) whole within;
    form = after.forms index e here;
    alone = λ i low other. alone i other (entry_at entries i) refl;
  }

pub change_fits : (entries : List (Option DirEntry)) (change : EntryChange) → AreEntries entries → index_of change < length entries → AreEntries (changed entries change)
    → FitsIn entries change
change_fits entries (Put index e) before within after = put_fits entries index e within after before.whole
change_fits entries (Clear index) before within after = subst (λ (n : ℕ). index < n) before.whole within

pub change_taken : (application : List ℕ) (call : Call) (entries : List (Option DirEntry)) (counter : ℕ) (change : EntryChange) (holds : List (Option ℕ)) → IsCallChange application call entries counter change
    → HoldsNewFile holds call change → IsTaken entries holds (file_put change)
change_taken application call entries counter (Clear index) holds makes held = tt
change_taken application (Create id flags attributes bytes) entries counter (Put index e) holds makes held = inr held
change_taken application (Write handle bytes) entries counter (Put index e) holds makes held = inl (index, makes.was.entry, makes.was.at, sym makes.file)
change_taken application (Truncate handle size) entries counter (Put index e) holds makes held = inl (index, makes.was.entry, makes.was.at, sym makes.file)
change_taken application (Rename handle id) entries counter (Put index e) holds makes held = inl (index, makes.next.was.entry, makes.next.was.at, sym makes.next.file)
change_taken application call entries counter (Put index e) holds makes held = absurd makes
