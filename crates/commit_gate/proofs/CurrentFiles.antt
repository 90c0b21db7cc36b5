-- The files that the card and the directory name stay of the current format.
use Rattle.std.proofs.Common.{◌≡◌, List, Option, Some, None, IfSome, sym, ◌∙◌, subst, inl, inr}
use Rattle.node_image.specs.References.{current_format}
use Rattle.dir_records.specs.declared.entry.DirEntry.{DirEntry}
use Rattle.crash_core.specs.declared.change.EntryChange.{EntryChange}
use Rattle.crash_core.specs.declared.change.EntryChange.TheVariants.{Clear, Put}
use Rattle.crash_core.specs.EntryChanges.{changed}
use Rattle.crash_core.specs.EntryLists.{AreCurrent}
use Rattle.crash_core.proofs.Lists.{set_at}
use Rattle.core_laws.proofs.Mending.{none_some, some_same}
use Rattle.store_commit.specs.View.{DirView}
use Rattle.crash_core.specs.declared.change.DoubtedChange.{DoubtedChange}
use Rattle.commit_gate.specs.CurrentFiles.{AreFilesCurrent, PutsCurrent}

-- so it is with a change that puts none of another format
pub changed_current : (entries : List (Option DirEntry)) (change : EntryChange) → AreCurrent entries → PutsCurrent change → AreCurrent (changed entries change)
changed_current entries (Put k x) are puts = λ index e at. elim (set_at entries k index (Some x) e at) [
  | inl new ↦ subst (λ (y : DirEntry). y.format ≡ current_format) (some_same x e new) puts
  | inr old ↦ are index e old
]
changed_current entries (Clear k) are puts = λ index e at. elim (set_at entries k index None e at) [
  | inl new ↦ absurd (none_some e new)
  | inr old ↦ are index e old
]

module _ (old new : DirView) (doubt : Option DoubtedChange) (are : AreFilesCurrent old doubt) where
  -- no change landed, and none that is in doubt puts a file of another format
  pub kept_current : (left : Option DoubtedChange) → new.root.format ≡ old.root.format → new.entries ≡ old.entries → IfSome left (λ d. PutsCurrent d.change) → AreFilesCurrent new left
  kept_current left format same put = record {
    root = format ∙ are.root;
    entries = subst AreCurrent (sym same) are.entries;
    put = put;
  }

  -- a change landed that puts none
  pub landed_current : (change : EntryChange) → PutsCurrent change → new.root.format ≡ old.root.format → new.entries ≡ changed old.entries change → (left : Option DoubtedChange) → left ≡ None
      → AreFilesCurrent new left
  landed_current change puts format is left none = record {
    root = format ∙ are.root;
    entries = subst AreCurrent (sym is) (changed_current old.entries change are.entries puts);
    put = subst (λ (o : Option DoubtedChange). IfSome o (λ d. PutsCurrent d.change)) (sym none) tt;
  }
