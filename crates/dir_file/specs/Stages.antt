-- A stage of a directory, and settling it.
use Rattle.std.specs.Prelude.{◌≡◌, ℕ, ◌+◌, ◌-◌, ◌/◌, ◌≤◌, [], ◌∷◌, slice_set, false, true, Option, None, Some, Result, Ok, IfSome, IsSome, IsTrue, OnErr, OnOk}
use Rattle.disk_model.specs.State.{FileState}
use Rattle.disk_model.specs.Calls.{Known, Syncs}
use Rattle.disk_model.specs.Keeps.{Anywhere, Keeps}
use Rattle.tree_paths.specs.Staged.{IsWithinBudget}
use Rattle.htree_file.specs.declared.fault.TreeFault.{TreeFault}
use Rattle.htree_file.specs.Changes.{SparesZero}
use Rattle.htree_file.specs.Opening.{IsVerified}
use Rattle.htree_file.specs.Selected.{KeepsFirm, Lies}
use Rattle.dir_records.specs.declared.entry.DirEntry.{DirEntry}
use Rattle.dir_file.specs.EntryForms.{AreEntriesOf}
use Rattle.dir_file.specs.Held.{IsDurable, IsStaged}
use Rattle.dir_file.specs.Loading.{IsReadDirectory}
use Rattle.dir_file.specs.View.{DirView, StagedDirectory}

-- the committed directory stays in every image, where it was in each
abbrev pub KeepsHeld : (old new : FileState) → DirView → Type 0
KeepsHeld old new was = IsTrue new.honest → IsDurable old was.tsk was.root was.tree was.entries → IsDurable new was.tsk was.root was.tree was.entries

-- the stage has the entries with one changed, in the version that the committed tree does not select
pub record IsNext (was : DirView) (index : ℕ) (entry : Option DirEntry) (s : StagedDirectory) : Type 0 where
  pub version : s.root.version ≡ 1 - was.root.version
  pub format : s.root.format ≡ was.root.format
  pub settled : s.settled ≡ false
  pub entries_are : s.entries ≡ slice_set was.entries index entry
  -- each name and each file stands once still
  pub are : AreEntriesOf was.entries → AreEntriesOf s.entries
  pub verified : IsVerified s.root s.tree

-- what a stage of one entry answers
pub record StagesEntry (old new : FileState) (was now : DirView) (index : ℕ) (entry : Option DirEntry) {A : Type 0} (result : Result A TreeFault) : Type 0 where
  pub same : now ≡ record was { stage = now.stage }
  pub none : OnErr result (now.stage ≡ None)
  pub opens : OnOk result (IsSome now.stage)
  pub next : OnOk result (IfSome now.stage (IsNext was index entry))
  -- also after a failure
  pub keeps : Keeps (Lies was.tree.layout was.tree.nodes was.root.version) old new
  pub firm : KeepsFirm old new was.root was.tree
  pub held : KeepsHeld old new was
  -- as the file reads, the stage's reference names the entries with the one changed
  pub staged : OnOk result (IsTrue new.honest → IsDurable old was.tsk was.root was.tree was.entries → IfSome now.stage (IsStaged new was.tsk))
  -- of any file: where the committed tree's nodes seal pages that hold the committed entries, those of the stage seal pages that
  -- hold its own; and each node that was written has no spare bits in its flags
  pub seals : OnOk result (IsReadDirectory was.tsk was.tree (Ok was.entries) → IfSome now.stage (λ s. IsReadDirectory was.tsk s.tree (Ok s.entries)))
  pub spares : OnOk result (IfSome now.stage (λ s. SparesZero was.tree s.tree))
  -- it writes no more than the write budget of one block of eight, and settles nothing
  pub budget : IsWithinBudget (index / 32 ∷ []) 8 8 old.written new.written
  pub most : new.written ≤ old.written + 4392
  pub unsettled : new.pending_from ≡ old.pending_from

-- what settling a stage answers
pub record SettlesDirectory (old new : FileState) (was now : DirView) {A : Type 0} (result : Result A TreeFault) : Type 0 where
  pub same : now ≡ record was { stage = now.stage }
  pub settled : OnOk result (IfSome was.stage (λ s. now.stage ≡ Some (record s { settled = true })))
  pub is_open : OnErr result (now.stage ≡ was.stage)
  pub synced : OnOk result (Syncs old new)
  pub reads : Known old new → new.reads ≡ old.reads
  pub keeps : Keeps Anywhere old new
  pub firm : KeepsFirm old new was.root was.tree
  pub held : KeepsHeld old new was
  -- in every image the stage's reference names its entries
  pub next : OnOk result (IfSome was.stage (λ s. IsTrue new.honest → IsStaged old was.tsk s → IsDurable new was.tsk s.root s.tree s.entries))
