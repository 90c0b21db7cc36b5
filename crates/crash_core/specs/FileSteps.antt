-- Which writes the core machine allows: they miss what the committed references select, and those of a sealed commit.
use Rattle.std.specs.Prelude.{◌≡◌, ◌⊎◌, ℕ, List, Option, Some, None, Ok, IsTrue}
use Rattle.disk_model.specs.State.{FileState, Sound}
use Rattle.disk_model.specs.Keeps.{FileCall, IsCall}
use Rattle.node_image.specs.declared.node.RootRef.{RootRef}
use Rattle.node_image.specs.References.{current_format}
use Rattle.htree_file.specs.Opening.{Loaded, load_of}
use Rattle.dir_records.specs.declared.entry.DirEntry.{DirEntry}
use Rattle.crash_core.specs.MountedObject.{root_of}
use Rattle.crash_core.specs.EntryLists.{IsNamed}
use Rattle.crash_core.specs.declared.change.EntryChange.{EntryChange}
use Rattle.crash_core.specs.declared.change.EntryChange.TheVariants.{Put, Clear}
use Rattle.crash_core.specs.Sights.{Misses}
use Rattle.crash_core.specs.CoreState.{Core, IsTrusted, PendingCommit, Phase, put}

-- the file's state after a call of it; a file that is honest to the end is honest then
pub record IsFileStep (phase : Phase) (file : ℕ) (call : FileCall) (old new : FileState) : Type 0 where
  pub called : IsCall call old new
  pub sound : Sound new
  pub honest : IsTrusted phase file → IsTrue new.honest

-- the places from one up to another miss each tree that an entry names in the file
abbrev pub MissesNamed : (from upto : ℕ) → (reads : List ℕ) → List (Option DirEntry) → (file : ℕ) → Type 0
MissesNamed from upto reads entries file = (root : RootRef) → IsNamed entries file root → Misses from upto reads root

abbrev pub MissesPut : (from upto : ℕ) → (reads : List ℕ) → EntryChange → (file : ℕ) → Type 0
MissesPut from upto reads (Put index e) file = file ≡ e.file → Misses from upto reads (root_of e)
MissesPut from upto reads (Clear index) file = Unit {0}

abbrev pub MissesSealed : (from upto : ℕ) → (reads : List ℕ) → EntryChange → (sealed : Option RootRef) → (file : ℕ) → Type 0
MissesSealed from upto reads change None file = Unit {0}
MissesSealed from upto reads change (Some dir) file = MissesPut from upto reads change file

-- they miss the tree that a sealed commit puts in the file
abbrev pub MissesPending : (from upto : ℕ) → (reads : List ℕ) → Option PendingCommit → (file : ℕ) → Type 0
MissesPending from upto reads None file = Unit {0}
MissesPending from upto reads (Some p) file = MissesSealed from upto reads p.change p.sealed file

-- The first write of a stage: nobody has one on the file, and an entry names the file, which is of the current format and loads by its
-- reference.
pub record BeginsStage {Root : Type 0} (phase : Phase) (c : Core Root) (file : ℕ) : Type 0 where
  pub none : c.stages file ≡ None
  pub root : RootRef
  pub named : IsNamed c.entries file root
  pub current : root.format ≡ current_format
  pub loads : IsTrusted phase file → (tree : Loaded) × (load_of (c.files file).reads root ≡ Ok tree)

-- Who may write the file of an object: who has taken it, or who stages on it. With the stages that are then open.
abbrev pub MayWrite : {Root : Type 0} → Phase → Core Root → (actor file : ℕ) → (stages : ℕ → Option ℕ) → Type 0
MayWrite phase c actor file stages =
    ((c.takes file ≡ Some actor) × (stages ≡ c.stages))
    ⊎ ((c.stages file ≡ Some actor) × (stages ≡ c.stages))
    ⊎ (BeginsStage phase c file × (stages ≡ put c.stages file (Some actor)))
