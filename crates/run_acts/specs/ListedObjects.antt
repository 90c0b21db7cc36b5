-- The objects of a store that is mounted, listed.
use Rattle.std.specs.Prelude.{◌≡◌, ◌⊎◌, ℕ, List, [], ◌∷◌, ◌++◌, Option, Some, None, Result, Ok, Err}
use Rattle.disk_model.specs.State.{FileState}
use Rattle.dir_records.specs.declared.entry.DirEntry.{DirEntry}
use Rattle.store_model.specs.declared.name.ObjectName.{ObjectName}
use Rattle.store_model.specs.Object.{ObjectMap}
use Rattle.store_commit.specs.declared.fault.MountFault.{MountFault}
use Rattle.store_commit.specs.declared.fault.MountFault.TheVariants.{NoMemory}
use Rattle.object_calls.specs.declared.shown_object.Shown.{Shown}
use Rattle.object_calls.specs.OpeningEntries.{IsNonePast}
use Rattle.object_calls.specs.Next.{IsNotShown, IsShown}
use Rattle.run_acts.specs.Lines.{objects_text}
use Rattle.run_acts.specs.LineObjects.{entry_shown, shown_line}

abbrev pub name_shown : Shown → ObjectName
name_shown shown = record { app = shown.app; id = shown.id }

-- an object that was shown, and the files once it was
pub record ShownStep : Type 0 where
  pub shown : Shown
  pub files : ℕ → FileState

-- the objects that were shown, as a map
abbrev pub objects_of : List ShownStep → ObjectMap
objects_of [] = []
objects_of (step ∷ steps) = entry_shown step.shown ∷ objects_of steps

-- Objects are shown one after the other, each that of the least name above the last, beginning above a name.
abbrev pub ShowsAll : List (Option DirEntry) → (key : List ℕ) → (after : Option ObjectName) → (files : ℕ → FileState) → List ShownStep → (last : Option ObjectName) → (left : ℕ → FileState) → Type 0
ShowsAll entries key after files [] last left = (last ≡ after) × ((file : ℕ) → left file ≡ files file)
ShowsAll entries key after files (step ∷ steps) last left =
    IsShown entries after key files step.files step.shown × ShowsAll entries key (Some (name_shown step.shown)) step.files steps last left

-- The objects so far, from the least name on, and their lines.
pub record IsListedTo (entries : List (Option DirEntry)) (key : List ℕ) (files : ℕ → FileState) (last : Option ObjectName) (left : ℕ → FileState) (lines : List ℕ) : Type 0 where
  pub steps : List ShownStep
  pub shows : ShowsAll entries key None files steps last left
  pub lines_are : lines ≡ objects_text (objects_of steps)

-- All objects: there is no name above the last.
pub record IsListed (entries : List (Option DirEntry)) (key : List ℕ) (files left : ℕ → FileState) (lines : List ℕ) : Type 0 where
  pub last : Option ObjectName
  pub listed : IsListedTo entries key files last left lines
  pub whole : IsNonePast entries last

-- An object could not be shown, or its line found no memory.
abbrev pub IsNotListed : List (Option DirEntry) → (key : List ℕ) → Option ObjectName → (old new : ℕ → FileState) → MountFault → Type 0
IsNotListed entries key after old new fault = IsNotShown entries after old new fault ⊎ ((fault ≡ NoMemory) × (shown : Shown) × IsShown entries after key old new shown)

-- The listing ended there, after some objects.
pub record IsCutOff (entries : List (Option DirEntry)) (key : List ℕ) (files left : ℕ → FileState) (fault : MountFault) : Type 0 where
  pub last : Option ObjectName
  pub between : ℕ → FileState
  pub lines : List ℕ
  pub listed : IsListedTo entries key files last between lines
  pub why : IsNotListed entries key last between left fault

-- what the listing of one object more answers
abbrev pub ListsNext : List (Option DirEntry) → (key : List ℕ) → Option ObjectName → (old new : ℕ → FileState) → (before after : List ℕ) → Result (Option ObjectName) MountFault → Type 0
ListsNext entries key after old new before text (Ok (Some name)) = (shown : Shown) × IsShown entries after key old new shown × (name ≡ name_shown shown) × (text ≡ before ++ shown_line shown)
ListsNext entries key after old new before text (Ok None) = IsNonePast entries after × ((file : ℕ) → new file ≡ old file) × (text ≡ before)
ListsNext entries key after old new before text (Err fault) = IsNotListed entries key after old new fault
