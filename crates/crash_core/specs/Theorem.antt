-- The crash prefix of the core machine: whatever its steps, every picture mounts to the map of its history, or to that map with the one
-- commit that is sealed and pending.
use Rattle.std.specs.Prelude.{◌≡◌, ℕ, true, List, [], ◌∷◌, Option, Some, None, Ok, IsTrue}
use Rattle.std.specs.Ordering.{is_eq}
use Rattle.disk_model.specs.State.{Sound}
use Rattle.node_image.specs.declared.node.RootRef.{RootRef}
use Rattle.tee_types.specs.Limits.{directory_file}
use Rattle.store_model.specs.declared.name.ObjectName.{ObjectName}
use Rattle.store_model.specs.Name.{name_cmp}
use Rattle.store_model.specs.Object.{ObjectMap}
use Rattle.store_model.specs.Calls.{state_after}
use Rattle.store_model.specs.Machine.{MachineState}
use Rattle.dir_records.specs.declared.entry.DirEntry.{DirEntry}
use Rattle.crash_core.specs.Entries.{name_of}
use Rattle.crash_core.specs.EntryLists.{entry_at}
use Rattle.crash_core.specs.Pictures.{IsPictureOf, Picture}
use Rattle.crash_core.specs.Mounting.{mounted, mounted_directory}
use Rattle.crash_core.specs.CoreState.{Core, IsTrusted, PendingCommit, Phase, replay_state}
use Rattle.crash_core.specs.CoreSteps.{CoreStep, IsRun}
use Rattle.crash_core.specs.Holding.{CardNames, DirectoryStands}

-- Where a run begins: no file is taken, no stage is open, no commit is pending and no event stands; the card names the directory, which
-- holds what the history begins with, and it and each object stand alike in every image.
pub record IsStart {Root : Type 0} (phase : Phase) (c : Core Root) : Type 0 where
  pub sound : (file : ℕ) → Sound (c.files file)
  pub honest : (file : ℕ) → IsTrusted phase file → IsTrue (c.files file).honest
  pub directory : IsTrusted phase directory_file → DirectoryStands phase c.files c.root c.entries phase.begins.objects
  pub card : CardNames c.card c.root phase.begins.counter
  pub no_takes : (file : ℕ) → c.takes file ≡ None
  pub no_stages : (file : ℕ) → c.stages file ≡ None
  pub no_pending : c.pending ≡ None
  pub no_history : c.history ≡ []

-- the two maps have the same names, and the same object under each name of that kind
abbrev pub SameBut : (IsSame : ObjectName → Type 0) → ObjectMap → ObjectMap → Type 0
SameBut IsSame [] [] = Unit {0}
SameBut IsSame [] (b ∷ there) = ⊥
SameBut IsSame (a ∷ objects) [] = ⊥
SameBut IsSame (a ∷ objects) (b ∷ there) = (b.0 ≡ a.0) × (IsSame a.0 → b.1 ≡ a.1) × SameBut IsSame objects there

-- the entry of that name is of a file that is honest to the end
abbrev pub IsTrustedName : Phase → List (Option DirEntry) → ObjectName → Type 0
IsTrustedName phase entries name = (index : ℕ) (e : DirEntry) → entry_at entries index ≡ Some e → is_eq (name_cmp name (name_of e)) ≡ true → IsTrusted phase e.file

-- The picture mounts to this map, but for the objects in files that are not honest.
pub record MountsTo (phase : Phase) (picture : Picture) (objects : ObjectMap) : Type 0 where
  pub entries : List (Option DirEntry)
  pub directory : mounted_directory phase.keys picture ≡ Ok entries
  pub there : ObjectMap
  pub mounts : mounted phase.keys picture ≡ Ok there
  pub same : SameBut (IsTrustedName phase entries) objects there

abbrev pub map_sealed : MachineState → PendingCommit → Option RootRef → ObjectMap
map_sealed state p None = state.objects
map_sealed state p (Some dir) = (state_after state p.session p.call).objects

-- the map that the card names: the machine's, or, once the pending commit is sealed, the one that it leaves
abbrev pub map_on_card : MachineState → Option PendingCommit → ObjectMap
map_on_card state None = state.objects
map_on_card state (Some p) = map_sealed state p p.sealed

-- For every list of steps from a start, where the directory's file is honest to the end.
abbrev pub EveryPictureMounts : Type 0 → Type 0
EveryPictureMounts Root =
    (phase : Phase) (start now : Core Root) (steps : List (CoreStep Root)) (picture : Picture) → IsStart phase start → IsRun phase start steps now
    → IsPictureOf now.files now.card picture → IsTrusted phase directory_file → MountsTo phase picture (map_on_card (replay_state phase now).state now.pending)

-- Where every file is, it is that map.
abbrev pub HonestPicturesMount : Type 0 → Type 0
HonestPicturesMount Root =
    (phase : Phase) (start now : Core Root) (steps : List (CoreStep Root)) (picture : Picture) → IsStart phase start → IsRun phase start steps now
    → IsPictureOf now.files now.card picture → ((file : ℕ) → IsTrusted phase file)
    → mounted phase.keys picture ≡ Ok (map_on_card (replay_state phase now).state now.pending)
