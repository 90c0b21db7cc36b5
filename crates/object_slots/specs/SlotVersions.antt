-- The object of a slot as a committed version of its file.
use Rattle.std.specs.Prelude.{◌≡◌, ℕ, List, length, Ok, IsTrue}
use Rattle.disk_model.specs.State.{FileState, Sound as SoundFile}
use Rattle.aes_block.specs.WrappedKey.{unwrapped_of}
use Rattle.hmac_keys.specs.declared.Keys.{Keys}
use Rattle.node_image.specs.declared.node.RootRef.{RootRef}
use Rattle.node_image.specs.Selection.{selected_tree}
use Rattle.htree_file.specs.Value.{Staged}
use Rattle.store_model.specs.Object.{Contents, Damaged, Sound}
use Rattle.object_file.specs.DeviceKeys.{object_key}
use Rattle.dir_records.specs.declared.entry.DirEntry.{DirEntry}
use Rattle.history_seats.specs.Records.{Version}
use Rattle.core_laws.specs.SlotParts.{VersionStands}
use Rattle.core_laws.specs.GateParts.{IsVersionOf}
use Rattle.object_file.specs.Changes.{adopted}
use Rattle.object_file.specs.Held.{held_in}
use Rattle.object_file.specs.Value.{size_in}
use Rattle.object_slots.specs.Loads.{IsLoadedBy, IsRefusedBy}
use Rattle.object_slots.specs.Makes.{IsMade, new_contents}
use Rattle.object_slots.specs.SlotStages.{DataChange, IsStageOf}
use Rattle.object_slots.specs.SlotValues.{HeldObject}

-- The object is the one of a version: it has the version's reference and tree, and its key under the application's. The version's object is
-- sound, with these contents.
pub record HasVersion (keys : Keys) (o : HeldObject) (v : Version) (c : Contents) : Type 0 where
  pub root : v.root ≡ o.tree.root
  pub loads : v.loads ≡ Ok o.tree.tree
  pub key : o.tree.key ≡ unwrapped_of (object_key keys v.app) o.tree.tree.head.wrapped
  pub size : v.size ≡ size_in o
  pub attributes : v.attributes ≡ length o.attributes
  pub object : v.object ≡ Sound c
  pub own : c.attributes ≡ o.attributes

-- the version that a stage leaves of one with these contents
abbrev pub changed_version : (new : FileState) → Version → Contents → DataChange → Staged → Version
changed_version new v was c s = record {
  root = s.root;
  tree = selected_tree new.reads s.root;
  loads = Ok s.tree;
  app = v.app;
  size = c.size;
  attributes = v.attributes;
  object = Sound (c.contents was);
}

-- the version of a new object
abbrev pub new_version : (new : FileState) → (app attributes bytes : List ℕ) → HeldObject → Version
new_version new app attributes bytes o = record {
  root = o.tree.root;
  tree = selected_tree new.reads o.tree.root;
  loads = Ok o.tree.tree;
  app = app;
  size = length bytes;
  attributes = length attributes;
  object = Sound (new_contents attributes bytes);
}

-- What is loaded by its entry, from an honest file in which the entry's version stands, is of that version.
abbrev pub LoadedAreVersions : Type 0
LoadedAreVersions =
    (keys : Keys) (old new : FileState) (e : DirEntry) (v : Version) (o : HeldObject) → SoundFile new → IsTrue new.honest → VersionStands keys new v → IsVersionOf e v
    → IsLoadedBy old new (object_key keys e.app) e o → HasVersion keys o v (held_in o new.reads)

-- and where that is refused as corrupt, the version's object is damaged
abbrev pub RefusedAreDamaged : Type 0
RefusedAreDamaged =
    (keys : Keys) (old new : FileState) (e : DirEntry) (v : Version) → SoundFile new → IsTrue new.honest → VersionStands keys new v → IsVersionOf e v
    → IsRefusedBy old new (object_key keys e.app) e → v.object ≡ Damaged v.size

-- While the version stands in its file, the object holds what the version has.
abbrev pub VersionsAreHeld : Type 0
VersionsAreHeld = (keys : Keys) (s : FileState) (o : HeldObject) (v : Version) (c : Contents) → SoundFile s → VersionStands keys s v → HasVersion keys o v c → held_in o s.reads ≡ c

-- A settled stage of an honest file leaves a version that stands: the old object, changed. The adopted object is of it.
abbrev pub StagesAreVersions : Type 0
StagesAreVersions =
    (keys : Keys) (old new : FileState) (o : HeldObject) (v : Version) (was : Contents) (c : DataChange) (root : RootRef) (s : Staged)
    → ((x : Contents) → (c.contents x).attributes ≡ x.attributes) → SoundFile old → SoundFile new → IsTrue new.honest → VersionStands keys old v → HasVersion keys o v was
    → IsStageOf old new o c root s
    → VersionStands keys new (changed_version new v was c s) × HasVersion keys (adopted o s) (changed_version new v was c s) (c.contents was)

-- An object that was made in an honest file is of a version that stands.
abbrev pub MadeAreVersions : Type 0
MadeAreVersions =
    (keys : Keys) (old new : FileState) (app attributes bytes : List ℕ) (root : RootRef) (o : HeldObject) → SoundFile new → IsTrue new.honest
    → IsMade old new (object_key keys app) attributes bytes root o
    → VersionStands keys new (new_version new app attributes bytes o) × HasVersion keys o (new_version new app attributes bytes o) (new_contents attributes bytes)
