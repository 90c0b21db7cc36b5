-- A slot as a part of the core machine.
use Rattle.std.specs.Prelude.{◌≡◌, ℕ, List, Option, IsTrue}
use Rattle.disk_model.specs.State.{FileState, LeftNow, Sound}
use Rattle.hmac_keys.specs.declared.Keys.{Keys}
use Rattle.node_image.specs.References.{IsCurrent}
use Rattle.node_image.specs.Selection.{selected_tree}
use Rattle.htree_file.specs.Opening.{load_of}
use Rattle.history_seats.specs.Records.{Version}
use Rattle.history_seats.specs.Known.{IsKnown}
use Rattle.history_seats.specs.Views.{SlotView}
use Rattle.crash_core.specs.MountedObject.{object_in}
use Rattle.crash_core.specs.DeviceKeys.{object_key}

-- A slot's part of a state of the core machine: its file, what its seat knows, and who has an open stage on the file.
pub record SlotPart : Type 0 where
  pub file : FileState
  pub view : SlotView
  pub stage : Option ℕ

-- The image shows the version: its reference selects its tree there, loads what the version does, and opens to its object.
pub record IsShownIn (keys : Keys) (image : List ℕ) (v : Version) : Type 0 where
  pub selects : selected_tree image v.root ≡ v.tree
  pub loads : load_of image v.root ≡ v.loads
  pub object : object_in (object_key keys v.app) image v.root v.size v.attributes ≡ v.object

-- every image that the file may leave does
pub record VersionStands (keys : Keys) (s : FileState) (v : Version) : Type 0 where
  pub current : IsCurrent v.root
  pub shown : (image : List ℕ) → LeftNow s image → IsShownIn keys image v

-- The view knows the version: its records give it for some generation of its file, or leave it there by a doubt that may still land.
abbrev pub Knows : SlotView → Version → Type 0
Knows view v = IsKnown view.decided view.mounted view.seen view.file v

-- What holds of each slot, be it free, live or in doubt: the versions that its view knows stand in its file. Nothing is said of a file
-- that is not honest.
pub record SlotHolds (keys : Keys) (slot : SlotPart) : Type 0 where
  pub sound : Sound slot.file
  pub stands : IsTrue slot.file.honest → (v : Version) → Knows slot.view v → VersionStands keys slot.file v
