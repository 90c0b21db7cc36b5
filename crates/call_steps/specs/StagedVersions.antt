-- The version that a stage of a change left, and the entry that names it.
use Rattle.std.specs.List.{list_any}
use Rattle.std.specs.Prelude.{IsTrue, Some, false, ◌≡◌}
use Rattle.dir_records.specs.declared.entry.DirEntry.{DirEntry}
use Rattle.disk_model.specs.State.{FileState}
use Rattle.history_seats.specs.Changes.{TagVersions}
use Rattle.history_seats.specs.Records.{Version}
use Rattle.hmac_keys.specs.declared.Keys.{Keys}
use Rattle.object_slots.specs.GuardedStages.{IsNextVersion, VersionChange}
use Rattle.node_image.specs.References.{IsCurrent}
use Rattle.node_image.specs.declared.node.RootRef.{RootRef}
use Rattle.store_model.specs.Object.{Contents, Sound}
use Rattle.core_laws.specs.Decodings.{IsReal}

-- That version is real, and its reference is current. Where the file is honest now, the change needs no bad block.
pub record IsStagedVersion (keys : Keys) (file : FileState) (v next : Version) (change : VersionChange) (root : RootRef) : Type 0 where
  pub follows : IsNextVersion keys file v next change root
  pub real : IsReal keys next
  pub current : IsCurrent next.root
  pub spared : IsTrue file.honest → (c : Contents) → v.object ≡ Sound c → list_any change.asked c.bad ≡ false

-- the entry of an object that was changed, with the reference and the size of its version
abbrev pub changed_entry : DirEntry → Version → DirEntry
changed_entry e next = record e { version = next.root.version; hash = next.root.hash; size = next.size }

-- the versions with which a change is brought
abbrev pub change_versions : (v next : Version) → TagVersions
change_versions v next = record { committed = Some v; doubted = Some next }
