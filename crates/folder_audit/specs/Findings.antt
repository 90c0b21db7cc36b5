-- What a line says of an object.
use Rattle.std.specs.Prelude.{◌≡◌, ℕ, List, [], Option, Some, Ok, IsTrue}
use Rattle.disk_model.specs.Bytes.{AreBytes}
use Rattle.disk_model.specs.State.{FileState}
use Rattle.node_image.specs.declared.node.RootRef.{RootRef}
use Rattle.node_image.specs.References.{current_format}
use Rattle.htree_file.specs.Opening.{Loaded, load_of}
use Rattle.htree_file.specs.Standing.{Told}
use Rattle.hmac_keys.specs.declared.Keys.{Keys}
use Rattle.store_model.specs.Object.{Contents, Damaged, Sound}
use Rattle.dir_records.specs.declared.entry.DirEntry.{DirEntry}
use Rattle.crash_core.specs.CardBlock.{root_in}
use Rattle.crash_core.specs.DeviceKeys.{directory_key, object_key}
use Rattle.crash_core.specs.Directory.{directory_of}
use Rattle.crash_core.specs.Entries.{name_of}
use Rattle.crash_core.specs.EntryLists.{AreCurrent, entry_at}
use Rattle.crash_core.specs.MountedObject.{mounted_object}
use Rattle.script_text.specs.BadBlocks.{is_some_of}
use Rattle.image_audit.specs.declared.fault.Listed.{Listed}
use Rattle.image_audit.specs.Certificate.{name_listed}
use Rattle.image_audit.specs.Checking.{certificate_of}
use Rattle.folder_audit.specs.Lines.{AuditLine, Bad, Certified, WhollyDamaged}

-- The certificate is accepted under the card's block, and speaks of the entry's object.
pub record IsCertified (keys : Keys) (block : List ℕ) (e : DirEntry) (certificate : List ℕ) : Type 0 where
  pub listed : Listed
  pub accepted : certificate_of keys block certificate ≡ Ok listed
  pub name : name_listed listed ≡ name_of e
  pub bytes : AreBytes certificate

-- of any file
abbrev pub IsAuditLine : Keys → (block : List ℕ) → DirEntry → AuditLine → Type 0
IsAuditLine keys block e (Certified certificate) = IsCertified keys block e certificate
IsAuditLine keys block e (Bad numbers) = IsTrue (is_some_of numbers)
IsAuditLine keys block e WhollyDamaged = Unit {0}

-- The object that an entry mounts as is the one that the line tells: the certificate says what it has; or its bad blocks are these; or it is
-- damaged as a whole.
abbrev pub TellsObject : Keys → (block : List ℕ) → DirEntry → (reads : List ℕ) → AuditLine → Type 0
TellsObject keys block e reads (Certified certificate) =
    (c : Contents) × (mounted_object (object_key keys e.app) reads e ≡ Sound c) × (c.bad ≡ [])
    × (certificate_of keys block certificate ≡ Ok (record { app = e.app; id = e.id; attributes = c.attributes; bytes = c.bytes }))
TellsObject keys block e reads (Bad numbers) = (c : Contents) × (mounted_object (object_key keys e.app) reads e ≡ Sound c) × (c.bad ≡ numbers)
TellsObject keys block e reads WhollyDamaged = mounted_object (object_key keys e.app) reads e ≡ Damaged e.size

-- A directory of the current format that the block names, as its file reads: with that tree, and with these entries.
pub record IsMountedDirectory (keys : Keys) (block reads : List ℕ) (tree : Loaded) (entries : List (Option DirEntry)) : Type 0 where
  pub root : RootRef
  pub named : root_in block ≡ Ok root
  pub current : root.format ≡ current_format
  pub loads : load_of reads root ≡ Ok tree
  pub directory : directory_of (directory_key keys) reads root ≡ Ok entries
  pub entries_current : AreCurrent entries

-- The line is exact for an entry of such a directory, where the files of the directory and of the object can be followed, and tell their
-- bytes.
abbrev pub IsExact : Keys → (block : List ℕ) → (tree : Loaded) → (index : ℕ) → DirEntry → (dir_old dir_new old new : FileState) → AuditLine → Type 0
IsExact keys block tree index e dir_old dir_new old new line =
    Told dir_old dir_new → Told old new → (entries : List (Option DirEntry)) → IsMountedDirectory keys block dir_new.reads tree entries → entry_at entries index ≡ Some e
    → TellsObject keys block e new.reads line
