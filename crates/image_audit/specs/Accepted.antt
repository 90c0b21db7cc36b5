-- What making a certificate gives of an object that is sound is accepted.
use Rattle.std.specs.Prelude.{◌≡◌, ℕ, ◌<◌, List, [], Some, Ok}
use Rattle.disk_model.specs.State.{FileState}
use Rattle.node_image.specs.References.{current_format}
use Rattle.hmac_keys.specs.declared.Keys.{Keys}
use Rattle.htree_file.specs.Standing.{Told}
use Rattle.store_model.specs.Object.{Contents, Sound}
use Rattle.dir_records.specs.declared.entry.DirEntry.{DirEntry}
use Rattle.crash_core.specs.CardBlock.{directory_at}
use Rattle.crash_core.specs.EntryLists.{entry_at}
use Rattle.crash_core.specs.MountedObject.{root_of}
use Rattle.core_laws.specs.Clashes.{HaveFlags}
use Rattle.freshness_laws.specs.Pictures.{IsSeenIn}
use Rattle.freshness_laws.specs.Readings.{ReadTree}
use Rattle.freshness_laws.specs.SeenStores.{SeenStore, object_read}
use Rattle.image_audit.specs.Audited.{IsAudit}
use Rattle.image_audit.specs.Checking.{certificate_of}

-- Two files that are told while a certificate is made of their trees, and read as the images of a store do.
pub record AreImages (images : ℕ → List ℕ) (directory file : ℕ) (dir_old dir_new object_old object_new : FileState) : Type 0 where
  pub dir_told : Told dir_old dir_new
  pub dir_reads : dir_new.reads ≡ images directory
  pub object_told : Told object_old object_new
  pub object_reads : object_new.reads ≡ images file

-- In a store of the current format that images hold, what is made of a sound object without bad blocks is accepted, with its attributes and
-- bytes.
abbrev pub AuditsAreAccepted : Type 0
AuditsAreAccepted =
    (keys : Keys) (block : List ℕ) (images : ℕ → List ℕ) (s : SeenStore keys block) (index : ℕ) (e : DirEntry) (read : ReadTree (root_of e)) (c : Contents)
    → IsSeenIn images s → (s.root).format ≡ current_format → HaveFlags (s.dir).tree → index < 256 → entry_at s.entries index ≡ Some e
    → e.format ≡ current_format → s.trees e ≡ Some read → HaveFlags read.tree → object_read keys e (Some read) ≡ Sound c → c.bad ≡ []
    → (dir_old dir_new object_old object_new : FileState) (bytes : List ℕ) → AreImages images (directory_at (s.root).format) e.file dir_old dir_new object_old object_new
    → IsAudit index (s.dir).tree read.tree dir_old dir_new object_old object_new bytes
    → certificate_of keys block bytes ≡ Ok (record { app = e.app; id = e.id; attributes = c.attributes; bytes = c.bytes })
