-- What the certificates of an audit say.
use Rattle.std.specs.Prelude.{◌≡◌, ◌⊎◌, ℕ, List, Ok, Some}
use Rattle.hmac_keys.specs.declared.Keys.{Keys}
use Rattle.store_model.specs.Object.{Object, ObjectMap, object_at}
use Rattle.dir_records.specs.declared.entry.DirEntry.{DirEntry}
use Rattle.crash_core.specs.Entries.{name_of}
use Rattle.crash_core.specs.Mounting.{mounted}
use Rattle.crash_core.specs.Pictures.{Picture, block_zero}
use Rattle.freshness_laws.specs.Agreement.{ObjectsAgree}
use Rattle.freshness_laws.specs.Pictures.{AreByteImages}
use Rattle.image_audit.specs.Certificate.{ClashesWithPicture, IsCertificate, object_listed}
use Rattle.folder_audit.specs.Findings.{IsCertified}

-- the map has an object of the entry's name, and its good parts are those that the certificate tells
pub record HasCertified {keys : Keys} {block certificate : List ℕ} {e : DirEntry} (c : IsCertified keys block e certificate) (m : ObjectMap) : Type 0 where
  pub object : Object
  pub at : object_at m (name_of e) ≡ Some object
  pub agrees : ObjectsAgree (object_listed c.listed) object

-- the certificate clashes with a picture
pub record ClashesThere {keys : Keys} {block certificate : List ℕ} {e : DirEntry} (c : IsCertified keys block e certificate) (images : ℕ → List ℕ) : Type 0 where
  pub is : IsCertificate keys block certificate c.listed
  pub clash : ClashesWithPicture is images

-- What the certificate of a line says holds in every picture with that block of the card that mounts, or they clash.
abbrev pub AuditedObjectsHold : Type 0
AuditedObjectsHold =
    (keys : Keys) (block certificate : List ℕ) (e : DirEntry) (c : IsCertified keys block e certificate) (picture : Picture) (m : ObjectMap)
    → AreByteImages picture.images → block_zero picture.card ≡ block → mounted keys picture ≡ Ok m → HasCertified c m ⊎ ClashesThere c picture.images
