-- What the certificate of a line says.
use Rattle.std.proofs.Common.{◌⊎◌, ℕ, List, inl, inr, sym, ap, ◌∙◌}
use Rattle.hmac_keys.specs.declared.Keys.{Keys}
use Rattle.store_model.specs.Object.{ObjectMap, object_at}
use Rattle.dir_records.specs.declared.entry.DirEntry.{DirEntry}
use Rattle.crash_core.specs.Pictures.{Picture}
use Rattle.image_audit.specs.Certificate.{ClashesWithPicture, HasListed, IsCertificate}
use Rattle.image_audit.proofs.Checks.{accepted}
use Rattle.image_audit.proofs.Certified.{holds_in_pictures}
use Rattle.folder_audit.specs.Findings.{IsCertified}
use Rattle.folder_audit.specs.Laws.{AuditedObjectsHold, ClashesThere, HasCertified}

module _ (keys : Keys) (block certificate : List ℕ) (e : DirEntry) (c : IsCertified keys block e certificate) where
  is : IsCertificate keys block certificate c.listed
  is = accepted keys block certificate c.listed c.bytes c.accepted

  held : (m : ObjectMap) → HasListed c.listed m → HasCertified c m
  held m has = record { object = has.object; at = ap (object_at m) (sym c.name) ∙ has.at; agrees = has.agrees }

  either : (picture : Picture) (m : ObjectMap) → HasListed c.listed m ⊎ ClashesWithPicture is picture.images → HasCertified c m ⊎ ClashesThere c picture.images
  either picture m (inl has) = inl (held m has)
  either picture m (inr clash) = inr (record { is = is; clash = clash })

pub audited_hold : AuditedObjectsHold
audited_hold keys block certificate e c picture m bytes same mounts =
    either keys block certificate e c picture m (holds_in_pictures keys block certificate c.listed (is keys block certificate e c) picture m bytes same mounts)
