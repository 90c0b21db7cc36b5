-- What certificates say.
use Rattle.std.proofs.Common.{◌≡◌, ℕ, List, Err, Ok, Result, inl, inr, sym}
use Rattle.hmac_keys.specs.declared.Keys.{Keys}
use Rattle.image_audit.proofs.Certified.{holds_in_pictures}
use Rattle.image_audit.proofs.Checks.{accepted}
use Rattle.image_audit.specs.Certificate.{IsCertificate}
use Rattle.image_audit.specs.Checking.{certificate_of}
use Rattle.image_audit.specs.Contents.{Answers}
use Rattle.image_audit.specs.declared.fault.CertFault.{CertFault}
use Rattle.image_audit.specs.declared.fault.CertFault.TheVariants.{NoMemory}
use Rattle.image_audit.specs.declared.fault.Listed.{Listed}
use Rattle.trusted_storage.specs.Laws.{CertificatesHold}

answered : (keys : Keys) (block bytes : List ℕ) (l : Listed) → Answers (certificate_of keys block bytes) (Ok l) → certificate_of keys block bytes ≡ Ok l
answered keys block bytes l (inl none) = let e : ◌≡◌ {A = Result Listed CertFault} (Ok l) (Err NoMemory) = none in absurd cc
answered keys block bytes l (inr is) = sym is

pub certificates : CertificatesHold
certificates keys block bytes l picture objects are_bytes answers images same mounts =
    let c : IsCertificate keys block bytes l = accepted keys block bytes l are_bytes (answered keys block bytes l answers) in
    record { certificate = c; holds = holds_in_pictures keys block bytes l c picture objects images same mounts }
