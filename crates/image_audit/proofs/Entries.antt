-- The entry of a certificate.
use Rattle.std.proofs.Common.{◌≡◌, ◌%◌, ◌*◌, ℕ, List, Option, Some, None, Result, Ok, Err, refl, sym, ap}
use Rattle.byte_fields.specs.Field.{field}
use Rattle.node_image.specs.declared.node.RootRef.{RootRef}
use Rattle.hmac_keys.specs.declared.Keys.{Keys}
use Rattle.dir_records.specs.declared.entry.DirEntry.{DirEntry}
use Rattle.image_audit.specs.declared.fault.CertFault.{CertFault}
use Rattle.image_audit.specs.declared.fault.CertFault.TheVariants.{Directory}
use Rattle.image_audit.specs.declared.fault.ProofFault.{ProofFault}
use Rattle.image_audit.specs.Certificate.{index_in}
use Rattle.image_audit.specs.Checking.{and_then, certificate_of, directory_page, entry_in, entry_listed, fault_as, first_wrong, front, object_listing, root_named, unless_wrong}
use Rattle.image_audit.proofs.Answers.{then_err, then_is}

none_wrong : (o : Option ℕ) (index i : ℕ) → Ok i ≡ unless_wrong o index → i ≡ index
none_wrong None index i is = cc (is)
none_wrong (Some at) index i is = absurd (cc (is))

module _ (keys : Keys) (root : RootRef) (bytes : List ℕ) where
  pub entry_front_err : (fault : CertFault) → Err fault ≡ front bytes → entry_listed keys root bytes ≡ Err fault
  entry_front_err fault is = then_err (front bytes) (λ index. and_then (fault_as Directory (directory_page keys root bytes)) (λ page. entry_in (field (128 * (index % 32)) 128 page))) fault (sym is)

  module _ (index : ℕ) (is : Ok index ≡ front bytes) where
    pub index_is : index ≡ index_in bytes
    index_is = none_wrong (first_wrong bytes) (index_in bytes) index is

    behind_front : (answer : Result DirEntry CertFault) → and_then (fault_as Directory (directory_page keys root bytes)) (λ page. entry_in (field (128 * (index % 32)) 128 page)) ≡ answer → entry_listed keys root bytes ≡ answer
    behind_front answer next = then_is (front bytes) (λ i. and_then (fault_as Directory (directory_page keys root bytes)) (λ page. entry_in (field (128 * (i % 32)) 128 page))) index answer (sym is) next

    pub entry_page_err : (fault : ProofFault) → directory_page keys root bytes ≡ Err fault → entry_listed keys root bytes ≡ Err (Directory fault)
    entry_page_err fault bad =
        behind_front (Err (Directory fault)) (then_err (fault_as Directory (directory_page keys root bytes)) (λ page. entry_in (field (128 * (index % 32)) 128 page)) (Directory fault) (ap (fault_as Directory) bad))

    pub entry_is : (page : List ℕ) (answer : Result DirEntry CertFault) → directory_page keys root bytes ≡ Ok page → entry_in (field (128 * (index % 32)) 128 page) ≡ answer → entry_listed keys root bytes ≡ answer
    entry_is page answer good next =
        behind_front answer (then_is (fault_as Directory (directory_page keys root bytes)) (λ p. entry_in (field (128 * (index % 32)) 128 p)) page answer (ap (fault_as Directory) good) next)

module _ (keys : Keys) (block bytes : List ℕ) (root : RootRef) (named : Ok root ≡ root_named block) where
  pub certificate_entry_err : (fault : CertFault) → Err fault ≡ entry_listed keys root bytes → certificate_of keys block bytes ≡ Err fault
  certificate_entry_err fault is =
      then_is (root_named block) (λ r. and_then (entry_listed keys r bytes) (λ e. object_listing keys e bytes)) root (Err fault) (sym named)
      (then_err (entry_listed keys root bytes) (λ e. object_listing keys e bytes) fault (sym is))

  pub certificate_is : (e : DirEntry) → Ok e ≡ entry_listed keys root bytes → certificate_of keys block bytes ≡ object_listing keys e bytes
  certificate_is e is =
      then_is (root_named block) (λ r. and_then (entry_listed keys r bytes) (λ x. object_listing keys x bytes)) root (object_listing keys e bytes) (sym named)
      (then_is (entry_listed keys root bytes) (λ x. object_listing keys x bytes) e (object_listing keys e bytes) (sym is) refl)
