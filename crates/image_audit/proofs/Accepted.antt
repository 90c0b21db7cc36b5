-- What making a certificate gives of a sound object is accepted.
use Rattle.std.proofs.Common.{◌≡◌, ℕ, ◌/◌, ◌<◌, List, ◌++◌, codes, length, Some, sym, ap, subst, ◌∙◌, arith}
use Rattle.std.specs.Int.{w16, to_be_bytes}
use Rattle.disk_model.specs.State.{FileState}
use Rattle.node_image.specs.Layout.{greatest_of}
use Rattle.node_image.proofs.Matching.{row_same}
use Rattle.hmac_keys.specs.declared.Keys.{Keys}
use Rattle.htree_file.specs.Pages.{block_in}
use Rattle.htree_file.proofs.Sizes.{sized_greatest}
use Rattle.dir_records.specs.declared.entry.DirEntry.{DirEntry}
use Rattle.crash_core.specs.CardBlock.{directory_at}
use Rattle.crash_core.specs.DeviceKeys.{directory_key}
use Rattle.crash_core.specs.MountedObject.{root_of}
use Rattle.core_laws.specs.Decodings.{opened_decoded}
use Rattle.freshness_laws.specs.Pictures.{IsReadIn, IsReadOrNone, IsSeenIn}
use Rattle.freshness_laws.specs.Readings.{ReadTree, decoding_read}
use Rattle.freshness_laws.specs.SeenStores.{SeenStore}
use Rattle.freshness_laws.proofs.Objects.{whole_of}
use Rattle.image_audit.specs.Accepted.{AreImages, AuditsAreAccepted}
use Rattle.image_audit.specs.Audited.{IsAudit}
use Rattle.image_audit.specs.Auditing.{certificate_bytes, joined, tree_bytes}
use Rattle.image_audit.specs.Checking.{certificate_of}
use Rattle.image_audit.proofs.Issued.{objects_certified}

module _ (keys : Keys) (block : List ℕ) (images : ℕ → List ℕ) (s : SeenStore keys block) (index : ℕ) (e : DirEntry) (read : ReadTree (root_of e))
    (held : IsSeenIn images s) (low : index < 256) (is : s.trees e ≡ Some read) (a b x y : FileState) (bytes : List ℕ)
    (files : AreImages images (directory_at (s.root).format) e.file a b x y) (audit : IsAudit index (s.dir).tree read.tree a b x y bytes) where
  inside : IsReadIn (images e.file) (root_of e) read
  inside = subst (IsReadOrNone (images e.file) (root_of e)) is (held.trees e)

  eight : length ((s.dir).tree).nodes ≡ 8
  eight =
      ((s.dir).verified).hashed.all ∙ sized_greatest ((s.dir).tree).head ((s.dir).verified).hashed.sized
      ∙ ap greatest_of (whole_of (opened_decoded (decoding_read (directory_key keys) s.dir)) s.entries s.reads).long

  same_block : audit.block ≡ (s.dir).block (index / 32)
  same_block =
      audit.dir_told files.dir_told ∙ ap (λ (l : List ℕ). block_in l (s.dir).tree (index / 32)) files.dir_reads
      ∙ sym ((held.dir).blocks (index / 32) (omega (arith, low, eight)))

  same_blocks : (k : ℕ) → k < ((read.tree).head).greatest → audit.blocks k ≡ read.block k
  same_blocks k lt =
      audit.object_told files.object_told k lt ∙ ap (λ (l : List ℕ). block_in l read.tree k) files.object_reads
      ∙ sym (inside.blocks k (omega (arith, lt, (read.verified).hashed.all)))

  pub audited_bytes : bytes ≡ certificate_bytes index (s.dir).tree ((s.dir).block (index / 32)) read.tree read.block
  audited_bytes =
      audit.is ∙ ap (λ (l : List ℕ). certificate_bytes index (s.dir).tree l read.tree audit.blocks) same_block
      ∙ ap (λ (l : List (List ℕ)). codes "TEECERT1" ++ (to_be_bytes w16 index ++ (tree_bytes (s.dir).tree ++ ((s.dir).block (index / 32) ++ (tree_bytes read.tree ++ joined l))))) (row_same audit.blocks read.block ((read.tree).head).greatest same_blocks)

pub audits_accepted : AuditsAreAccepted
audits_accepted keys block images s index e read c held current flags low at entry_current is obj_flags sound none_bad a b x y bytes files audit =
    ap (certificate_of keys block) (audited_bytes keys block images s index e read held low is a b x y bytes files audit)
    ∙ objects_certified keys block s index e read c current flags low at entry_current obj_flags sound none_bad
