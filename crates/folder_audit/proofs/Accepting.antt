-- What is made of a whole object, whose files can be followed, is accepted.
use Rattle.std.proofs.Common.{◌≡◌, ◌∙◌, ◌+◌, ◌<◌, ◌==◌, ◌^◌, ℕ, cond, List, [], length, drop, Option, Some, None, Result, Ok, refl, sym, ap, subst, inl, inr, arith}
use Rattle.std.specs.Int.{w16, from_be_bytes}
use Rattle.std.proofs.lemmas.Bool.{cases_eq, cond-false, cond-true, eq-eqb, ne_eqb}
use Rattle.aes_block.specs.WrappedKey.{unwrapped_of}
use Rattle.byte_fields.specs.Field.{field}
use Rattle.disk_model.specs.Bytes.{AreBytes}
use Rattle.disk_model.specs.State.{FileState}
use Rattle.node_image.specs.declared.node.NodeImage.{NodeImage}
use Rattle.node_image.specs.declared.node.RootRef.{RootRef}
use Rattle.node_image.specs.Layout.{greatest_of, node_of}
use Rattle.node_image.specs.Parts.{layout_of, start}
use Rattle.node_image.specs.Parts.Part.{node}
use Rattle.node_image.specs.References.{current_format}
use Rattle.node_image.specs.Selection.{part_in, row}
use Rattle.node_image.specs.Tables.{at_node, node_version}
use Rattle.node_image.proofs.Matching.{row_same}
use Rattle.hmac_keys.specs.declared.Keys.{Keys}
use Rattle.tee_types.specs.Limits.{directory_file, old_directory_file}
use Rattle.tee_types.proofs.FileNumbers.{object_not_directory}
use Rattle.htree_file.specs.declared.fault.TreeFault.{TreeFault}
use Rattle.htree_file.specs.Opening.{Loaded, load_of}
use Rattle.htree_file.specs.Pages.{opened_in, page_in, page_of}
use Rattle.htree_file.specs.Standing.{Told}
use Rattle.htree_file.proofs.ByteLists.{bytes-drop, bytes-take, part-bytes}
use Rattle.htree_file.proofs.Loadings.{loaded_from}
use Rattle.htree_file.proofs.Sizes.{sized_greatest}
use Rattle.store_model.specs.Object.{Contents, Sound}
use Rattle.dir_records.specs.declared.entry.DirEntry.{DirEntry}
use Rattle.dir_records.specs.Form.{HasForm}
use Rattle.crash_core.specs.CardBlock.{directory_at, old_format}
use Rattle.crash_core.specs.DeviceKeys.{directory_key, object_key}
use Rattle.crash_core.specs.Directory.{directory_of}
use Rattle.crash_core.specs.EntryLists.{entry_at}
use Rattle.crash_core.specs.MountedObject.{mounted_object, object_of, object_or_damaged, root_of}
use Rattle.crash_core.specs.Mounting.{directory_by, unless_fault}
use Rattle.core_laws.specs.Clashes.{HaveFlags}
use Rattle.core_laws.specs.Decodings.{opened_decoded, page_decoded}
use Rattle.freshness_laws.specs.Pictures.{AreByteImages, HoldsStore, IsReadIn, IsReadOrNone}
use Rattle.freshness_laws.specs.Readings.{ReadTree, decoding_read}
use Rattle.freshness_laws.specs.SeenStores.{object_read}
use Rattle.freshness_laws.proofs.Objects.{whole_of}
use Rattle.freshness_laws.proofs.Pictures.{by_root}
use Rattle.image_audit.specs.Audited.{IsAudit}
use Rattle.image_audit.specs.Checking.{certificate_of}
use Rattle.image_audit.proofs.Accepted.{audits_accepted}
use Rattle.folder_audit.specs.Findings.{IsMountedDirectory}

-- THE FLAGS OF A TREE THAT LOADS
two_bytes : (bs : List ℕ) → AreBytes bs → from_be_bytes w16 bs < 2 ^ 16
two_bytes bs small = omega (arith, small 0, small 1)

flags_small : (bytes : List ℕ) → AreBytes (field 64 2 bytes) → (node_of bytes).flags < 2 ^ 16
unfolding node_of
flags_small bytes are = two_bytes (field 64 2 bytes) are

pub loaded_flags : (image : List ℕ) (root : RootRef) (tree : Loaded) → AreBytes image → load_of image root ≡ Ok tree → HaveFlags tree
loaded_flags image root tree bytes is n one low =
    let l = loaded_from image root tree is in
    let part : List ℕ = part_in (layout_of root.format) image (node n (node_version tree.nodes root.version n)) in
    subst (λ (x : NodeImage). x.flags < 2 ^ 16) (l.matches n one low)
    (flags_small part (bytes-take 2 (drop 64 part) (bytes-drop 64 part (part-bytes image (start (layout_of root.format) (node n (node_version tree.nodes root.version n))) 66 bytes))))

-- A TREE THAT IS READ IN AN IMAGE
pub record HasRead (image : List ℕ) (root : RootRef) (o : Option (ReadTree root)) (tree : Loaded) : Type 0 where
  pub read : ReadTree root
  pub is : o ≡ Some read
  pub held : IsReadIn image root read
  pub tree_is : read.tree ≡ tree

pub has_read : (image : List ℕ) (root : RootRef) (o : Option (ReadTree root)) (tree : Loaded) → IsReadOrNone image root o → load_of image root ≡ Ok tree → HasRead image root o tree
has_read image root (Some read) tree held loads = record { read = read; is = refl; held = held; tree_is = cc (sym held.loads ∙ loads) }
has_read image root None tree held loads = absurd (cc (sym held.1 ∙ loads))

-- what it decodes out is what is mounted
pub read_object : (image : List ℕ) (keys : Keys) (e : DirEntry) (read : ReadTree (root_of e)) → IsReadIn image (root_of e) read
    → object_read keys e (Some read) ≡ mounted_object (object_key keys e.app) image e
read_object image keys e read held =
    let key : List ℕ = object_key keys e.app in
    let tree : Loaded = read.tree in
    let same : row (page_decoded (decoding_read key read)) (length tree.nodes) ≡ row (page_in image (unwrapped_of key tree.head.wrapped) tree) (length tree.nodes) =
    row_same (page_decoded (decoding_read key read)) (page_in image (unwrapped_of key tree.head.wrapped) tree) (length tree.nodes)
    (λ k lt. ap (page_of (unwrapped_of key tree.head.wrapped) tree.head (at_node tree.nodes (k + 1)) k) (held.blocks k lt)) in
    ap (λ (l : List (Option (List ℕ))). object_of e.size e.attributes (record { bytes = tree.head.length; pages = l })) same
    ∙ sym (ap (λ (r : Result Loaded TreeFault). object_or_damaged e.size e.attributes (opened_in image key r)) held.loads)

-- WHAT IS MADE OF A WHOLE OBJECT
module _ (keys : Keys) (block : List ℕ) (tree object : Loaded) (entries : List (Option DirEntry)) (index : ℕ) (e : DirEntry) (a b x y : FileState)
    (dir_bytes : AreBytes b.reads) (bytes : AreBytes y.reads) (form : HasForm e) (mounted : IsMountedDirectory keys block b.reads tree entries) (at : entry_at entries index ≡ Some e) where
  -- the directory's file reads as that, and each other as the object's
  abbrev images : ℕ → List ℕ
  images = λ file. cond (file == directory_file) b.reads y.reads

  are : AreByteImages images
  are file = elim (cases_eq file directory_file) [
    | inl same ↦ subst (λ (l : List ℕ). AreBytes l) (sym (cond-true (file == directory_file) b.reads y.reads (eq-eqb file directory_file same))) dir_bytes
    | inr other ↦ subst (λ (l : List ℕ). AreBytes l) (sym (cond-false (file == directory_file) b.reads y.reads (ne_eqb file directory_file other))) bytes
  ]

  at_directory : (format : ℕ) → format ≡ current_format → images (directory_at format) ≡ b.reads
  at_directory format current =
      let place : directory_at format ≡ directory_file = cond-false (format == old_format) old_directory_file directory_file (ne_eqb format old_format (λ old. absurd (omega (arith, old, current)))) in
      ap images place ∙ cond-true (directory_file == directory_file) b.reads y.reads (eq-eqb directory_file directory_file refl)

  at_object : images e.file ≡ y.reads
  at_object = cond-false (e.file == directory_file) b.reads y.reads (ne_eqb e.file directory_file (object_not_directory e.file form.file.0 form.file.1))

  named : directory_by keys images (Ok mounted.root) ≡ Ok entries
  named = ap unless_fault (ap (λ (l : List ℕ). directory_of (directory_key keys) l mounted.root) (at_directory (mounted.root).format mounted.current) ∙ mounted.directory)

  store : HoldsStore keys block images entries
  store = by_root keys images are block entries (Ok mounted.root) mounted.named named

  same_root : (store.seen).root ≡ mounted.root
  same_root = cc (sym (store.seen).named ∙ mounted.named)

  seen_current : ((store.seen).root).format ≡ current_format
  seen_current = ap (λ (r : RootRef). r.format) same_root ∙ mounted.current

  seen_loads : load_of b.reads (store.seen).root ≡ Ok ((store.seen).dir).tree
  seen_loads = ap (λ (l : List ℕ). load_of l (store.seen).root) (sym (at_directory ((store.seen).root).format seen_current)) ∙ (store.held).dir.loads

  same_tree : tree ≡ ((store.seen).dir).tree
  same_tree = cc (sym mounted.loads ∙ ap (load_of b.reads) (sym same_root) ∙ seen_loads)

  -- the directory's tree has eight blocks
  pub eight : tree.head.greatest ≡ 8
  eight =
      let read = (store.seen).dir in
      ap (λ (t : Loaded). t.head.greatest) same_tree ∙ sized_greatest (read.tree).head (read.verified).hashed.sized
      ∙ ap greatest_of (whole_of (opened_decoded (decoding_read (directory_key keys) read)) (store.seen).entries (store.seen).reads).long

  module _ (loads : load_of y.reads (root_of e) ≡ Ok object) (low : index < 256) (current : e.format ≡ current_format) (told_dir : Told a b) (told : Told x y)
      (certificate : List ℕ) (audit : IsAudit index tree object a b x y certificate) (c : Contents) (sound : mounted_object (object_key keys e.app) y.reads e ≡ Sound c) (none : c.bad ≡ []) where
    read : HasRead (images e.file) (root_of e) ((store.seen).trees e) object
    read = has_read (images e.file) (root_of e) ((store.seen).trees e) object ((store.held).trees e) (ap (λ (l : List ℕ). load_of l (root_of e)) at_object ∙ loads)

    pub accepted : certificate_of keys block certificate ≡ Ok (record { app = e.app; id = e.id; attributes = c.attributes; bytes = c.bytes })
    accepted =
        let s = store.seen in
        let r = read.read in
        audits_accepted keys block images s index e r c store.held seen_current
        (subst HaveFlags same_tree (loaded_flags b.reads mounted.root tree dir_bytes mounted.loads)) low
        (ap (λ (l : List (Option DirEntry)). entry_at l index) store.entries_are ∙ at) current read.is
        (subst HaveFlags (sym read.tree_is) (loaded_flags y.reads (root_of e) object bytes loads))
        (read_object (images e.file) keys e r read.held ∙ ap (λ (l : List ℕ). mounted_object (object_key keys e.app) l e) at_object ∙ sound) none
        a b x y certificate
        (record { dir_told = told_dir; dir_reads = sym (at_directory (s.root).format seen_current); object_told = told; object_reads = sym at_object })
        (subst (λ (t : Loaded). IsAudit index t r.tree a b x y certificate) same_tree (subst (λ (t : Loaded). IsAudit index tree t a b x y certificate) (sym read.tree_is) audit))
