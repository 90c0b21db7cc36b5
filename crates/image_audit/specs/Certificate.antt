-- A certificate: what shows that an object stands under the card's block 0.
use Rattle.std.specs.Prelude.{◌≡◌, ◌⊎◌, ℕ, ◌+◌, ◌*◌, ◌/◌, ◌%◌, ◌<◌, List, [], length, codes, true, Some, Ok}
use Rattle.std.specs.Int.{w16, from_be_bytes}
use Rattle.byte_fields.specs.Field.{field}
use Rattle.node_image.specs.declared.node.RootRef.{RootRef}
use Rattle.node_image.specs.declared.head.Head.{Head}
use Rattle.node_image.specs.Layout.{has_form, head_of, node_of}
use Rattle.node_image.specs.Selection.{row}
use Rattle.hmac_keys.specs.declared.Keys.{Keys}
use Rattle.node_image.specs.Parts.Layout.{aligned}
use Rattle.htree_file.specs.Opening.{IsVerified, Loaded}
use Rattle.store_model.specs.declared.name.ObjectName.{ObjectName}
use Rattle.store_model.specs.Object.{Object, ObjectMap, Sound, object_at}
use Rattle.dir_records.specs.declared.entry.DirEntry.{DirEntry}
use Rattle.dir_records.specs.Form.{record_of}
use Rattle.crash_core.specs.CardBlock.{root_in}
use Rattle.crash_core.specs.DeviceKeys.{directory_key, object_key}
use Rattle.crash_core.specs.Entries.{name_of}
use Rattle.crash_core.specs.EntryLists.{entry_at}
use Rattle.crash_core.specs.MountedObject.{root_of}
use Rattle.crash_core.specs.Mounting.{mounted}
use Rattle.crash_core.specs.Pictures.{Picture, block_zero}
use Rattle.core_laws.specs.Decodings.{object_decoded, page_decoded}
use Rattle.core_laws.specs.Clashes.{Clash}
use Rattle.freshness_laws.specs.Readings.{ReadTree, every_block, only_block, decoding_read}
use Rattle.freshness_laws.specs.Agreement.{ObjectsAgree}
use Rattle.freshness_laws.specs.SeenStores.{SeenStore, map_seen}
use Rattle.freshness_laws.specs.Pictures.{AreByteImages, IsSeenIn}
use Rattle.image_audit.specs.declared.fault.Listed.{Listed}

-- a head at one offset, and so many nodes at another; the tree is one of a file of the current format
abbrev pub tree_at : (bytes : List ℕ) → (head nodes count : ℕ) → Loaded
tree_at bytes head nodes count = record { head = head_of (field head 32 bytes); nodes = row (λ n. node_of (field (nodes + 66 * n) 66 bytes)) count; layout = aligned }

-- The parts: the mark 8, the entry's index 2, the directory's head 32 and its 8 nodes 528, the ciphertext of the entry's block of the
-- directory 4,096, the object's head 32, its g nodes 66 each, its g ciphertexts 4,096 each.
abbrev pub mark_in : List ℕ → List ℕ
mark_in bytes = field 0 8 bytes

abbrev pub index_in : List ℕ → ℕ
index_in bytes = from_be_bytes w16 (field 8 2 bytes)

abbrev pub directory_tree : List ℕ → Loaded
directory_tree bytes = tree_at bytes 10 42 8

abbrev pub directory_block : List ℕ → (k : ℕ) → List ℕ
directory_block bytes k = field 570 4096 bytes

abbrev pub object_head : List ℕ → Head
object_head bytes = head_of (field 4666 32 bytes)

abbrev pub object_tree : List ℕ → Loaded
object_tree bytes = tree_at bytes 4666 4698 (object_head bytes).greatest

abbrev pub object_block : List ℕ → (k : ℕ) → List ℕ
object_block bytes k = field (4698 + 66 * (object_head bytes).greatest + 4096 * k) 4096 bytes

abbrev pub name_listed : Listed → ObjectName
name_listed l = record { app = l.app; id = l.id }

-- it is an object with no bad block
abbrev pub object_listed : Listed → Object
object_listed l = Sound (record { attributes = l.attributes; bytes = l.bytes; bad = [] })

abbrev pub directory_held : {root : RootRef} → (bytes : List ℕ) → IsVerified root (directory_tree bytes) → ReadTree root
directory_held bytes verified = record { tree = directory_tree bytes; verified = verified; block = directory_block bytes }

abbrev pub object_held : {root : RootRef} → (bytes : List ℕ) → IsVerified root (object_tree bytes) → ReadTree root
object_held bytes verified = record { tree = object_tree bytes; verified = verified; block = object_block bytes }

-- The bytes are a certificate of this under the card's block: each test that they pass.
pub record IsCertificate (keys : Keys) (block bytes : List ℕ) (l : Listed) : Type 0 where
  pub root : RootRef
  pub page : List ℕ
  pub entry : DirEntry
  pub named : root_in block ≡ Ok root
  pub mark : mark_in bytes ≡ codes "TEECERT1"
  pub low : index_in bytes < 256
  pub long : length bytes ≡ 4698 + 4162 * (object_head bytes).greatest
  pub top : has_form (field 10 32 bytes) ≡ true
  pub directory : IsVerified root (directory_tree bytes)
  pub whole : (directory_tree bytes).head.length ≡ 32768
  pub page_is : page_decoded (decoding_read (directory_key keys) (directory_held bytes directory)) (index_in bytes / 32) ≡ Some page
  pub entry_is : record_of (field (128 * (index_in bytes % 32)) 128 page) ≡ Ok (Some entry)
  pub object_top : has_form (field 4666 32 bytes) ≡ true
  pub object : IsVerified (root_of entry) (object_tree bytes)
  pub size : (object_head bytes).length ≡ 4096 + entry.size
  pub name : name_listed l ≡ name_of entry
  pub holds : object_decoded entry.size entry.attributes (Some (decoding_read (object_key keys entry.app) (object_held bytes object))) ≡ object_listed l

-- The certificate's directory clashes with one that was read, at a node or at the one block that the certificate has.
abbrev pub ClashesAtDirectory : {keys : Keys} {block bytes : List ℕ} {l : Listed} → IsCertificate keys block bytes l → SeenStore keys block → Type 0
ClashesAtDirectory {keys = keys} {bytes = bytes} c s =
    Clash (only_block (index_in bytes / 32)) (decoding_read (directory_key keys) (directory_held bytes c.directory)) (decoding_read (directory_key keys) s.dir)

-- Its object clashes with the one of that entry.
pub record ClashesAtObject {keys : Keys} {block bytes : List ℕ} {l : Listed} (c : IsCertificate keys block bytes l) (s : SeenStore keys block) : Type 0 where
  pub at : entry_at s.entries (index_in bytes) ≡ Some c.entry
  pub read : ReadTree (root_of c.entry)
  pub is : s.trees c.entry ≡ Some read
  pub clash : Clash every_block (decoding_read (object_key keys (c.entry).app) (object_held bytes c.object)) (decoding_read (object_key keys (c.entry).app) read)

abbrev pub CertificateClash : {keys : Keys} {block bytes : List ℕ} {l : Listed} → IsCertificate keys block bytes l → SeenStore keys block → Type 0
CertificateClash c s = ClashesAtDirectory c s ⊎ ClashesAtObject c s

-- the map has the object of that name and size, and its good parts are those that are listed
pub record HasListed (l : Listed) (m : ObjectMap) : Type 0 where
  pub object : Object
  pub at : object_at m (name_listed l) ≡ Some object
  pub agrees : ObjectsAgree (object_listed l) object

-- What a certificate says holds in every store that was read under that block, or they clash.
abbrev pub CertificatesHoldInStores : Type 0
CertificatesHoldInStores =
    (keys : Keys) (block bytes : List ℕ) (l : Listed) (c : IsCertificate keys block bytes l) (s : SeenStore keys block)
    → HasListed l (map_seen s) ⊎ CertificateClash c s

-- a certificate clashes with a picture
pub record ClashesWithPicture {keys : Keys} {block bytes : List ℕ} {l : Listed} (c : IsCertificate keys block bytes l) (images : ℕ → List ℕ) : Type 0 where
  pub seen : SeenStore keys block
  pub held : IsSeenIn images seen
  pub clash : CertificateClash c seen

-- And in every picture with that block that mounts.
abbrev pub CertificatesHold : Type 0
CertificatesHold =
    (keys : Keys) (block bytes : List ℕ) (l : Listed) (c : IsCertificate keys block bytes l) (picture : Picture) (m : ObjectMap)
    → AreByteImages picture.images → block_zero picture.card ≡ block → mounted keys picture ≡ Ok m → HasListed l m ⊎ ClashesWithPicture c picture.images
