-- What checking a certificate answers: what it says, or the first test that fails.
use Rattle.std.specs.Prelude.{◌≡◌, ℕ, zero, suc, ◌+◌, ◌*◌, ◌/◌, ◌%◌, ◌==◌, ◌&&◌, ◌||◌, not, nat_le, nat_lt, cond, min, Bool, List, [], length, take, get_or, codes, find, Option, Some, None, Result, Ok, Err}
use Rattle.std.specs.List.{range_with_len}
use Rattle.std.specs.Str.{bytes_eq}
use Rattle.byte_fields.specs.Field.{field}
use Rattle.disk_model.specs.Bytes.{AreBytes}
use Rattle.node_image.specs.declared.node.RootRef.{RootRef}
use Rattle.node_image.specs.declared.head.Head.{Head}
use Rattle.node_image.specs.Layout.{has_form, head_of}
use Rattle.node_image.specs.Tables.{at_node, hash_in}
use Rattle.hmac_keys.specs.declared.Keys.{Keys}
use Rattle.htree_file.specs.Opening.{Loaded, first_damaged}
use Rattle.page_bytes.specs.Pages.{bytes_from, page_at}
use Rattle.dir_records.specs.declared.entry.DirEntry.{DirEntry}
use Rattle.dir_records.specs.declared.entry.BadRecord.{BadRecord}
use Rattle.dir_records.specs.Form.{record_of}
use Rattle.dir_records.specs.Layout.{byte}
use Rattle.crash_core.specs.CardBlock.{old_format, root_in}
use Rattle.crash_core.specs.DeviceKeys.{directory_key, object_key}
use Rattle.crash_core.specs.MountedObject.{root_of}
use Rattle.crash_core.specs.Refusal.{Refusal}
use Rattle.crash_core.specs.Refusal.{NoStore as BlankBlock, CardBlock as BadBlock, NoDirectory}
use Rattle.core_laws.specs.Decodings.{Decoding, opened_decoded, page_decoded, tree_decoding}
use Rattle.image_audit.specs.declared.fault.CertFault.{CertFault}
use Rattle.image_audit.specs.declared.fault.CertFault.TheVariants.{NoStore, CardBlock, Form, Directory, Record, Free, Object, WrongSize}
use Rattle.image_audit.specs.declared.fault.ProofFault.{ProofFault}
use Rattle.image_audit.specs.declared.fault.ProofFault.TheVariants.{BadHead, Damaged, BadTag}
use Rattle.image_audit.specs.declared.fault.Listed.{Listed}
use Rattle.image_audit.specs.Certificate.{IsCertificate, directory_block, directory_tree, index_in, object_block, object_head, object_tree}

-- the one, and then the other
abbrev pub and_then : {A B E : Type 0} → Result A E → (A → Result B E) → Result B E
and_then (Ok a) f = f a
and_then (Err fault) f = Err fault

-- an answer whose faults are read otherwise
abbrev pub fault_as : {A E F : Type 0} → (E → F) → Result A E → Result A F
fault_as f (Ok a) = Ok a
fault_as f (Err fault) = Err (f fault)

abbrev pub some_or : {A E : Type 0} → Option A → E → Result A E
some_or (Some a) fault = Ok a
some_or None fault = Err fault

-- the card's block names no directory by itself, so that the last case does not come
abbrev pub card_fault : Refusal → CertFault
card_fault BlankBlock = NoStore
card_fault (BadBlock offset) = CardBlock offset
card_fault (NoDirectory fault) = NoStore

-- the reference that a block names; one of the old format is refused at its first byte
abbrev pub root_named : (block : List ℕ) → Result RootRef CertFault
root_named block = cond (get_or block 0 0 == old_format) (Err (CardBlock 0)) (fault_as card_fault (root_in block))

-- a byte of the part that each certificate has is missing, not the mark's, or the first of an index above 255
abbrev pub is_wrong : List ℕ → (at : ℕ) → Bool
is_wrong bytes at =
    nat_le (length bytes) at || ((nat_lt at 8 && not (get_or bytes at 0 == get_or (codes "TEECERT1") at 0)) || ((at == 8) && not (get_or bytes at 0 == 0)))

abbrev pub first_wrong : List ℕ → Option ℕ
first_wrong bytes = find (is_wrong bytes) (range_with_len 0 4698)

abbrev pub unless_wrong : Option ℕ → (index : ℕ) → Result ℕ CertFault
unless_wrong None index = Ok index
unless_wrong (Some at) index = Err (Form at)

-- the entry's index
abbrev pub front : List ℕ → Result ℕ CertFault
front bytes = unless_wrong (first_wrong bytes) (index_in bytes)

-- a head that has its form, or its numbers
abbrev pub head_test : (form : Bool) → Head → Result Head ProofFault
head_test form h = cond form (Ok h) (Err (BadHead h.length h.greatest))

abbrev pub unless_damaged : Loaded → Option ℕ → Result Loaded ProofFault
unless_damaged tree None = Ok tree
unless_damaged tree (Some n) = Err (Damaged n (at_node tree.nodes n).hash (hash_in tree.nodes tree.head n))

-- a tree whose nodes hash to the reference, or the first node that does not
abbrev pub nodes_test : RootRef → Loaded → Result Loaded ProofFault
nodes_test root tree =
    cond (bytes_eq (at_node tree.nodes 1).hash root.hash)
    (unless_damaged tree (first_damaged tree.head tree.nodes 1 (length tree.nodes)))
    (Err (Damaged 1 root.hash (at_node tree.nodes 1).hash))

abbrev pub bad_tag : Decoding → (k : ℕ) → ProofFault
bad_tag sp k = BadTag k (at_node sp.tree.nodes (k + 1)).tag

-- the page of a block, or its node's tag
abbrev pub page_test : Decoding → (k : ℕ) → Result (List ℕ) ProofFault
page_test sp k = some_or (page_decoded sp k) (bad_tag sp k)

-- the first bad one of so many blocks from block k on
unfoldable pub pages_test : Decoding → (k count : ℕ) → Result ℕ ProofFault
pages_test sp k zero = Ok k
pages_test sp k (suc count) = and_then (page_test sp k) (λ page. pages_test sp (k + 1) count)

abbrev pub directory_decoding : Keys → List ℕ → Decoding
directory_decoding keys bytes = tree_decoding (directory_key keys) (directory_block bytes) (directory_tree bytes)

-- a directory of 256 entries, in 32,768 bytes
abbrev pub is_directory_head : List ℕ → Bool
is_directory_head bytes = has_form bytes && ((head_of bytes).length == 32768)

-- the page of the entry's block
abbrev pub directory_page : Keys → RootRef → (bytes : List ℕ) → Result (List ℕ) ProofFault
directory_page keys root bytes =
    and_then (head_test (is_directory_head (field 10 32 bytes)) (head_of (field 10 32 bytes))) (λ _.
    and_then (nodes_test root (directory_tree bytes)) (λ _.
    page_test (directory_decoding keys bytes) (index_in bytes / 32)))

-- where a record is refused; the format is tested before the last byte
abbrev pub record_offset : (format offset : ℕ) → ℕ
record_offset format offset = cond ((format == old_format) && (offset == 127)) 122 offset

-- the entry of a record; one of the old format is refused
abbrev pub entry_or : (format : ℕ) → Result (Option DirEntry) BadRecord → Result DirEntry CertFault
entry_or format (Ok (Some e)) = cond (e.format == old_format) (Err (Record 122)) (Ok e)
entry_or format (Ok None) = Err Free
entry_or format (Err bad) = Err (Record (record_offset format bad.offset))

abbrev pub entry_in : (bytes : List ℕ) → Result DirEntry CertFault
entry_in bytes = entry_or (byte 122 bytes) (record_of bytes)

-- the length of a certificate with such an object
abbrev pub long_of : List ℕ → ℕ
long_of bytes = 4698 + 4162 * (object_head bytes).greatest

abbrev pub length_test : (bytes : List ℕ) → Result ℕ CertFault
length_test bytes = cond (length bytes == long_of bytes) (Ok (long_of bytes)) (Err (Form (min (length bytes) (long_of bytes))))

abbrev pub object_decoding : Keys → DirEntry → List ℕ → Decoding
object_decoding keys e bytes = tree_decoding (object_key keys e.app) (object_block bytes) (object_tree bytes)

abbrev pub size_test : DirEntry → Head → Result ℕ CertFault
size_test e h = cond (h.length == 4096 + e.size) (Ok e.size) (Err (WrongSize e.size h.length))

-- the object's tree, each of whose blocks is good
abbrev pub object_test : Keys → DirEntry → (bytes : List ℕ) → Result ℕ CertFault
object_test keys e bytes =
    and_then (fault_as Object (head_test (has_form (field 4666 32 bytes)) (object_head bytes))) (λ _.
    and_then (length_test bytes) (λ _.
    and_then (fault_as Object (nodes_test (root_of e) (object_tree bytes))) (λ _.
    and_then (fault_as Object (pages_test (object_decoding keys e bytes) 0 (object_head bytes).greatest)) (λ _.
    size_test e (object_head bytes)))))

abbrev pub front_page : Option (List ℕ) → List ℕ
front_page (Some page) = page
front_page None = []

abbrev pub listing : DirEntry → Decoding → Listed
listing e sp = record {
  app = e.app;
  id = e.id;
  attributes = take e.attributes (front_page (page_at (opened_decoded sp).pages 0));
  bytes = bytes_from (page_at (opened_decoded sp).pages) 4096 e.size;
}

abbrev pub object_listing : Keys → DirEntry → (bytes : List ℕ) → Result Listed CertFault
object_listing keys e bytes = and_then (object_test keys e bytes) (λ _. Ok (listing e (object_decoding keys e bytes)))

-- the entry of a certificate under a reference
abbrev pub entry_listed : Keys → RootRef → (bytes : List ℕ) → Result DirEntry CertFault
entry_listed keys root bytes =
    and_then (front bytes) (λ index.
    and_then (fault_as Directory (directory_page keys root bytes)) (λ page.
    entry_in (field (128 * (index % 32)) 128 page)))

-- what a certificate says under a card block, or the first test that fails
abbrev pub certificate_of : Keys → (block bytes : List ℕ) → Result Listed CertFault
certificate_of keys block bytes =
    and_then (root_named block) (λ root. and_then (entry_listed keys root bytes) (λ e. object_listing keys e bytes))

-- what is accepted is a certificate
abbrev pub AcceptedAreCertificates : Type 0
AcceptedAreCertificates = (keys : Keys) (block bytes : List ℕ) (l : Listed) → AreBytes bytes → certificate_of keys block bytes ≡ Ok l → IsCertificate keys block bytes l
