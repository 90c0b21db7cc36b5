-- The pages of a tree that stands in a certificate, one after the other.
use Rattle.std.specs.Prelude.{◌≡◌, ◌⊎◌, ℕ, ◌+◌, ◌*◌, ◌<◌, List, length, take, Some, Result, Err}
use Rattle.byte_fields.specs.Field.{field}
use Rattle.node_image.specs.declared.node.NodeImage.{NodeImage}
use Rattle.node_image.specs.declared.head.Head.{Head}
use Rattle.node_image.specs.Parts.Layout.{aligned}
use Rattle.htree_file.specs.Opening.{Loaded}
use Rattle.dir_records.specs.declared.entry.DirEntry.{DirEntry}
use Rattle.hmac_keys.specs.declared.Keys.{Keys}
use Rattle.crash_core.specs.MountedObject.{root_of}
use Rattle.core_laws.specs.Decodings.{Decoding, page_decoded}
use Rattle.image_audit.specs.declared.fault.CertFault.{CertFault}
use Rattle.image_audit.specs.declared.fault.CertFault.TheVariants.{NoMemory, Object}
use Rattle.image_audit.specs.declared.fault.Listed.{Listed}
use Rattle.image_audit.specs.Certificate.{object_head, object_tree}
use Rattle.image_audit.specs.Checking.{and_then, fault_as, nodes_test, object_decoding, pages_test}

-- a tree in a file of the current format
abbrev pub current_tree : Head → List NodeImage → Loaded
current_tree head nodes = record { head = head; nodes = nodes; layout = aligned }

-- a tree whose ciphertexts stand from a place on
abbrev pub cut_pages : (key : List ℕ) → Head → List NodeImage → (bytes : List ℕ) → (at : ℕ) → Decoding
cut_pages key head nodes bytes at =
    record { key = key; tree = current_tree head nodes; block = λ k. field (at + 4096 * k) 4096 bytes }

-- each of the first pages is good, and stands at its place
pub record HoldsPages (sp : Decoding) (content : List ℕ) (count : ℕ) : Type 0 where
  pub long : length content ≡ 4096 * count
  pub each : (k : ℕ) → k < count → page_decoded sp k ≡ Some (field (4096 * k) 4096 content)

-- whether the object's nodes hash to an entry's reference, and each of its blocks is good
abbrev pub pages_answer : Keys → DirEntry → (bytes : List ℕ) → Result ℕ CertFault
pages_answer keys e bytes =
    and_then (fault_as Object (nodes_test (root_of e) (object_tree bytes))) (λ _.
    fault_as Object (pages_test (object_decoding keys e bytes) 0 (object_head bytes).greatest))

-- what the pages of an entry's object say: the data begin with block 1
abbrev pub listed_in : DirEntry → (content : List ℕ) → Listed
listed_in e content = record { app = e.app; id = e.id; attributes = take e.attributes content; bytes = field 4096 e.size content }

-- an answer is that one, or want of memory
abbrev pub Answers : {A : Type 0} → (wanted result : Result A CertFault) → Type 0
Answers wanted result = (result ≡ Err NoMemory) ⊎ (result ≡ wanted)
