-- A tree that is cut from a certificate, and what its tests answer.
use Rattle.std.proofs.Common.{◌≡◌, ℕ, ◌+◌, ◌-◌, ◌*◌, ◌/◌, ◌<◌, ◌==◌, Bool, true, false, List, get_or, Option, Some, None, Result, Ok, Err, MatchResult, refl, sym, ap, ◌∙◌, arith}
use Rattle.std.proofs.lemmas.Bool.{cond-false, cond-true}
use Rattle.byte_fields.specs.Field.{field}
use Rattle.aes_block.specs.WrappedKey.{unwrapped_of}
use Rattle.node_image.specs.declared.node.NodeImage.{NodeImage}
use Rattle.node_image.specs.declared.node.RootRef.{RootRef}
use Rattle.node_image.specs.declared.head.Head.{Head}
use Rattle.node_image.specs.Layout.{has_form, head_of, node_of}
use Rattle.node_image.specs.Parts.Layout.{aligned}
use Rattle.node_image.specs.Selection.{row}
use Rattle.node_image.specs.Tables.{at_node, no_node}
use Rattle.hmac_keys.specs.declared.Keys.{Keys}
use Rattle.htree_file.specs.Opening.{Loaded}
use Rattle.htree_file.specs.Pages.{page_of}
use Rattle.dir_records.specs.declared.entry.DirEntry.{DirEntry}
use Rattle.crash_core.specs.DeviceKeys.{directory_key, object_key}
use Rattle.crash_core.specs.MountedObject.{root_of}
use Rattle.core_laws.specs.Decodings.{Decoding, page_decoded}
use Rattle.image_audit.specs.declared.fault.CertFault.{CertFault}
use Rattle.image_audit.specs.declared.fault.CertFault.TheVariants.{Object, WrongSize}
use Rattle.image_audit.specs.declared.fault.ProofFault.{ProofFault}
use Rattle.image_audit.specs.declared.fault.ProofFault.TheVariants.{BadHead, BadTag}
use Rattle.image_audit.specs.declared.fault.Listed.{Listed}
use Rattle.image_audit.specs.Certificate.{directory_block, directory_tree, index_in, object_head, object_tree}
use Rattle.image_audit.specs.Checking.{and_then, bad_tag, directory_decoding, directory_page, fault_as, head_test, is_directory_head, length_test, listing, long_of, nodes_test, object_decoding, object_listing, object_test, page_test, pages_test, size_test, some_or}
use Rattle.image_audit.specs.Contents.{current_tree, cut_pages, pages_answer}
use Rattle.image_audit.proofs.Answers.{test_ok, then_err, then_is}
use Rattle.image_audit.proofs.ContentPages.{pages_step}

-- a head that passed is the one that stands there
pub head_is : (form : Bool) (h x : Head) → Ok x ≡ head_test form h → x ≡ h
head_is form h x is = sym (test_ok form h x (BadHead h.length h.greatest) (sym is)).1

-- THE DIRECTORY
module _ (keys : Keys) (root : RootRef) (bytes : List ℕ) (h : Head) (nodes : List NodeImage)
    (passed : Ok h ≡ head_test (is_directory_head (field 10 32 bytes)) (head_of (field 10 32 bytes)))
    (read : nodes ≡ row (λ n. node_of (field (42 + 66 * n) 66 bytes)) 8) where
  dir_tree_is : ◌≡◌ {A = Loaded} (current_tree h nodes) (directory_tree bytes)
  dir_tree_is = λ i. record { head = head_is (is_directory_head (field 10 32 bytes)) (head_of (field 10 32 bytes)) h passed i; nodes = read i; layout = aligned }

  pub dir_nodes_err : (fault : ProofFault) → nodes_test root (current_tree h nodes) ≡ Err fault → directory_page keys root bytes ≡ Err fault
  dir_nodes_err fault is =
      then_is (head_test (is_directory_head (field 10 32 bytes)) (head_of (field 10 32 bytes))) _ h (Err fault) (sym passed)
      (then_err (nodes_test root (directory_tree bytes)) _ fault (ap (nodes_test root) (sym dir_tree_is) ∙ is))

  module _ (key : List ℕ) (index k : ℕ) (key_is : key ≡ unwrapped_of (directory_key keys) h.wrapped) (index_is : index ≡ index_in bytes) (k_is : k ≡ index / 32)
      (hashed : nodes_test root (current_tree h nodes) ≡ Ok (current_tree h nodes)) where
    abbrev cut : Decoding
    cut = record { key = key; tree = current_tree h nodes; block = directory_block bytes }

    cut_is : ◌≡◌ {A = Decoding} cut (directory_decoding keys bytes)
    cut_is = λ i. record { key = (key_is ∙ ap (λ (t : Loaded). unwrapped_of (directory_key keys) t.head.wrapped) dir_tree_is) i; tree = dir_tree_is i; block = directory_block bytes }

    behind : (answer : Result (List ℕ) ProofFault) → page_test cut k ≡ answer → directory_page keys root bytes ≡ answer
    behind answer is =
        then_is (head_test (is_directory_head (field 10 32 bytes)) (head_of (field 10 32 bytes))) _ h answer (sym passed)
        (then_is (nodes_test root (directory_tree bytes)) _ (current_tree h nodes) answer (ap (nodes_test root) (sym dir_tree_is) ∙ hashed)
        ((λ i. page_test (sym cut_is i) (sym (k_is ∙ ap (λ (n : ℕ). n / 32) index_is) i)) ∙ is))

    pub dir_page_ok : (page : List ℕ) → page_of key h (at_node nodes (k + 1)) k (field 570 4096 bytes) ≡ Some page → directory_page keys root bytes ≡ Ok page
    dir_page_ok page is = behind (Ok page) (ap (λ (o : Option (List ℕ)). some_or o (bad_tag cut k)) is)

    pub dir_page_err : (fault : ProofFault) → page_of key h (at_node nodes (k + 1)) k (field 570 4096 bytes) ≡ None
        → fault ≡ BadTag k (at_node nodes (k + 1)).tag → directory_page keys root bytes ≡ Err fault
    dir_page_err fault none is = behind (Err fault) (ap (λ (o : Option (List ℕ)). some_or o (bad_tag cut k)) none ∙ ap (λ (x : ProofFault). let r : Result (List ℕ) ProofFault = Err x in r) (sym is))

-- THE OBJECT'S PAGES
pub pages_bad : (sp : Decoding) (g k : ℕ) (fault : ProofFault) → k < g → pages_test sp 0 g ≡ pages_test sp k (g - k) → page_decoded sp k ≡ None → fault ≡ bad_tag sp k
    → fault_as Object (pages_test sp 0 g) ≡ Err (Object fault)
pages_bad sp g k fault lt so_far none is =
    ap (fault_as Object) (so_far ∙ pages_step sp k g lt
    ∙ then_err (page_test sp k) _ fault (ap (λ (o : Option (List ℕ)). some_or o (bad_tag sp k)) none ∙ ap (λ (x : ProofFault). let r : Result (List ℕ) ProofFault = Err x in r) (sym is)))

pub pages_good : (sp : Decoding) (g k : ℕ) (page : List ℕ) → k < g → pages_test sp 0 g ≡ pages_test sp k (g - k) → page_decoded sp k ≡ Some page → pages_test sp 0 g ≡ pages_test sp (k + 1) (g - (k + 1))
pages_good sp g k page lt so_far some =
    so_far ∙ pages_step sp k g lt ∙ ap (λ (o : Option (List ℕ)). and_then (some_or o (bad_tag sp k)) (λ x. pages_test sp (k + 1) (g - (k + 1)))) some

module _ (keys : Keys) (e : DirEntry) (bytes : List ℕ) (h : Head) (nodes : List NodeImage) (head_same : h ≡ object_head bytes)
    (read : nodes ≡ row (λ n. node_of (field (4698 + 66 * n) 66 bytes)) h.greatest) where
  object_tree_is : ◌≡◌ {A = Loaded} (current_tree h nodes) (object_tree bytes)
  object_tree_is =
      let same : nodes ≡ row (λ n. node_of (field (4698 + 66 * n) 66 bytes)) (object_head bytes).greatest = read ∙ ap (λ (x : Head). row (λ n. node_of (field (4698 + 66 * n) 66 bytes)) x.greatest) head_same in
      λ i. record { head = head_same i; nodes = same i; layout = aligned }

  module _ (key : List ℕ) (at : ℕ) (key_is : key ≡ unwrapped_of (object_key keys e.app) h.wrapped) (at_is : at ≡ 4698 + 66 * h.greatest)
      (hashed : nodes_test (root_of e) (current_tree h nodes) ≡ Ok (current_tree h nodes)) where
    pub object_cut_is : ◌≡◌ {A = Decoding} (cut_pages key h nodes bytes at) (object_decoding keys e bytes)
    object_cut_is =
        let place : at ≡ 4698 + 66 * (object_head bytes).greatest = at_is ∙ ap (λ (x : Head). 4698 + 66 * x.greatest) head_same in
        λ i. record { key = (key_is ∙ ap (λ (x : Head). unwrapped_of (object_key keys e.app) x.wrapped) head_same) i; tree = object_tree_is i; block = λ k. field (place i + 4096 * k) 4096 bytes }

    pub pages_behind : (answer : Result ℕ CertFault) → fault_as Object (pages_test (cut_pages key h nodes bytes at) 0 h.greatest) ≡ answer → pages_answer keys e bytes ≡ answer
    pages_behind answer is =
        then_is (fault_as Object (nodes_test (root_of e) (object_tree bytes))) _ (current_tree h nodes) answer (ap (λ (t : Loaded). fault_as Object (nodes_test (root_of e) t)) (sym object_tree_is) ∙ ap (fault_as Object) hashed)
        ((λ i. fault_as Object (pages_test (sym object_cut_is i) 0 (sym head_same i).greatest)) ∙ is)

-- THE OBJECT
module _ (keys : Keys) (e : DirEntry) (bytes : List ℕ) (h : Head) (passed : Ok h ≡ head_test (has_form (field 4666 32 bytes)) (head_of (field 4666 32 bytes))) where
  pub same_head : h ≡ object_head bytes
  same_head = head_is (has_form (field 4666 32 bytes)) (head_of (field 4666 32 bytes)) h passed

  abbrev said : ℕ → Result Listed CertFault
  said size = Ok (listing e (object_decoding keys e bytes))

  behind_head : (answer : Result ℕ CertFault) → and_then (length_test bytes) (λ _. and_then (fault_as Object (nodes_test (root_of e) (object_tree bytes))) (λ _.
      and_then (fault_as Object (pages_test (object_decoding keys e bytes) 0 (object_head bytes).greatest)) (λ _. size_test e (object_head bytes)))) ≡ answer → object_test keys e bytes ≡ answer
  behind_head answer is = then_is (fault_as Object (head_test (has_form (field 4666 32 bytes)) (object_head bytes))) _ h answer (ap (fault_as Object) (sym passed)) is

  module _ (long : length_test bytes ≡ Ok (long_of bytes)) where
    behind_length : (answer : Result ℕ CertFault) → and_then (fault_as Object (nodes_test (root_of e) (object_tree bytes))) (λ _.
        and_then (fault_as Object (pages_test (object_decoding keys e bytes) 0 (object_head bytes).greatest)) (λ _. size_test e (object_head bytes))) ≡ answer → object_test keys e bytes ≡ answer
    behind_length answer is = behind_head answer (then_is (length_test bytes) _ (long_of bytes) answer long is)

    -- the tests of nodes and pages, and then what follows
    parted : (a : Result Loaded CertFault) (b : Result ℕ CertFault) (size : Result ℕ CertFault) → and_then a (λ _. and_then b (λ _. size)) ≡ and_then (and_then a (λ _. b)) (λ _. size)
    parted (Ok t) b size = refl
    parted (Err fault) b size = refl

    behind_pages : (answer : Result ℕ CertFault) → and_then (pages_answer keys e bytes) (λ _. size_test e (object_head bytes)) ≡ answer → object_test keys e bytes ≡ answer
    behind_pages answer is =
        behind_length answer (parted (fault_as Object (nodes_test (root_of e) (object_tree bytes))) (fault_as Object (pages_test (object_decoding keys e bytes) 0 (object_head bytes).greatest)) (size_test e (object_head bytes)) ∙ is)

    pub list_pages_err : (fault : CertFault) → pages_answer keys e bytes ≡ Err fault → object_listing keys e bytes ≡ Err fault
    list_pages_err fault is = then_err (object_test keys e bytes) said fault (behind_pages (Err fault) (then_err (pages_answer keys e bytes) _ fault is))

    module _ (last : ℕ) (pages : pages_answer keys e bytes ≡ Ok last) where
      pub list_size_err : (h.length == 4096 + e.size) ≡ false → object_listing keys e bytes ≡ Err (WrongSize e.size h.length)
      list_size_err is =
          then_err (object_test keys e bytes) said (WrongSize e.size h.length)
          (behind_pages (Err (WrongSize e.size h.length)) (then_is (pages_answer keys e bytes) _ last (Err (WrongSize e.size h.length)) pages
          (ap (size_test e) (sym same_head) ∙ cond-false (h.length == 4096 + e.size) (Ok e.size) (Err (WrongSize e.size h.length)) is)))

      pub list_ok : (h.length == 4096 + e.size) ≡ true → object_listing keys e bytes ≡ Ok (listing e (object_decoding keys e bytes))
      list_ok is =
          then_is (object_test keys e bytes) said e.size (Ok (listing e (object_decoding keys e bytes)))
          (behind_pages (Ok e.size) (then_is (pages_answer keys e bytes) _ last (Ok e.size) pages
          (ap (size_test e) (sym same_head) ∙ cond-true (h.length == 4096 + e.size) (Ok e.size) (Err (WrongSize e.size h.length)) is))) refl

-- ONE BLOCK
module _ (key : List ℕ) (h : Head) (nodes : List NodeImage) (bytes : List ℕ) (at k : ℕ) (text : List ℕ) where
  here : get_or nodes k no_node ≡ at_node nodes (k + 1)
  here = ap (λ (j : ℕ). get_or nodes j no_node) (let e : k ≡ (k + 1) - 1 = omega arith in e)

  pub block_bad : (fault : ProofFault) → text ≡ field (at + 4096 * k) 4096 bytes → page_of key h (get_or nodes k no_node) k text ≡ None
      → fault ≡ BadTag k (get_or nodes k no_node).tag
      → (page_decoded (cut_pages key h nodes bytes at) k ≡ None) × (fault ≡ bad_tag (cut_pages key h nodes bytes at) k)
  block_bad fault is none bad =
      ((λ i. page_of key h (sym here i) k (sym is i)) ∙ none, bad ∙ (λ i. BadTag k (here i).tag))

  pub block_good : (page : List ℕ) → text ≡ field (at + 4096 * k) 4096 bytes → page_of key h (get_or nodes k no_node) k text ≡ Some page → page_decoded (cut_pages key h nodes bytes at) k ≡ Some page
  block_good page is some = (λ i. page_of key h (sym here i) k (sym is i)) ∙ some

-- what opening the directory's block answers
pub dir_answer : (keys : Keys) (root : RootRef) (bytes : List ℕ) (h : Head) (nodes : List NodeImage)
    → Ok h ≡ head_test (is_directory_head (field 10 32 bytes)) (head_of (field 10 32 bytes)) → nodes ≡ row (λ n. node_of (field (42 + 66 * n) 66 bytes)) 8
    → (key : List ℕ) (index k : ℕ) → key ≡ unwrapped_of (directory_key keys) h.wrapped → index ≡ index_in bytes → k ≡ index / 32 → nodes_test root (current_tree h nodes) ≡ Ok (current_tree h nodes)
    → (text page : List ℕ) → text ≡ field 570 4096 bytes → {A : Type 0} (r : Result A ProofFault)
    → MatchResult r (λ _. page_of key h (get_or nodes k no_node) k text ≡ Some page)
    (λ fault. (page_of key h (get_or nodes k no_node) k text ≡ None) × (fault ≡ BadTag k (get_or nodes k no_node).tag))
    → MatchResult r (λ _. directory_page keys root bytes ≡ Ok page) (λ fault. directory_page keys root bytes ≡ Err fault)
dir_answer keys root bytes h nodes passed read key index k key_is index_is k_is hashed text page is (Ok a) good =
    dir_page_ok keys root bytes h nodes passed read key index k key_is index_is k_is hashed page ((λ i. page_of key h (sym (here key h nodes bytes 0 k text) i) k (sym is i)) ∙ good)
dir_answer keys root bytes h nodes passed read key index k key_is index_is k_is hashed text page is (Err fault) bad =
    dir_page_err keys root bytes h nodes passed read key index k key_is index_is k_is hashed fault ((λ i. page_of key h (sym (here key h nodes bytes 0 k text) i) k (sym is i)) ∙ bad.0)
    (bad.1 ∙ (λ i. BadTag k (here key h nodes bytes 0 k text i).tag))
