-- What is accepted is a certificate.
use Rattle.std.proofs.Common.{◌≡◌, inl, inr, ℕ, zero, suc, ◌+◌, ◌-◌, ◌*◌, ◌/◌, ◌%◌, ◌<◌, ◌≤◌, ◌==◌, ◌&&◌, ◌||◌, not, Bool, true, false, cond, leb, ltb, List, [], length, take, drop, get_or, codes, Option, Some, None, Result, Ok, Err, refl, sym, ap, subst, ◌∙◌, arith}
use Rattle.std.specs.Prelude.{find}
use Rattle.std.specs.List.{list_all, range_with_len}
use Rattle.std.specs.Option.{is_none}
use Rattle.std.specs.Str.{bytes_eq}
use Rattle.std.proofs.lemmas.Bool.{and_parts, cases_lt, eqb-true, lt-ltb}
use Rattle.std.proofs.lemmas.List.{ext_get_or, get_or-drop, get_or-take}
use Rattle.byte_fields.specs.Field.{field}
use Rattle.byte_fields.proofs.Fields.{length-field, field_byte}
use Rattle.disk_model.specs.Bytes.{AreBytes}
use Rattle.node_image.specs.declared.node.RootRef.{RootRef}
use Rattle.node_image.specs.declared.head.Head.{Head}
use Rattle.node_image.specs.Layout.{greatest_of, has_form, head_of, is_sized, node_of}
use Rattle.node_image.specs.Parts.{layout_of}
use Rattle.node_image.specs.Parts.Layout.{aligned}
use Rattle.node_image.specs.Tables.{at_node, no_node}
use Rattle.node_image.specs.Selection.{row}
use Rattle.node_image.proofs.Matching.{length-row, row_at}
use Rattle.hmac_keys.specs.declared.Keys.{Keys}
use Rattle.htree_file.specs.Opening.{HasFields, HasWidth, HaveFields, IsVerified, Loaded, first_damaged}
use Rattle.htree_file.proofs.Damage.{none_damaged}
use Rattle.htree_file.proofs.SameBytes.{same_is}
use Rattle.htree_file.proofs.Sizes.{form_sized, head_width, node_width, sized_few, sized_greatest}
use Rattle.page_bytes.specs.Pages.{bytes_from, page_at}
use Rattle.store_model.specs.Object.{Sound, Damaged}
use Rattle.dir_records.specs.declared.entry.DirEntry.{DirEntry}
use Rattle.dir_records.specs.declared.entry.BadRecord.{BadRecord}
use Rattle.dir_records.specs.Form.{record_of}
use Rattle.dir_records.specs.Layout.{byte}
use Rattle.crash_core.specs.CardBlock.{first_outside, old_format, root_in, root_or}
use Rattle.crash_core.specs.MountedObject.{bad_blocks, object_of, object_with, root_of}
use Rattle.crash_core.specs.Refusal.{NoStore}
use Rattle.crash_core.proofs.BadBlocks.{filter-none}
use Rattle.core_laws.specs.Decodings.{Decoding, opened_decoded, page_decoded}
use Rattle.image_audit.specs.declared.fault.CertFault.{CertFault}
use Rattle.image_audit.specs.declared.fault.CertFault.TheVariants.{CardBlock, Directory, Object, Record, WrongSize}
use Rattle.image_audit.specs.declared.fault.ProofFault.{ProofFault}
use Rattle.image_audit.specs.declared.fault.ProofFault.TheVariants.{BadHead, Damaged as DamagedNode}
use Rattle.image_audit.specs.declared.fault.Listed.{Listed}
use Rattle.image_audit.specs.Certificate.{directory_tree, index_in, mark_in, name_listed, object_head, object_tree}
use Rattle.image_audit.specs.Checking.{AcceptedAreCertificates, and_then, bad_tag, card_fault, directory_decoding, directory_page, entry_in, entry_listed, entry_or, fault_as, first_wrong, front, front_page, head_test, is_directory_head, is_wrong, length_test, listing, long_of, nodes_test, object_decoding, object_listing, object_test, page_test, pages_test, root_named, size_test, unless_damaged, unless_wrong}
use Rattle.image_audit.proofs.Answers.{as_ok, some_ok, test_not, test_ok, then_ok}

undamaged_ok : (tree : Loaded) (o : Option ℕ) (t : Loaded) → unless_damaged tree o ≡ Ok t → o ≡ None
undamaged_ok tree None t is = refl
undamaged_ok tree (Some n) t is = absurd (cc (is))

stays_aligned : (format : ℕ) → (format == 1) ≡ false → aligned ≡ layout_of format
stays_aligned format is = sym (grind (arith, is))

-- head and nodes that pass the tests are verified
tested_verified : (tree : Loaded) (root : RootRef) (t : Loaded) → nodes_test root tree ≡ Ok t → is_sized tree.head ≡ true → length tree.nodes ≡ tree.head.greatest → tree.layout ≡ layout_of root.format
    → HasWidth 16 tree.head.wrapped → HaveFields tree.nodes → IsVerified root tree
tested_verified tree root t is sized all stands wrapped fields =
    let root_is : (bytes_eq (at_node tree.nodes 1).hash root.hash ≡ true) × (unless_damaged tree (first_damaged tree.head tree.nodes 1 (length tree.nodes)) ≡ Ok t) =
    by_cond (bytes_eq (at_node tree.nodes 1).hash root.hash) (unless_damaged tree (first_damaged tree.head tree.nodes 1 (length tree.nodes))) (DamagedNode 1 root.hash (at_node tree.nodes 1).hash) is in
    record {
      hashed = record {
        sized = sized;
        all = all;
        stands = stands;
        root_hash = same_is (at_node tree.nodes 1).hash root.hash root_is.0;
        hashes = λ n least most. none_damaged tree.head tree.nodes 1 (length tree.nodes) (undamaged_ok tree (first_damaged tree.head tree.nodes 1 (length tree.nodes)) t root_is.1) n least (omega (arith, most));
      };
      wrapped = wrapped;
      fields = fields;
    }
  where
    by_cond : (b : Bool) (r : Result Loaded ProofFault) (fault : ProofFault) → cond b r (Err fault) ≡ Ok t → (b ≡ true) × (r ≡ Ok t)
    by_cond true r fault e = (refl, e)
    by_cond false r fault e = absurd (cc (e))

field_bytes : (bytes : List ℕ) (at width : ℕ) → AreBytes bytes → at + width ≤ length bytes → AreBytes (field at width bytes)
field_bytes bytes at width each fits = field_byte bytes at width fits each

-- nodes that lie within the bytes have the widths of their fields
row_fields : (bytes : List ℕ) (offset count : ℕ) → AreBytes bytes → offset + 66 * count ≤ length bytes → HaveFields (row (λ n. node_of (field (offset + 66 * n) 66 bytes)) count)
row_fields bytes offset count each fits n least most =
    let within : n ≤ count = omega (arith, most, length-row (λ n. node_of (field (offset + 66 * n) 66 bytes)) count) in
    subst HasFields (sym (row_at (λ n. node_of (field (offset + 66 * n) 66 bytes)) count (n - 1) no_node (omega arith)))
    (node_width (field (offset + 66 * (n - 1)) 66 bytes) (field_bytes bytes (offset + 66 * (n - 1)) 66 each (omega arith)) (length-field bytes (offset + 66 * (n - 1)) 66 (omega arith)))

-- each page that passed is there
pub pages_ok : (r : Decoding) (k count last : ℕ) → pages_test r k count ≡ Ok last → (j : ℕ) → k ≤ j → j < k + count → page_decoded r j ≡ None → ⊥
unfolding pages_test
pages_ok r k zero last is j from upto none = absurd (omega arith)
pages_ok r k (suc count) last is j from upto none =
    let one = then_ok (page_test r k) (λ page. pages_test r (k + 1) count) last is in
    let here : page_decoded r k ≡ Some one.0 = some_ok (page_decoded r k) (bad_tag r k) one.0 one.1 in
    elim (cases_lt k j) [
      | inl later ↦ pages_ok r (k + 1) count last one.2 j (omega arith) (omega arith) none
      | inr first ↦ let e : k ≡ j = omega arith in absurd (cc (here, ap (page_decoded r) e, none))
    ]

front_some : (x : Option (List ℕ)) → (x ≡ None → ⊥) → x ≡ Some (front_page x)
front_some (Some page) some = refl
front_some None some = absurd (some refl)

not_none : (x : Option (List ℕ)) → (x ≡ None → ⊥) → is_none x ≡ false
not_none (Some page) some = refl
not_none None some = absurd (some refl)

eqb-self : (k : ℕ) → (k == k) ≡ true
eqb-self k = grind arith

-- an object all of whose pages are there is sound, with no bad block
module _ (r : Decoding) (size attributes : ℕ) (long : r.tree.head.length ≡ 4096 + size) (some : 1 ≤ length r.tree.nodes)
    (each : (k : ℕ) → k < length r.tree.nodes → page_decoded r k ≡ None → ⊥) where
  at_page : (k : ℕ) → k < length r.tree.nodes → page_at (opened_decoded r).pages k ≡ None → ⊥
  at_page k lt none = each k lt (sym (row_at (page_decoded r) (length r.tree.nodes) k None lt) ∙ none)

  none_bad : bad_blocks (opened_decoded r).pages ≡ []
  none_bad = filter-none (λ k. is_none (page_at (opened_decoded r).pages k)) 1 (length (opened_decoded r).pages - 1)
      (λ k from upto. not_none (page_at (opened_decoded r).pages k) (at_page k (omega (arith, from, upto, some, length-row (page_decoded r) (length r.tree.nodes)))))

  pub sound_object : object_of size attributes (opened_decoded r)
      ≡ Sound (record { attributes = take attributes (front_page (page_at (opened_decoded r).pages 0)); bytes = bytes_from (page_at (opened_decoded r).pages) 4096 size; bad = [] })
  sound_object =
      ap (λ (n : ℕ). cond (n == 4096 + size) (object_with size attributes (opened_decoded r).pages (page_at (opened_decoded r).pages 0)) (Damaged size)) long
      ∙ ap (λ (b : Bool). cond b (object_with size attributes (opened_decoded r).pages (page_at (opened_decoded r).pages 0)) (Damaged size)) (eqb-self (4096 + size))
      ∙ ap (object_with size attributes (opened_decoded r).pages) (front_some (page_at (opened_decoded r).pages 0) (at_page 0 (omega (arith, some))))
      ∙ ap (λ (bad : List ℕ). Sound (record { attributes = take attributes (front_page (page_at (opened_decoded r).pages 0)); bytes = bytes_from (page_at (opened_decoded r).pages) 4096 size; bad = bad })) none_bad

entry_ok : (format : ℕ) (r : Result (Option DirEntry) BadRecord) (e : DirEntry) → entry_or format r ≡ Ok e → (r ≡ Ok (Some e)) × ((e.format == old_format) ≡ false)
entry_ok format (Ok (Some x)) e is =
    let two = test_not (x.format == old_format) (Ok x) e (Record 122) is in
    let same : x ≡ e = cc (two.1) in
    (ap (λ y. Ok (Some y)) same, ap (λ (y : DirEntry). y.format == old_format) (sym same) ∙ two.0)
entry_ok format (Ok None) e is = absurd (cc (is))
entry_ok format (Err bad) e is = absurd (cc (is))

-- THE FRONT
first_not : (b : Bool) (from : ℕ) (rest : Option ℕ) → cond b (Some from) rest ≡ None → (b ≡ false) × (rest ≡ None)
first_not true from rest is = absurd (cc (is))
first_not false from rest is = (refl, is)

find_none : (p : ℕ → Bool) (from count : ℕ) → find p (range_with_len from count) ≡ None → (k : ℕ) → from ≤ k → k < from + count → p k ≡ false
find_none p from zero is k least most = absurd (omega arith)
find_none p from (suc count) is k least most =
    let two = first_not (p from) from (find p (range_with_len (from + 1) count)) is in
    elim (cases_lt from k) [
      | inl later ↦ find_none p (from + 1) count two.1 k (omega arith) (omega arith)
      | inr first ↦ let same : k ≡ from = omega arith in ap p same ∙ two.0
    ]

no_wrong : (o : Option ℕ) (index i : ℕ) → unless_wrong o index ≡ Ok i → (o ≡ None) × (index ≡ i)
no_wrong None index i is = (refl, cc (is))
no_wrong (Some at) index i is = absurd (cc (is))

or_false : (a b : Bool) → (a || b) ≡ false → (a ≡ false) × (b ≡ false)
or_false true b is = absurd (cc (is))
or_false false b is = (refl, is)

and_false : (b : Bool) → (true && not b) ≡ false → b ≡ true
and_false true is = refl
and_false false is = absurd (cc (is))

long_enough : (n at : ℕ) → leb n at ≡ false → at < n
long_enough n at is = grind (arith, is)

module _ (bytes : List ℕ) (each : AreBytes bytes) (none : first_wrong bytes ≡ None) where
  right : (at : ℕ) → at < 4698 → is_wrong bytes at ≡ false
  right at lt = find_none (is_wrong bytes) 0 4698 none at (omega arith) (omega arith)

  there : (at : ℕ) → at < 4698 → at < length bytes
  there at lt = long_enough (length bytes) at (or_false (leb (length bytes) at) _ (right at lt)).0

  pub fixed : 4698 ≤ length bytes
  fixed = let last = there 4697 (omega arith) in omega arith

  mark_at : (at : ℕ) → at < 8 → get_or bytes at 0 ≡ get_or (codes "TEECERT1") at 0
  mark_at at lt =
      let rest = (or_false (leb (length bytes) at) _ (right at (omega arith))).1 in
      let one = (or_false (ltb at 8 && not (get_or bytes at 0 == get_or (codes "TEECERT1") at 0)) _ rest).0 in
      let below : ltb at 8 ≡ true = lt-ltb at 8 lt in
      eqb-true (get_or bytes at 0) (get_or (codes "TEECERT1") at 0) (and_false (get_or bytes at 0 == get_or (codes "TEECERT1") at 0) (subst (λ (b : Bool). (b && not (get_or bytes at 0 == get_or (codes "TEECERT1") at 0)) ≡ false) below one))

  high_zero : get_or bytes 8 0 ≡ 0
  high_zero =
      let rest = (or_false (leb (length bytes) 8) _ (right 8 (omega arith))).1 in
      let one = (or_false (ltb 8 8 && not (get_or bytes 8 0 == get_or (codes "TEECERT1") 8 0)) _ rest).1 in
      eqb-true (get_or bytes 8 0) 0 (and_false (get_or bytes 8 0 == 0) one)

  pub mark : mark_in bytes ≡ codes "TEECERT1"
  mark = ext_get_or 0 (field 0 8 bytes) (codes "TEECERT1") (length-field bytes 0 8 (omega (arith, fixed)))
      (λ i lt. let low : i < 8 = omega (arith, lt, length-field bytes 0 8 (omega (arith, fixed))) in get_or-take 8 (drop 0 bytes) i 0 low ∙ mark_at i low)

  pub index_low : index_in bytes < 256
  index_low =
      let first : get_or (field 8 2 bytes) 0 0 ≡ 0 = get_or-take 2 (drop 8 bytes) 0 0 (omega arith) ∙ get_or-drop 8 bytes 0 0 ∙ high_zero in
      let second : get_or (field 8 2 bytes) 1 0 < 256 = field_byte bytes 8 2 (omega (arith, fixed)) each 1 in
      omega (arith, first, second)

-- EACH TEST THAT IS PASSED
aligned_root : (block : List ℕ) (root : RootRef) → root_named block ≡ Ok root → (root_in block ≡ Ok root) × ((get_or block 0 0 == old_format) ≡ false)
aligned_root block root is =
    let two = test_not (get_or block 0 0 == old_format) (fault_as card_fault (root_in block)) root (CardBlock 0) is in
    (as_ok card_fault (root_in block) root two.1, two.0)

-- a reference has the format that stands first in its block
pub format_is : (block : List ℕ) (root : RootRef) → root_in block ≡ Ok root → root.format ≡ get_or block 0 0
unfolding root_in
format_is block root is = by_zero (list_all (λ x. x == 0) block) is
  where
    by_outside : (o : Option ℕ) → root_or block o ≡ Ok root → root.format ≡ get_or block 0 0
    by_outside None e = let same : record { hash = field 4 32 block; version = get_or block 1 0; format = get_or block 0 0 } ≡ root = cc (e) in ap (λ (r : RootRef). r.format) (sym same)
    by_outside (Some offset) e = absurd (cc (e))

    by_zero : (b : Bool) → cond b (Err NoStore) (root_or block (first_outside block 0 256)) ≡ Ok root → root.format ≡ get_or block 0 0
    by_zero true e = absurd (cc (e))
    by_zero false e = by_outside (first_outside block 0 256) e

module _ (keys : Keys) (root : RootRef) (bytes : List ℕ) (each : AreBytes bytes) (fixed_long : 4698 ≤ length bytes) (aligned_is : aligned ≡ layout_of root.format) (page : List ℕ)
    (passed : directory_page keys root bytes ≡ Ok page) where
  abbrev dir : Loaded
  dir = directory_tree bytes

  top_two : (h : Head) × (head_test (is_directory_head (field 10 32 bytes)) (head_of (field 10 32 bytes)) ≡ Ok h) × (and_then (nodes_test root (directory_tree bytes)) (λ _. page_test (directory_decoding keys bytes) (index_in bytes / 32)) ≡ Ok page)
  top_two = then_ok (head_test (is_directory_head (field 10 32 bytes)) (head_of (field 10 32 bytes))) (λ _. and_then (nodes_test root (directory_tree bytes)) (λ _. page_test (directory_decoding keys bytes) (index_in bytes / 32))) page passed

  nodes_two : (t : Loaded) × (nodes_test root (directory_tree bytes) ≡ Ok t) × (page_test (directory_decoding keys bytes) (index_in bytes / 32) ≡ Ok page)
  nodes_two = then_ok (nodes_test root (directory_tree bytes)) (λ _. page_test (directory_decoding keys bytes) (index_in bytes / 32)) page top_two.2

  forms : (has_form (field 10 32 bytes) ≡ true) × (((head_of (field 10 32 bytes)).length == 32768) ≡ true)
  forms = and_parts (has_form (field 10 32 bytes)) ((head_of (field 10 32 bytes)).length == 32768)
      (test_ok (is_directory_head (field 10 32 bytes)) (head_of (field 10 32 bytes)) top_two.0 (BadHead (head_of (field 10 32 bytes)).length (head_of (field 10 32 bytes)).greatest) top_two.1).0

  pub top_form : has_form (field 10 32 bytes) ≡ true
  top_form = forms.0

  pub top_whole : (directory_tree bytes).head.length ≡ 32768
  top_whole = eqb-true (head_of (field 10 32 bytes)).length 32768 forms.1

  pub dir_verified : IsVerified root (directory_tree bytes)
  dir_verified =
      let sized : is_sized (head_of (field 10 32 bytes)) ≡ true = form_sized (field 10 32 bytes) forms.0 in
      tested_verified (directory_tree bytes) root nodes_two.0 nodes_two.1 sized
      (length-row (λ n. node_of (field (42 + 66 * n) 66 bytes)) 8 ∙ sym (sized_greatest (head_of (field 10 32 bytes)) sized ∙ ap greatest_of top_whole))
      aligned_is
      (head_width (field 10 32 bytes) (field_bytes bytes 10 32 each (omega arith)) (length-field bytes 10 32 (omega arith)))
      (row_fields bytes 42 8 each (omega arith))

  pub page_there : page_decoded (directory_decoding keys bytes) (index_in bytes / 32) ≡ Some page
  page_there = some_ok (page_decoded (directory_decoding keys bytes) (index_in bytes / 32)) (bad_tag (directory_decoding keys bytes) (index_in bytes / 32)) page nodes_two.2

module _ (keys : Keys) (e : DirEntry) (bytes : List ℕ) (each : AreBytes bytes) (aligned_is : aligned ≡ layout_of e.format) (size : ℕ) (passed : object_test keys e bytes ≡ Ok size) where
  abbrev g : ℕ
  g = (object_head bytes).greatest

  abbrev from_pages : Result ℕ CertFault
  from_pages = and_then (fault_as Object (pages_test (object_decoding keys e bytes) 0 (object_head bytes).greatest)) (λ _. size_test e (object_head bytes))

  abbrev from_nodes : Result ℕ CertFault
  from_nodes = and_then (fault_as Object (nodes_test (root_of e) (object_tree bytes))) (λ _. and_then (fault_as Object (pages_test (object_decoding keys e bytes) 0 (object_head bytes).greatest)) (λ _. size_test e (object_head bytes)))

  head_two : (h : Head) × (fault_as Object (head_test (has_form (field 4666 32 bytes)) (object_head bytes)) ≡ Ok h) × (and_then (length_test bytes) (λ _. from_nodes) ≡ Ok size)
  head_two = then_ok (fault_as Object (head_test (has_form (field 4666 32 bytes)) (object_head bytes))) (λ _. and_then (length_test bytes) (λ _. from_nodes)) size passed

  long_two : (n : ℕ) × (length_test bytes ≡ Ok n) × (from_nodes ≡ Ok size)
  long_two = then_ok (length_test bytes) (λ _. from_nodes) size head_two.2

  nodes_three : (t : Loaded) × (fault_as Object (nodes_test (root_of e) (object_tree bytes)) ≡ Ok t) × (from_pages ≡ Ok size)
  nodes_three = then_ok (fault_as Object (nodes_test (root_of e) (object_tree bytes))) (λ _. from_pages) size long_two.2

  pages_two : (last : ℕ) × (fault_as Object (pages_test (object_decoding keys e bytes) 0 (object_head bytes).greatest) ≡ Ok last) × (size_test e (object_head bytes) ≡ Ok size)
  pages_two = then_ok (fault_as Object (pages_test (object_decoding keys e bytes) 0 (object_head bytes).greatest)) (λ _. size_test e (object_head bytes)) size nodes_three.2

  pub obj_form : has_form (field 4666 32 bytes) ≡ true
  obj_form = (test_ok (has_form (field 4666 32 bytes)) (object_head bytes) head_two.0 (BadHead (object_head bytes).length (object_head bytes).greatest)
      (as_ok Object (head_test (has_form (field 4666 32 bytes)) (object_head bytes)) head_two.0 head_two.1)).0

  pub obj_long : length bytes ≡ 4698 + 4162 * (object_head bytes).greatest
  obj_long = eqb-true (length bytes) (long_of bytes) (test_ok (length bytes == long_of bytes) (long_of bytes) long_two.0 _ long_two.1).0

  obj_sized : is_sized (object_head bytes) ≡ true
  obj_sized = form_sized (field 4666 32 bytes) obj_form

  obj_count : length (object_tree bytes).nodes ≡ (object_head bytes).greatest
  obj_count = length-row (λ n. node_of (field (4698 + 66 * n) 66 bytes)) (object_head bytes).greatest

  pub obj_verified : IsVerified (root_of e) (object_tree bytes)
  obj_verified = tested_verified (object_tree bytes) (root_of e) nodes_three.0 (as_ok Object (nodes_test (root_of e) (object_tree bytes)) nodes_three.0 nodes_three.1) obj_sized obj_count aligned_is
      (head_width (field 4666 32 bytes) (field_bytes bytes 4666 32 each (omega (arith, obj_long))) (length-field bytes 4666 32 (omega (arith, obj_long))))
      (row_fields bytes 4698 (object_head bytes).greatest each (omega (arith, obj_long)))

  pub obj_size : (object_head bytes).length ≡ 4096 + e.size
  obj_size = eqb-true (object_head bytes).length (4096 + e.size) (test_ok ((object_head bytes).length == 4096 + e.size) e.size size (WrongSize e.size (object_head bytes).length) pages_two.2).0

  pub obj_good : (k : ℕ) → k < length (object_tree bytes).nodes → page_decoded (object_decoding keys e bytes) k ≡ None → ⊥
  obj_good k lt = pages_ok (object_decoding keys e bytes) 0 (object_head bytes).greatest pages_two.0
      (as_ok Object (pages_test (object_decoding keys e bytes) 0 (object_head bytes).greatest) pages_two.0 pages_two.1) k (omega arith) (omega (arith, lt, obj_count))

  pub obj_some : 1 ≤ length (object_tree bytes).nodes
  obj_some = omega (arith, obj_count, (sized_few (object_head bytes) obj_sized).0)

pub accepted : AcceptedAreCertificates
accepted keys block bytes l each is =
    let one = then_ok (root_named block) (λ root. and_then (entry_listed keys root bytes) (λ e. object_listing keys e bytes)) l is in
    let root : RootRef = one.0 in
    let named = aligned_root block root one.1 in
    let two = then_ok (entry_listed keys root bytes) (λ e. object_listing keys e bytes) l one.2 in
    let e : DirEntry = two.0 in
    let fronts = then_ok (front bytes) (λ index. and_then (fault_as Directory (directory_page keys root bytes)) (λ page. entry_in (field (128 * (index % 32)) 128 page))) e two.1 in
    let wrong = no_wrong (first_wrong bytes) (index_in bytes) fronts.0 fronts.1 in
    let pages = then_ok (fault_as Directory (directory_page keys root bytes)) (λ page. entry_in (field (128 * (fronts.0 % 32)) 128 page)) e fronts.2 in
    let page : List ℕ = pages.0 in
    let page_is : directory_page keys root bytes ≡ Ok page = as_ok Directory (directory_page keys root bytes) page pages.1 in
    let entries = entry_ok (byte 122 (field (128 * (fronts.0 % 32)) 128 page)) (record_of (field (128 * (fronts.0 % 32)) 128 page)) e pages.2 in
    let objects = then_ok (object_test keys e bytes) (λ _. Ok (listing e (object_decoding keys e bytes))) l two.2 in
    let says : listing e (object_decoding keys e bytes) ≡ l = cc (objects.2) in
    let front_long : 4698 ≤ length bytes = fixed bytes each wrong.0 in
    let stands : aligned ≡ layout_of root.format = stays_aligned root.format (ap (λ (n : ℕ). n == 1) (format_is block root named.0) ∙ named.1) in
    let stands_too : aligned ≡ layout_of e.format = stays_aligned e.format entries.1 in
    record {
      root = root;
      page = page;
      entry = e;
      named = named.0;
      mark = mark bytes each wrong.0;
      low = index_low bytes each wrong.0;
      long = obj_long keys e bytes each stands_too objects.0 objects.1;
      top = top_form keys root bytes each front_long stands page page_is;
      directory = dir_verified keys root bytes each front_long stands page page_is;
      whole = top_whole keys root bytes each front_long stands page page_is;
      page_is = page_there keys root bytes each front_long stands page page_is;
      entry_is = ap (λ (n : ℕ). record_of (field (128 * (n % 32)) 128 page)) wrong.1 ∙ entries.0;
      object_top = obj_form keys e bytes each stands_too objects.0 objects.1;
      object = obj_verified keys e bytes each stands_too objects.0 objects.1;
      size = obj_size keys e bytes each stands_too objects.0 objects.1;
      name = ap (λ (x : Listed). name_listed x) (sym says);
      holds = sound_object (object_decoding keys e bytes) e.size e.attributes (obj_size keys e bytes each stands_too objects.0 objects.1) (obj_some keys e bytes each stands_too objects.0 objects.1) (obj_good keys e bytes each stands_too objects.0 objects.1)
          ∙ ap (λ (x : Listed). Sound (record { attributes = x.attributes; bytes = x.bytes; bad = [] })) says;
    }
