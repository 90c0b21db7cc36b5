-- The certificate of a sound object is accepted.
use Rattle.std.proofs.Common.{◌≡◌, ℕ, zero, suc, ◌+◌, ◌-◌, ◌*◌, ◌/◌, ◌%◌, ◌^◌, ◌<◌, ◌≤◌, ◌==◌, ◌&&◌, ◌||◌, not, Bool, true, false, cond, leb, ltb, List, [], ◌++◌, length, take, drop, get_or, codes, Option, Some, None, Result, Ok, Err, refl, sym, ap, subst, ◌∙◌, length-append, arith}
use Rattle.std.specs.Prelude.{find, unwrap_or}
use Rattle.std.specs.Int.{w16, from_be_bytes, to_be_bytes}
use Rattle.std.specs.List.{list_any, range_with_len}
use Rattle.std.specs.Str.{bytes_eq}
use Rattle.std.proofs.lemmas.Bool.{and_from, and_parts, cond-true, eqb-true, leb-true}
use Rattle.std.proofs.lemmas.List.{append-nil, append_assoc, get_or-drop, get_or-take}
use Rattle.std.proofs.lemmas.Nat.{from_be_bytes-to_be_bytes_2}
use Rattle.byte_fields.specs.Field.{field}
use Rattle.byte_fields.proofs.Fields.{field_here, rest_after}
use Rattle.aes_block.specs.WrappedKey.{unwrapped_of}
use Rattle.node_image.specs.declared.node.NodeImage.{NodeImage}
use Rattle.node_image.specs.declared.node.RootRef.{RootRef}
use Rattle.node_image.specs.declared.head.Head.{Head}
use Rattle.node_image.specs.Layout.{greatest_of, has_form, head_bytes, head_of, is_sized, node_bytes, node_of}
use Rattle.node_image.specs.Parts.{layout_of}
use Rattle.node_image.specs.Parts.Layout.{aligned}
use Rattle.node_image.specs.References.{current_format}
use Rattle.node_image.specs.Selection.{row}
use Rattle.node_image.specs.Tables.{at_node, no_node}
use Rattle.node_image.proofs.Matching.{length-row, row_at, row_is, row_same}
use Rattle.node_image.proofs.RoundTrips.{has_form-head_bytes, head_of-head_bytes, node_of-node_bytes}
use Rattle.hmac_keys.specs.declared.Keys.{Keys}
use Rattle.htree_file.specs.Opening.{HasFields, IsVerified, Loaded, first_damaged}
use Rattle.htree_file.specs.Pages.{Opened, is_block, page_of}
use Rattle.htree_file.proofs.Damage.{undamaged}
use Rattle.htree_file.proofs.SameBytes.{same_from}
use Rattle.htree_file.proofs.Sizes.{sized_few, sized_greatest}
use Rattle.page_bytes.specs.Pages.{bytes_from, page_at}
use Rattle.store_model.specs.Object.{Contents, Sound}
use Rattle.dir_records.specs.declared.entry.DirEntry.{DirEntry}
use Rattle.dir_records.specs.Form.{record_of}
use Rattle.dir_records.specs.Layout.{byte}
use Rattle.crash_core.specs.CardBlock.{old_format, root_in}
use Rattle.crash_core.specs.DeviceKeys.{directory_key, object_key}
use Rattle.crash_core.specs.Directory.{bad_block, directory_from, directory_pages}
use Rattle.crash_core.specs.Entries.{entries_of, record_at}
use Rattle.crash_core.specs.MountedObject.{bad_blocks, object_of, root_of}
use Rattle.crash_core.proofs.Doubles.{directory_reads}
use Rattle.crash_core.proofs.ObjectChanges.{SoundParts, Sound-parts}
use Rattle.core_laws.specs.Clashes.{HaveFlags}
use Rattle.core_laws.specs.Decodings.{Decoding, opened_decoded, page_decoded}
use Rattle.freshness_laws.specs.Readings.{ReadTree, decoding_read}
use Rattle.freshness_laws.proofs.Objects.{IsWhole, not_bad, whole_of}
use Rattle.image_audit.specs.declared.fault.CertFault.{CertFault}
use Rattle.image_audit.specs.declared.fault.CertFault.TheVariants.{CardBlock, Directory, Object, Record, WrongSize}
use Rattle.image_audit.specs.declared.fault.ProofFault.TheVariants.{BadHead, Damaged}
use Rattle.image_audit.specs.declared.fault.Listed.{Listed}
use Rattle.image_audit.specs.Certificate.{directory_tree, index_in, object_block, object_head, object_tree, tree_at}
use Rattle.image_audit.specs.Checking.{bad_tag, card_fault, certificate_of, directory_decoding, directory_page, entry_in, entry_listed, entry_or, fault_as, front, front_page, head_test, is_directory_head, is_wrong, length_test, listing, long_of, nodes_test, object_decoding, object_test, page_test, pages_test, root_named, some_or, unless_damaged, unless_wrong}
use Rattle.image_audit.specs.Auditing.{ObjectsHaveCertificates, certificate_bytes, joined, nodes_bytes, tree_bytes}
use Rattle.image_audit.proofs.Answers.{then_is}
use Rattle.image_audit.proofs.Certified.{AreRecords, records_of}
use Rattle.image_audit.proofs.Checks.{format_is}
use Rattle.image_audit.proofs.Cuts.{joined_at, length-joined}

some_page : (x : Option (List ℕ)) → (x ≡ None → ⊥) → x ≡ Some (front_page x)
some_page (Some page) some = refl
some_page None some = absurd (some refl)

itself : (n : ℕ) → (n == n) ≡ true
itself n = grind arith

not_old : (format : ℕ) → format ≡ current_format → (format == old_format) ≡ false
not_old format is = ap (λ (n : ℕ). n == 1) is

-- THE BYTES OF A TREE
small_head : (h : Head) → is_sized h ≡ true → (h.length < 2 ^ 64) × (h.greatest < 2 ^ 32)
small_head h sized =
    let short : h.length ≤ 1048576 = leb-true h.length 1048576 (and_parts (leb h.length 1048576) (h.greatest == greatest_of h.length) sized).0 in
    (omega (arith, short), omega (arith, (sized_few h sized).1))

length-head_bytes : (h : Head) → length h.wrapped ≡ 16 → length (head_bytes h) ≡ 32
unfolding head_bytes
length-head_bytes h wide = let all : length (head_bytes h) ≡ length h.wrapped + 16 = length-append h.wrapped _ in omega (arith, all, wide)

length-node_bytes : (n : NodeImage) → HasFields n → length (node_bytes n) ≡ 66
unfolding node_bytes
length-node_bytes n has =
    let all : length (node_bytes n) ≡ length n.hash + (length n.iv + (length n.tag + 2)) =
    length-append n.hash _ ∙ ap (λ (k : ℕ). length n.hash + k) (length-append n.iv _ ∙ ap (λ (k : ℕ). length n.iv + k) (length-append n.tag _)) in
    omega (arith, all, has.hash.long, has.iv.long, has.tag.long)

module _ (root : RootRef) (tree : Loaded) (v : IsVerified root tree) (flags : HaveFlags tree) (stands : tree.layout ≡ aligned) where
  pub head_long : length (head_bytes tree.head) ≡ 32
  head_long = length-head_bytes tree.head v.wrapped.long

  pub nodes_many : length (nodes_bytes tree) ≡ length tree.nodes
  nodes_many = length-row (λ k. node_bytes (at_node tree.nodes (k + 1))) tree.head.greatest ∙ sym v.hashed.all

  node_is : (i : ℕ) → i < length tree.nodes → get_or (nodes_bytes tree) i [] ≡ node_bytes (get_or tree.nodes i no_node)
  node_is i lt =
      row_at (λ k. node_bytes (at_node tree.nodes (k + 1))) tree.head.greatest i [] (omega (arith, lt, v.hashed.all))
      ∙ ap (λ (k : ℕ). node_bytes (get_or tree.nodes k no_node)) (let e : (i + 1) - 1 ≡ i = omega arith in e)

  fields : (i : ℕ) → i < length tree.nodes → HasFields (get_or tree.nodes i no_node)
  fields i lt = subst (λ (k : ℕ). HasFields (get_or tree.nodes k no_node)) (let e : (i + 1) - 1 ≡ i = omega arith in e) (v.fields (i + 1) (omega arith) (omega (arith, lt)))

  small : (i : ℕ) → i < length tree.nodes → (get_or tree.nodes i no_node).flags < 2 ^ 16
  small i lt = subst (λ (k : ℕ). (get_or tree.nodes k no_node).flags < 2 ^ 16) (let e : (i + 1) - 1 ≡ i = omega arith in e) (flags (i + 1) (omega arith) (omega (arith, lt)))

  pub node_long : (i : ℕ) → i < length (nodes_bytes tree) → length (get_or (nodes_bytes tree) i []) ≡ 66
  node_long i lt = let low : i < length tree.nodes = omega (arith, lt, nodes_many) in ap length (node_is i low) ∙ length-node_bytes (get_or tree.nodes i no_node) (fields i low)

  pub tree_long : length (tree_bytes tree) ≡ 32 + 66 * length tree.nodes
  tree_long =
      let nodes : length (joined (nodes_bytes tree)) ≡ 66 * length tree.nodes = length-joined (nodes_bytes tree) 66 node_long ∙ ap (λ (n : ℕ). 66 * n) nodes_many in
      length-append (head_bytes tree.head) (joined (nodes_bytes tree)) ∙ omega (arith, head_long, nodes)

  head_back : head_of (head_bytes tree.head) ≡ tree.head
  head_back = let few = small_head tree.head v.hashed.sized in head_of-head_bytes tree.head v.wrapped.long few.0 few.1

  node_back : (i : ℕ) → i < length tree.nodes → node_of (node_bytes (get_or tree.nodes i no_node)) ≡ get_or tree.nodes i no_node
  node_back i lt = node_of-node_bytes (get_or tree.nodes i no_node) ((fields i lt).hash.long, (fields i lt).iv.long, (fields i lt).tag.long, small i lt)

  -- a tree that is cut from bytes where its own stand is the tree
  pub cut_tree : (bytes rest : List ℕ) (at nodes count : ℕ) → at + 32 ≡ nodes → drop at bytes ≡ tree_bytes tree ++ rest → count ≡ length tree.nodes → tree_at bytes at nodes count ≡ tree
  cut_tree bytes rest at nodes count behind is count_is =
      let whole : drop at bytes ≡ head_bytes tree.head ++ (joined (nodes_bytes tree) ++ rest) = is ∙ append_assoc (head_bytes tree.head) (joined (nodes_bytes tree)) rest in
      let top : field at 32 bytes ≡ head_bytes tree.head = field_here bytes (head_bytes tree.head) (joined (nodes_bytes tree) ++ rest) at 32 whole head_long in
      let below : drop nodes bytes ≡ joined (nodes_bytes tree) ++ rest = rest_after bytes (head_bytes tree.head) (joined (nodes_bytes tree) ++ rest) at 32 nodes whole head_long behind in
      let table : row (λ n. node_of (field (nodes + 66 * n) 66 bytes)) count ≡ tree.nodes =
      row_is (λ n. node_of (field (nodes + 66 * n) 66 bytes)) tree.nodes count no_node (sym count_is)
      (λ k lt. let low : k < length tree.nodes = omega (arith, lt, count_is) in
      ap node_of (joined_at bytes (nodes_bytes tree) rest nodes 66 node_long below k (omega (arith, low, nodes_many)) ∙ node_is k low) ∙ node_back k low) in
      (λ i. record { head = (ap head_of top ∙ head_back) i; nodes = table i; layout = sym stands i })

  pub cut_head : (bytes rest : List ℕ) (at : ℕ) → drop at bytes ≡ tree_bytes tree ++ rest → field at 32 bytes ≡ head_bytes tree.head
  cut_head bytes rest at is =
      field_here bytes (head_bytes tree.head) (joined (nodes_bytes tree) ++ rest) at 32 (is ∙ append_assoc (head_bytes tree.head) (joined (nodes_bytes tree)) rest) head_long

  pub head_again : head_of (head_bytes tree.head) ≡ tree.head
  head_again = head_back

  -- its tests are passed
  pub nodes_pass : nodes_test root tree ≡ Ok tree
  nodes_pass =
      let first : bytes_eq (at_node tree.nodes 1).hash root.hash ≡ true = same_from (at_node tree.nodes 1).hash root.hash v.hashed.root_hash in
      let none : first_damaged tree.head tree.nodes 1 (length tree.nodes) ≡ None = undamaged tree.head tree.nodes 1 (length tree.nodes) (λ n from upto. v.hashed.hashes n from (omega (arith, upto))) in
      λ i. cond (first i) (unless_damaged tree (none i)) (Err (Damaged 1 root.hash (at_node tree.nodes 1).hash))

  pub form_pass : has_form (head_bytes tree.head) ≡ true
  form_pass = let few = small_head tree.head v.hashed.sized in has_form-head_bytes tree.head v.wrapped.long few.0 few.1 ∙ v.hashed.sized

-- PAGES
page_alike : (r t : Decoding) (k : ℕ) → r.key ≡ t.key → r.tree ≡ t.tree → r.block k ≡ t.block k → page_decoded r k ≡ page_decoded t k
page_alike r t k key tree text = λ i. page_of (key i) (tree i).head (at_node (tree i).nodes (k + 1)) k (text i)

some_of : {A : Type 0} (b : Bool) (x y : A) → cond b (Some x) None ≡ Some y → b ≡ true
some_of true x y is = refl
some_of false x y is = absurd (cc (is))

-- a block that has a page is one of 4,096 bytes
block_long : (r : Decoding) (k : ℕ) (page : List ℕ) → page_decoded r k ≡ Some page → length (r.block k) ≡ 4096
block_long r k page is =
    let block : is_block (r.block k) ≡ true = (and_parts (is_block (r.block k)) _ (some_of _ _ page is)).0 in
    eqb-true (length (r.block k)) 4096 (and_parts (length (r.block k) == 4096) _ block).0

-- the tests of all blocks are passed where each page is there
pages_pass : (r : Decoding) (k count : ℕ) → ((j : ℕ) → k ≤ j → j < k + count → page_decoded r j ≡ None → ⊥) → (last : ℕ) × (pages_test r k count ≡ Ok last)
unfolding pages_test
pages_pass r k zero each = (k, refl)
pages_pass r k (suc count) each =
    let rest = pages_pass r (k + 1) count (λ j from upto. each j (omega arith) (omega arith)) in (
      rest.0,
      then_is (page_test r k) (λ page. pages_test r (k + 1) count) (front_page (page_decoded r k)) (Ok rest.0)
          (ap (λ (o : Option (List ℕ)). some_or o (bad_tag r k)) (some_page (page_decoded r k) (each k (omega arith) (omega arith)))) rest.1,
    )

-- THE FRONT
find_nothing : (p : ℕ → Bool) (from count : ℕ) → ((k : ℕ) → from ≤ k → k < from + count → p k ≡ false) → find p (range_with_len from count) ≡ None
find_nothing p from zero none = refl
find_nothing p from (suc count) none =
    ap (λ (b : Bool). cond b (Some from) (find p (range_with_len (from + 1) count))) (none from (omega arith) (omega arith))
    ∙ find_nothing p (from + 1) count (λ k least most. none k (omega arith) (omega arith))

-- a byte that is there, and the mark's or the first of a small index
right_at : (long at byte want : ℕ) → at < long → (at < 8 → byte ≡ want) → (at ≡ 8 → byte ≡ 0) → (leb long at || ((ltb at 8 && not (byte == want)) || ((at == 8) && not (byte == 0)))) ≡ false
right_at long at byte want there marked zeroed = grind (arith, there, marked, zeroed)

module _ (keys : Keys) (card : List ℕ) (root : RootRef) (dir_read : ReadTree root) (entries : List (Option DirEntry)) (index : ℕ) (e : DirEntry) (obj_read : ReadTree (root_of e)) (c : Contents)
    (named : root_in card ≡ Ok root) (current : root.format ≡ current_format) (dir_flags : HaveFlags dir_read.tree)
    (reads : directory_from (Ok (opened_decoded (decoding_read (directory_key keys) dir_read))) ≡ Ok entries)
    (low : index < 256) (at : get_or entries index None ≡ Some e) (entry_current : e.format ≡ current_format) (obj_flags : HaveFlags obj_read.tree)
    (sound : object_of e.size e.attributes (opened_decoded (decoding_read (object_key keys e.app) obj_read)) ≡ Sound c) (none_bad : c.bad ≡ []) where
  abbrev dir : Loaded
  dir = dir_read.tree

  abbrev obj : Loaded
  obj = obj_read.tree

  abbrev text : List ℕ
  text = dir_read.block (index / 32)

  abbrev texts : List (List ℕ)
  texts = row obj_read.block obj.head.greatest

  abbrev B : List ℕ
  B = certificate_bytes index dir_read.tree (dir_read.block (index / 32)) obj_read.tree obj_read.block

  abbrev R : Decoding
  R = decoding_read (directory_key keys) dir_read

  abbrev S : Decoding
  S = decoding_read (object_key keys e.app) obj_read

  dir_stands : dir.layout ≡ aligned
  dir_stands = (dir_read.verified).hashed.stands ∙ ap layout_of current

  obj_stands : obj.layout ≡ aligned
  obj_stands = (obj_read.verified).hashed.stands ∙ ap layout_of entry_current

  parts : IsWhole (opened_decoded (decoding_read (directory_key keys) dir_read))
  parts = whole_of (opened_decoded (decoding_read (directory_key keys) dir_read)) entries reads

  records : AreRecords (opened_decoded (decoding_read (directory_key keys) dir_read)).pages 256 entries
  records = records_of (opened_decoded R).pages 256 entries (by_bad (bad_block (opened_decoded R).bytes (opened_decoded R).pages) reads)
    where
      by_bad : (o : Option ℕ) → directory_pages (opened_decoded R) o ≡ Ok entries → entries_of (opened_decoded R).pages 256 ≡ Ok entries
      by_bad None is = (directory_reads (opened_decoded R).bytes (opened_decoded R).pages entries is).0
      by_bad (Some bad) is = absurd (cc (is))

  eight : length dir.nodes ≡ 8
  eight = (dir_read.verified).hashed.all ∙ sized_greatest dir.head (dir_read.verified).hashed.sized ∙ ap greatest_of parts.long

  block_low : index / 32 < 8
  block_low = omega (arith, low)

  abbrev page : List ℕ
  page = front_page (page_at (opened_decoded R).pages (index / 32))

  page_is : page_at (opened_decoded R).pages (index / 32) ≡ Some page
  page_is = some_page (page_at (opened_decoded R).pages (index / 32)) (parts.good (index / 32) block_low)

  page_read : page_decoded R (index / 32) ≡ Some page
  page_read = sym (row_at (page_decoded R) (length dir.nodes) (index / 32) None (omega (arith, block_low, eight))) ∙ page_is

  text_long : length text ≡ 4096
  text_long = block_long R (index / 32) page page_read

  -- THE OBJECT'S BLOCKS
  obj_parts : SoundParts e.size e.attributes (opened_decoded S) c
  obj_parts = Sound-parts e.size e.attributes (opened_decoded S) c sound

  no_bad : bad_blocks (opened_decoded S).pages ≡ []
  no_bad = ap (λ (x : Contents). x.bad) (sym obj_parts.is) ∙ none_bad

  good : (k : ℕ) → k < length obj.nodes → page_decoded S k ≡ None → ⊥
  good zero lt none = absurd (cc (sym (row_at (page_decoded S) (length obj.nodes) 0 None lt) ∙ obj_parts.first, none))
  good (suc k) lt none = not_bad (opened_decoded S) (suc k) (omega arith) (omega (arith, lt, length-row (page_decoded S) (length obj.nodes)))
      (ap (list_any (λ j. j == suc k)) no_bad) (row_at (page_decoded S) (length obj.nodes) (suc k) None lt ∙ none)

  texts_many : length texts ≡ length obj.nodes
  texts_many = length-row obj_read.block obj.head.greatest ∙ sym (obj_read.verified).hashed.all

  text_at : (i : ℕ) → i < length obj.nodes → get_or texts i [] ≡ obj_read.block i
  text_at i lt = row_at obj_read.block obj.head.greatest i [] (omega (arith, lt, (obj_read.verified).hashed.all))

  texts_long : (i : ℕ) → i < length texts → length (get_or texts i []) ≡ 4096
  texts_long i lt =
      let within : i < length obj.nodes = omega (arith, lt, texts_many) in
      ap length (text_at i within) ∙ block_long S i (front_page (page_decoded S i)) (some_page (page_decoded S i) (good i within))

  -- WHERE THE PARTS STAND
  dir_long : length (tree_bytes dir) ≡ 560
  dir_long = tree_long root dir dir_read.verified dir_flags dir_stands ∙ omega (arith, eight)

  obj_long : length (tree_bytes obj) ≡ 32 + 66 * length obj.nodes
  obj_long = tree_long (root_of e) obj obj_read.verified obj_flags obj_stands

  all_texts_long : length (joined texts) ≡ 4096 * length obj.nodes
  all_texts_long = length-joined texts 4096 texts_long ∙ ap (λ (n : ℕ). 4096 * n) texts_many

  at_8 : drop 8 B ≡ to_be_bytes w16 index ++ (tree_bytes dir ++ (text ++ (tree_bytes obj ++ joined texts)))
  at_8 = rest_after B (codes "TEECERT1") _ 0 8 8 refl refl refl

  at_10 : drop 10 B ≡ tree_bytes dir ++ (text ++ (tree_bytes obj ++ joined texts))
  at_10 = rest_after B (to_be_bytes w16 index) _ 8 2 10 at_8 refl refl

  at_570 : drop 570 B ≡ text ++ (tree_bytes obj ++ joined texts)
  at_570 = rest_after B (tree_bytes dir) _ 10 560 570 at_10 dir_long refl

  at_4666 : drop 4666 B ≡ tree_bytes obj ++ joined texts
  at_4666 = rest_after B text _ 570 4096 4666 at_570 text_long refl

  at_texts : drop (4698 + 66 * length obj.nodes) B ≡ joined texts
  at_texts = rest_after B (tree_bytes obj) _ 4666 (32 + 66 * length obj.nodes) (4698 + 66 * length obj.nodes) at_4666 obj_long (omega arith)

  long : length B ≡ 4698 + 4162 * length obj.nodes
  long =
      let one = length-append (tree_bytes obj) (joined texts) in
      let two = length-append text (tree_bytes obj ++ joined texts) in
      let three = length-append (tree_bytes dir) (text ++ (tree_bytes obj ++ joined texts)) in
      let rest : List ℕ = tree_bytes dir ++ (text ++ (tree_bytes obj ++ joined texts)) in
      let four : length (to_be_bytes w16 index ++ rest) ≡ 2 + length rest = length-append (to_be_bytes w16 index) rest in
      let five : length B ≡ 8 + length (to_be_bytes w16 index ++ rest) = length-append (codes "TEECERT1") (to_be_bytes w16 index ++ rest) in
      omega (arith, one, two, three, four, five, dir_long, text_long, obj_long, all_texts_long)

  -- WHAT IS CUT
  index_is : index_in B ≡ index
  index_is = ap (from_be_bytes w16) (field_here B (to_be_bytes w16 index) _ 8 2 at_8 refl) ∙ from_be_bytes-to_be_bytes_2 index (omega (arith, low))

  dir_top : field 10 32 B ≡ head_bytes dir.head
  dir_top = cut_head root dir dir_read.verified dir_flags dir_stands B _ 10 at_10

  obj_top : field 4666 32 B ≡ head_bytes obj.head
  obj_top = cut_head (root_of e) obj obj_read.verified obj_flags obj_stands B _ 4666 at_4666

  dir_tree : directory_tree B ≡ dir
  dir_tree = cut_tree root dir dir_read.verified dir_flags dir_stands B _ 10 42 8 refl at_10 (sym eight)

  obj_head : object_head B ≡ obj.head
  obj_head = ap head_of obj_top ∙ head_again (root_of e) obj obj_read.verified obj_flags obj_stands

  obj_count : (object_head B).greatest ≡ length obj.nodes
  obj_count = ap (λ (h : Head). h.greatest) obj_head ∙ sym (obj_read.verified).hashed.all

  obj_tree : object_tree B ≡ obj
  obj_tree = cut_tree (root_of e) obj obj_read.verified obj_flags obj_stands B _ 4666 4698 (object_head B).greatest refl at_4666 obj_count

  obj_block : (k : ℕ) → k < length obj.nodes → object_block B k ≡ obj_read.block k
  obj_block k lt =
      ap (λ (n : ℕ). field (4698 + 66 * n + 4096 * k) 4096 B) obj_count
      ∙ joined_at B texts [] (4698 + 66 * length obj.nodes) 4096 texts_long (at_texts ∙ sym (append-nil (joined texts))) k (omega (arith, lt, texts_many))
      ∙ text_at k lt

  obj_key : (object_decoding keys e B).key ≡ S.key
  obj_key = ap (λ (t : Loaded). unwrapped_of (object_key keys e.app) t.head.wrapped) obj_tree

  dir_key : (directory_decoding keys B).key ≡ R.key
  dir_key = ap (λ (t : Loaded). unwrapped_of (directory_key keys) t.head.wrapped) dir_tree

  obj_page : (k : ℕ) → k < length obj.nodes → page_decoded (object_decoding keys e B) k ≡ page_decoded S k
  obj_page k lt = page_alike (object_decoding keys e B) S k obj_key obj_tree (obj_block k lt)

  -- EACH TEST
  root_pass : root_named card ≡ Ok root
  root_pass =
      let new : (get_or card 0 0 == old_format) ≡ false = ap (λ (n : ℕ). n == old_format) (sym (format_is card root named)) ∙ not_old root.format current in
      ap (λ (b : Bool). let r : Result RootRef CertFault = cond b (Err (CardBlock 0)) (fault_as card_fault (root_in card)) in r) new ∙ ap (fault_as card_fault) named

  mark_byte : (i : ℕ) → i < 8 → get_or B i 0 ≡ get_or (codes "TEECERT1") i 0
  mark_byte i lt =
      sym (get_or-take 8 (drop 0 B) i 0 lt) ∙ ap (λ (l : List ℕ). get_or l i 0) (field_here B (codes "TEECERT1") _ 0 8 refl refl)

  high_byte : get_or B 8 0 ≡ 0
  high_byte =
      sym (get_or-take 2 (drop 8 B) 0 0 (omega arith) ∙ get_or-drop 8 B 0 0) ∙ ap (λ (l : List ℕ). get_or l 0 0) (field_here B (to_be_bytes w16 index) _ 8 2 at_8 refl) ∙ omega (arith, low)

  right : (i : ℕ) → i < 4698 → is_wrong B i ≡ false
  right i lt = right_at (length B) i (get_or B i 0) (get_or (codes "TEECERT1") i 0) (omega (arith, long, lt)) (mark_byte i) (λ eight_is. ap (λ (k : ℕ). get_or B k 0) eight_is ∙ high_byte)

  fronts : front B ≡ Ok index
  fronts = ap (λ (o : Option ℕ). unless_wrong o (index_in B)) (find_nothing (is_wrong B) 0 4698 (λ k least most. right k (omega (arith, most)))) ∙ ap (λ (n : ℕ). Ok n) index_is

  dir_page : page_decoded (directory_decoding keys B) (index_in B / 32) ≡ Some page
  dir_page =
      ap (λ (n : ℕ). page_decoded (directory_decoding keys B) (n / 32)) index_is
      ∙ page_alike (directory_decoding keys B) R (index / 32) dir_key dir_tree (field_here B text _ 570 4096 at_570 text_long) ∙ page_read

  dir_pass : directory_page keys root B ≡ Ok page
  dir_pass =
      let h : Head = head_of (field 10 32 B) in
      let same : head_of (field 10 32 B) ≡ dir.head = ap head_of dir_top ∙ head_again root dir dir_read.verified dir_flags dir_stands in
      let whole : (head_of (field 10 32 B)).length ≡ 32768 = ap (λ (x : Head). x.length) same ∙ parts.long in
      then_is (head_test (is_directory_head (field 10 32 B)) (head_of (field 10 32 B))) _ h (Ok page)
      (cond-true (is_directory_head (field 10 32 B)) (Ok h) (Err (BadHead h.length h.greatest))
      (and_from (has_form (field 10 32 B)) (h.length == 32768) (ap has_form dir_top ∙ form_pass root dir dir_read.verified dir_flags dir_stands) (ap (λ (n : ℕ). n == 32768) whole)))
      (then_is (nodes_test root (directory_tree B)) _ dir (Ok page) (ap (nodes_test root) dir_tree ∙ nodes_pass root dir dir_read.verified dir_flags dir_stands)
      (ap (λ (o : Option (List ℕ)). some_or o (bad_tag (directory_decoding keys B) (index_in B / 32))) dir_page))

  entry_pass : entry_in (field (128 * (index % 32)) 128 page) ≡ Ok e
  entry_pass =
      let held : record_at (opened_decoded R).pages index ≡ Ok (get_or entries index None) = records.each index low in
      let whole : record_of (field (128 * (index % 32)) 128 page) ≡ Ok (Some e) =
      ap (λ (x : Option (List ℕ)). record_of (field (128 * (index % 32)) 128 (unwrap_or x []))) (sym page_is) ∙ held ∙ ap (λ (x : Option DirEntry). Ok x) at in
      ap (entry_or (byte 122 (field (128 * (index % 32)) 128 page))) whole
      ∙ ap (λ (b : Bool). let r : Result DirEntry CertFault = cond b (Err (Record 122)) (Ok e) in r) (not_old e.format entry_current)

  obj_pages : (last : ℕ) × (pages_test (object_decoding keys e B) 0 (object_head B).greatest ≡ Ok last)
  obj_pages = pages_pass (object_decoding keys e B) 0 (object_head B).greatest
      (λ k from upto none. let lt : k < length obj.nodes = omega (arith, upto, obj_count) in good k lt (sym (obj_page k lt) ∙ none))

  obj_pass : object_test keys e B ≡ Ok e.size
  obj_pass =
      let sized : (object_head B).length ≡ 4096 + e.size = ap (λ (h : Head). h.length) obj_head ∙ obj_parts.long in
      let length_is : length B ≡ long_of B = long ∙ ap (λ (n : ℕ). 4698 + 4162 * n) (sym obj_count) in
      then_is (fault_as Object (head_test (has_form (field 4666 32 B)) (object_head B))) _ (object_head B) (Ok e.size)
      (ap (fault_as Object) (cond-true (has_form (field 4666 32 B)) (Ok (object_head B)) (Err (BadHead (object_head B).length (object_head B).greatest)) (ap has_form obj_top ∙ form_pass (root_of e) obj obj_read.verified obj_flags obj_stands)))
      (then_is (length_test B) _ (long_of B) (Ok e.size)
      (cond-true (length B == long_of B) (Ok (long_of B)) _ (ap (λ (n : ℕ). n == long_of B) length_is ∙ itself (long_of B)))
      (then_is (fault_as Object (nodes_test (root_of e) (object_tree B))) _ obj (Ok e.size)
      (ap (fault_as Object) (ap (nodes_test (root_of e)) obj_tree ∙ nodes_pass (root_of e) obj obj_read.verified obj_flags obj_stands))
      (then_is (fault_as Object (pages_test (object_decoding keys e B) 0 (object_head B).greatest)) _ obj_pages.0 (Ok e.size) (ap (fault_as Object) obj_pages.1)
      (cond-true ((object_head B).length == 4096 + e.size) (Ok e.size) (Err (WrongSize e.size (object_head B).length)) (ap (λ (n : ℕ). n == 4096 + e.size) sized ∙ itself (4096 + e.size))))))

  opened_alike : opened_decoded (object_decoding keys e B) ≡ opened_decoded S
  opened_alike =
      let count : length (object_tree B).nodes ≡ length obj.nodes = ap (λ (t : Loaded). length t.nodes) obj_tree in
      let pages : row (page_decoded (object_decoding keys e B)) (length (object_tree B).nodes) ≡ row (page_decoded S) (length obj.nodes) =
      ap (row (page_decoded (object_decoding keys e B))) count ∙ row_same (page_decoded (object_decoding keys e B)) (page_decoded S) (length obj.nodes) obj_page in
      (λ i. record { bytes = (obj_tree i).head.length; pages = pages i })

  abbrev said : Listed
  said = record { app = e.app; id = e.id; attributes = c.attributes; bytes = c.bytes }

  says : listing e (object_decoding keys e B) ≡ record { app = e.app; id = e.id; attributes = c.attributes; bytes = c.bytes }
  says =
      ap (λ (o : Opened). let l : Listed = record { app = e.app; id = e.id; attributes = take e.attributes (front_page (page_at o.pages 0)); bytes = bytes_from (page_at o.pages) 4096 e.size } in l) opened_alike
      ∙ ap (λ (x : Option (List ℕ)). let l : Listed = record { app = e.app; id = e.id; attributes = take e.attributes (front_page x); bytes = bytes_from (page_at (opened_decoded S).pages) 4096 e.size } in l) obj_parts.first
      ∙ ap (λ (x : Contents). let l : Listed = record { app = e.app; id = e.id; attributes = x.attributes; bytes = x.bytes } in l) (sym obj_parts.is)

  pub certified : certificate_of keys card B ≡ Ok (record { app = e.app; id = e.id; attributes = c.attributes; bytes = c.bytes })
  certified =
      then_is (root_named card) _ root (Ok said) root_pass
      (then_is (entry_listed keys root B) _ e (Ok said)
      (then_is (front B) _ index (Ok e) fronts (then_is (fault_as Directory (directory_page keys root B)) _ page (Ok e) (ap (fault_as Directory) dir_pass) entry_pass))
      (then_is (object_test keys e B) _ e.size (Ok said) obj_pass (ap (λ (x : Listed). Ok x) says)))

pub objects_certified : ObjectsHaveCertificates
objects_certified keys block s index e read c current flags low at entry_current obj_flags sound none_bad =
    certified keys block s.root s.dir s.entries index e read c s.named current flags s.reads low at entry_current obj_flags sound none_bad
