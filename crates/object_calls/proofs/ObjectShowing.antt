-- A loaded object that was read whole is the one that the entry mounts as.
use Rattle.std.proofs.Common.{◌≡◌, ◌∙◌, ◌+◌, ◌-◌, ◌*◌, ◌/◌, ◌%◌, ◌<◌, ◌==◌, not, ℕ, Bool, true, false, List, length, get_or, Option, Some, None, IsSome, refl, sym, ap, subst, inl, inr, arith, true≢false}
use Rattle.std.proofs.lemmas.Bool.{cases_Bool, eq-eqb, eqb-true}
use Rattle.std.proofs.lemmas.List.{ext_get_or}
use Rattle.aes_block.specs.WrappedKey.{unwrapped_of}
use Rattle.disk_model.specs.State.{FileState}
use Rattle.disk_model.specs.Calls.{Rests}
use Rattle.disk_model.specs.Keeps.{Keeps}
use Rattle.disk_model.proofs.Goings.{first_known}
use Rattle.htree_file.specs.Opening.{IsVerified, Loaded}
use Rattle.htree_file.specs.Pages.{page_in}
use Rattle.htree_file.specs.Selected.{Lies}
use Rattle.htree_file.specs.Standing.{Told}
use Rattle.htree_file.proofs.Causes.{told_then}
use Rattle.htree_file.proofs.Sizes.{sized_greatest}
use Rattle.node_image.specs.declared.node.RootRef.{RootRef}
use Rattle.node_image.specs.Layout.{greatest_of}
use Rattle.node_image.specs.Selection.{row}
use Rattle.node_image.proofs.Matching.{length-row}
use Rattle.page_bytes.specs.Pages.{byte_at, byte_in, bytes_from, page_at}
use Rattle.page_bytes.proofs.Content.{get_or-bytes_from, length-bytes_from}
use Rattle.block_file.specs.Reads.{AreReadBytes}
use Rattle.block_file.proofs.Reading.{page_first, page_stands, page_then}
use Rattle.tree_paths.specs.declared.node_set.NodeSet.{NodeSet}
use Rattle.tree_paths.specs.Paths.{holds}
use Rattle.dir_records.specs.declared.entry.DirEntry.{DirEntry}
use Rattle.crash_core.specs.MountedObject.{bad_blocks, root_of}
use Rattle.crash_core.proofs.BadBlocks.{list_any-bad-false, list_any-bad-true}
use Rattle.object_file.specs.Held.{held_in}
use Rattle.object_file.specs.Value.{ObjectValue, size_in}
use Rattle.object_file.proofs.ObjectReads.{page_at-pages}
use Rattle.object_calls.specs.ShownObjects.{IsReadFrom, ShowsBlock, ShowsContents, ShowsData, data_blocks, is_among}

some_is : (page : Option (List ℕ)) (is : List ℕ) → page ≡ Some is → IsSome page
some_is page is same = subst IsSome (sym same) refl

module _ (root : RootRef) (key : List ℕ) (tree : Loaded) (a b : FileState) (size : ℕ) (bytes : List ℕ) (bad : NodeSet) (verified : IsVerified root tree) (sized : tree.head.length ≡ 4096 + size)
    (shows : ShowsData key tree a b size (data_blocks size) bytes bad) (told : Told a b) where
  abbrev pages : List (Option (List ℕ))
  pages = row (page_in a.reads key tree) (length tree.nodes)

  many : length pages ≡ length tree.nodes
  many = length-row (page_in a.reads key tree) (length tree.nodes)

  -- how many nodes there are
  nodes_are : length tree.nodes ≡ data_blocks size + 1
  nodes_are = let greatest : tree.head.greatest ≡ greatest_of tree.head.length = sized_greatest tree.head verified.hashed.sized in omega (arith, verified.hashed.all, greatest, sized)

  page_of_block : (k : ℕ) → k < data_blocks size → page_at pages (k + 1) ≡ page_in a.reads key tree (k + 1)
  page_of_block k lt = page_at-pages a.reads key tree (k + 1) (omega (arith, nodes_are, lt))

  -- each byte that is shown is the object's
  byte_shown : (i k : ℕ) → i < size → k ≡ i / 4096 → (good : Bool) → ShowsBlock key tree a b size k bytes good → get_or bytes i 0 ≡ byte_at (page_at pages) (4096 + i)
  byte_shown i k lt is true block =
      let low : k < data_blocks size = omega (arith, is, lt) in
      let stands : page_at pages (k + 1) ≡ Some block.0 = page_of_block k low ∙ page_stands key tree a b (k + 1) block.0 told block.1 in
      let number : (4096 + i) / 4096 ≡ k + 1 = omega (arith, is) in
      let place : (4096 + i) % 4096 ≡ i - 4096 * k = omega (arith, is) in
      block.2 i (omega (arith, is)) (omega (arith, is)) lt
      ∙ sym ((λ j. byte_in (page_at pages (number j)) (place j)) ∙ ap (λ (p : Option (List ℕ)). byte_in p (i - 4096 * k)) stands)
  byte_shown i k lt is false block =
      let low : k < data_blocks size = omega (arith, is, lt) in
      let stands : page_at pages (k + 1) ≡ None = page_of_block k low ∙ block.0 told in
      let number : (4096 + i) / 4096 ≡ k + 1 = omega (arith, is) in
      block.1 i (omega (arith, is)) (omega (arith, is)) lt
      ∙ sym (ap (λ (n : ℕ). byte_in (page_at pages n) ((4096 + i) % 4096)) number ∙ ap (λ (p : Option (List ℕ)). byte_in p ((4096 + i) % 4096)) stands)

  pub bytes_shown : bytes ≡ bytes_from (page_at pages) 4096 size
  bytes_shown =
      ext_get_or 0 bytes (bytes_from (page_at pages) 4096 size) (shows.long ∙ sym (length-bytes_from (page_at pages) 4096 size))
      (λ i lt.
      let below : i < size = omega (arith, lt, shows.long) in
      byte_shown i (i / 4096) below refl (not (holds bad (i / 4096 + 1))) (shows.each (i / 4096) (omega (arith, below)))
      ∙ sym (get_or-bytes_from (page_at pages) 4096 size i below))

  -- a good block has a page, a bad one none
  good_page : (k : ℕ) → k < data_blocks size → (good : Bool) → ShowsBlock key tree a b size k bytes good → good ≡ true → IsSome (page_at pages (k + 1))
  good_page k lt true block is = some_is (page_at pages (k + 1)) block.0 (page_of_block k lt ∙ page_stands key tree a b (k + 1) block.0 told block.1)
  good_page k lt false block is = absurd (true≢false (sym is))

  bad_page : (k : ℕ) → k < data_blocks size → (good : Bool) → ShowsBlock key tree a b size k bytes good → good ≡ false → page_at pages (k + 1) ≡ None
  bad_page k lt true block is = absurd (true≢false is)
  bad_page k lt false block is = page_of_block k lt ∙ block.0 told

  pub bad_shown : (n : ℕ) → holds bad n ≡ is_among (bad_blocks pages) n
  bad_shown n = elim (cases_Bool (holds bad n)) [
    | inl is ↦
        let among = shows.others n is in
        let back : n - 1 + 1 ≡ n = omega (arith, among.0) in
        let low : n - 1 < data_blocks size = omega (arith, among.0, among.1) in
        let held : holds bad (n - 1 + 1) ≡ true = ap (holds bad) back ∙ is in
        let none : page_at pages (n - 1 + 1) ≡ None = bad_page (n - 1) low (not (holds bad (n - 1 + 1))) (shows.each (n - 1) low) (ap not held) in
        is ∙ sym (list_any-bad-true (λ j. j == n) pages n among.0 (omega (arith, many, nodes_are, among.1)) (ap (page_at pages) (sym back) ∙ none) (eq-eqb n n refl))
    | inr not_held ↦
        not_held ∙ sym (list_any-bad-false (λ j. j == n) pages (λ j one below test.
        let same : j ≡ n = eqb-true j n test in
        let back : j - 1 + 1 ≡ j = omega (arith, one) in
        let low : j - 1 < data_blocks size = omega (arith, one, below, many, nodes_are) in
        let free : holds bad (j - 1 + 1) ≡ false = ap (holds bad) (back ∙ same) ∙ not_held in
        subst (λ (m : ℕ). IsSome (page_at pages m)) back (good_page (j - 1) low (not (holds bad (j - 1 + 1))) (shows.each (j - 1) low) (ap not free))))
  ]

-- the object is shown as it mounts
pub contents_shown : {F : Type 0} (o : ObjectValue F) (a b : FileState) (attributes bytes : List ℕ) (bad : NodeSet) → IsVerified o.tree.root o.tree.tree → o.tree.tree.head.length ≡ 4096 + size_in o
    → attributes ≡ o.attributes → ShowsData o.tree.key o.tree.tree a b (size_in o) (data_blocks (size_in o)) bytes bad → Told a b → ShowsContents attributes bytes bad (held_in o a.reads)
contents_shown o a b attributes bytes bad verified sized own shows told = record {
  attributes_are = own;
  bytes_are = bytes_shown o.tree.root o.tree.key o.tree.tree a b (size_in o) bytes bad verified sized shows told;
  bad_are = bad_shown o.tree.root o.tree.key o.tree.tree a b (size_in o) bytes bad verified sized shows told;
}

-- WHAT WAS LOADED, AND THEN READ
module _ {root : ℕ} (key : List ℕ) (tree : Loaded) (a b c : FileState) (rests : Rests a b) (keeps : Keeps (Lies tree.layout tree.nodes root) b c) where
  front_first : (attributes : List ℕ) (count : ℕ) → AreReadBytes key tree a b 0 attributes count → AreReadBytes key tree a c 0 attributes count
  front_first attributes count bytes = record {
    pages = bytes.pages;
    read = λ k met. page_first key tree a b c k (bytes.pages k) keeps (bytes.read k met);
    are = bytes.are;
  }

  block_then : (size k : ℕ) (bytes : List ℕ) (good : Bool) → ShowsBlock key tree b c size k bytes good → ShowsBlock key tree a c size k bytes good
  block_then size k bytes true shows = (shows.0, page_then key tree a b c (k + 1) shows.0 rests keeps.goes_on shows.1, shows.2)
  block_then size k bytes false shows =
      (λ told. ap (λ (image : List ℕ). page_in image key tree (k + 1)) (sym (rests.reads (first_known a b c keeps.goes_on told.1))) ∙ shows.0 (told_then a b c rests.goes_on told), shows.1)

  data_then : (size count : ℕ) (bytes : List ℕ) (bad : NodeSet) → ShowsData key tree b c size count bytes bad → ShowsData key tree a c size count bytes bad
  data_then size count bytes bad given = record {
    long = given.long;
    each = λ k lt. block_then size k bytes (not (holds bad (k + 1))) (given.each k lt);
    others = given.others;
  }

  pub read_from : (tsk : List ℕ) (e : DirEntry) (attributes bytes : List ℕ) (bad : NodeSet) → IsVerified (root_of e) tree → tree.head.length ≡ 4096 + e.size → key ≡ unwrapped_of tsk tree.head.wrapped
      → length attributes ≡ e.attributes → AreReadBytes key tree a b 0 attributes e.attributes → ShowsData key tree b c e.size (data_blocks e.size) bytes bad → IsReadFrom tsk a c e attributes bytes bad
  read_from tsk e attributes bytes bad verified sized key_is long front given = record {
    tree = tree;
    verified = verified;
    sized = sized;
    all_attributes = long;
    front = subst (λ (k : List ℕ). AreReadBytes k tree a c 0 attributes e.attributes) key_is (front_first attributes e.attributes front);
    data_are = subst (λ (k : List ℕ). ShowsData k tree a c e.size (data_blocks e.size) bytes bad) key_is (data_then e.size (data_blocks e.size) bytes bad given);
  }
