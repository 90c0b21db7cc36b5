-- A copy opens as the file that was copied.
use Rattle.std.proofs.Common.{◌≡◌, inl, inr, ℕ, ◌+◌, ◌<◌, ◌≤◌, List, length, Bool, true, false, cond, Option, None, Some, Result, Ok, Err, refl, sym, ◌∙◌, ap, subst, arith}
use Rattle.std.proofs.lemmas.Bool.{cases_Bool, cases_lt, cond-true}
use Rattle.std.specs.Str.{bytes_eq}
use Rattle.aes_block.specs.WrappedKey.{unwrapped_of}
use Rattle.node_image.specs.declared.node.NodeImage.{NodeImage}
use Rattle.node_image.specs.declared.node.RootRef.{RootRef}
use Rattle.node_image.specs.declared.head.Head.{Head}
use Rattle.node_image.specs.Layout.{has_form, head_of, node_of}
use Rattle.node_image.specs.Parts.{Layout, Part, layout_of, nodes_end, size, start}
use Rattle.node_image.specs.Parts.Layout.{aligned, tight}
use Rattle.node_image.specs.Parts.Part.{block, head, node}
use Rattle.node_image.specs.Tables.{at_node, block_bit, block_version, node_version}
use Rattle.node_image.specs.Selection.{Matches, head_in, nodes_in, part_in, row, selected_node, version_in}
use Rattle.node_image.proofs.Matching.{length-row, node_is, row_same, table_at, table_matches, version_is}
use Rattle.htree_file.specs.declared.fault.TreeFault.{TreeFault}
use Rattle.htree_file.specs.declared.fault.TreeFault.TheVariants.{BadHead, Damaged}
use Rattle.htree_file.specs.Opening.{Loaded, checked, first_damaged, load_of, need_of, or_damaged, table_of}
use Rattle.htree_file.specs.Pages.{opened_in, opened_of, page_in, page_of}
use Rattle.htree_file.specs.Copies.{CopyOpens, IsCopied, IsCopy, OpenAlike, copied_nodes, moved_root}
use Rattle.htree_file.specs.Staging.{named_block}
use Rattle.htree_file.specs.Standing.{Stands}
use Rattle.htree_file.proofs.CopiedParts.{copied_part}
use Rattle.htree_file.proofs.Damage.{each_ends, need_within}
use Rattle.htree_file.proofs.SameTable.{head_low, node_low}
use Rattle.htree_file.proofs.Sizes.{form_sized, sized_few}
use Rattle.htree_file.proofs.Verdicts.{table_unformed}
use Rattle.htree_file.proofs.Verified.{long_is, short_is, table_fault, table_hashed}

-- the blocks stand behind the nodes, and in one order in both layouts
blocks_behind : (layout : Layout) (k v : ℕ) → nodes_end layout ≤ start layout (block k v)
blocks_behind tight k v = omega arith
blocks_behind aligned k v = omega arith

blocks_ordered : (here there : Layout) (j v k w : ℕ) → v < 2 → w < 2 → start here (block j v) < start here (block k w) → start there (block j v) + 4096 ≤ start there (block k w)
blocks_ordered tight tight j v k w x y lt = omega (arith, x, y, lt)
blocks_ordered tight aligned j v k w x y lt = omega (arith, x, y, lt)
blocks_ordered aligned tight j v k w x y lt = omega (arith, x, y, lt)
blocks_ordered aligned aligned j v k w x y lt = omega (arith, x, y, lt)

-- the same tree in another layout
abbrev laid : Layout → Result Loaded TreeFault → Result Loaded TreeFault
laid layout (Ok tree) = Ok (record tree { layout = layout })
laid layout (Err fault) = Err fault

laid_if : (layout : Layout) (test : Bool) (x y : Result Loaded TreeFault) (fault : TreeFault) → x ≡ laid layout y → cond test x (Err fault) ≡ laid layout (cond test y (Err fault))
laid_if layout true x y fault is = is
laid_if layout false x y fault is = refl

laid_damaged : (here there : Layout) (h : Head) (nodes : List NodeImage) (first : Option ℕ) → or_damaged there h nodes first ≡ laid there (or_damaged here h nodes first)
laid_damaged here there h nodes None = refl
laid_damaged here there h nodes (Some n) = refl

laid_checked : (h : Head) (nodes : List NodeImage) (root : RootRef) (format : ℕ) → checked h nodes (moved_root root format) ≡ laid (layout_of format) (checked h nodes root)
laid_checked h nodes root format =
    let first : Option ℕ = first_damaged h nodes 1 (length nodes) in
    laid_if (layout_of format) (bytes_eq (at_node nodes 1).hash root.hash) (or_damaged (layout_of format) h nodes first) (or_damaged (layout_of root.format) h nodes first) (Damaged 1 root.hash (at_node nodes 1).hash)
    (laid_damaged (layout_of root.format) (layout_of format) h nodes first)

-- where the copy has the head and the nodes, it has the same table, or the same fault
module _ (a b : List ℕ) (root : RootRef) (format : ℕ) where
  abbrev moved : RootRef
  moved = moved_root root format

  abbrev here : Layout
  here = layout_of root.format

  abbrev there : Layout
  there = layout_of format

  abbrev g : ℕ
  g = (head_in a root).greatest

  module _ (heads : part_in there b (head root.version) ≡ part_in here a (head root.version))
      (each : (n : ℕ) → 1 ≤ n → n ≤ g → part_in there b (node n (version_in a root n)) ≡ part_in here a (node n (version_in a root n))) where
    abbrev table : List NodeImage
    table = nodes_in a root

    mine : Matches a root table g
    mine = table_matches a root table g refl

    theirs : Matches b moved table g
    theirs n least most =
        let same : version_in a root n ≡ node_version table root.version n = version_is a root table g mine n least most in
        ap node_of (subst (λ (v : ℕ). part_in there b (node n v) ≡ part_in here a (node n v)) same (each n least most)) ∙ mine n least most

    nodes_alike : nodes_in b moved ≡ table
    nodes_alike =
        ap (λ (bytes : List ℕ). row (λ k. selected_node b moved (k + 1)) (head_of bytes).greatest) heads
        ∙ row_same (λ k. selected_node b moved (k + 1)) (λ k. selected_node a root (k + 1)) g
        (λ k lt. node_is b moved table g theirs (k + 1) (omega arith) (omega (arith, lt)) ∙ sym (node_is a root table g mine (k + 1) (omega arith) (omega (arith, lt))))

    table_laid : table_of b moved ≡ laid there (table_of a root)
    table_laid =
        (λ i. cond (has_form (heads i)) (checked (head_of (heads i)) (nodes_alike i) moved) (Err (BadHead (head_of (heads i)).length (head_of (heads i)).greatest)))
        ∙ laid_if there (has_form (part_in here a (head root.version))) (checked (head_in a root) table moved) (checked (head_in a root) table root) _ (laid_checked (head_in a root) table root format)

-- where it has the blocks that are held, and reaches no further, it opens to the same pages, or is too short too
module _ (a b wrap : List ℕ) (here there : Layout) (h : Head) (nodes : List NodeImage)
    (copied : (k : ℕ) → k < length nodes → start here (named_block nodes k) + 4096 ≤ length a → Stands there b (named_block nodes k) (part_in here a (named_block nodes k)))
    (others : (k : ℕ) → k < length nodes → length a < start here (named_block nodes k) + 4096 → length b < start there (named_block nodes k) + 4096) where
  abbrev count : ℕ
  count = length nodes

  abbrev tree : Loaded
  tree = record { head = h; nodes = nodes; layout = here }

  abbrev copy : Loaded
  copy = record { head = h; nodes = nodes; layout = there }

  long_too : need_of here nodes count ≤ length a → need_of there nodes count ≤ length b
  long_too le = need_within there nodes count (length b) (λ k lt. (copied k lt (each_ends here nodes count (length a) le k lt)).fits)

  short_too : length a < need_of here nodes count → length b < need_of there nodes count
  short_too lt = elim (cases_lt (length b) (need_of there nodes count)) [
    | inl short ↦ short
    | inr long ↦
        let all : need_of here nodes count ≤ length a = need_within here nodes count (length a) (λ k low. elim (cases_lt (length a) (start here (named_block nodes k) + 4096)) [
          | inl past ↦ absurd (omega (arith, others k low past, each_ends there nodes count (length b) long k low))
          | inr held ↦ held
        ]) in
        absurd (omega (arith, lt, all))
  ]

  pages_alike : need_of here nodes count ≤ length a → (key : List ℕ) (k : ℕ) → k < count → page_in a key tree k ≡ page_in b key copy k
  pages_alike le key k lt = ap (page_of key h (at_node nodes (k + 1)) k) (sym (copied k lt (each_ends here nodes count (length a) le k lt)).is)

  opened_alike : need_of here nodes count ≤ length a → OpenAlike (opened_in a wrap (Ok tree)) (opened_in b wrap (Ok copy))
  opened_alike le =
      let key : List ℕ = unwrapped_of wrap h.wrapped in
      let pages = row_same (page_in a key tree) (page_in b key copy) count (pages_alike le key) in
      λ i. record { bytes = h.length; pages = pages i }

-- two results of a load open alike as what they are does
alike_by : (a b wrap : List ℕ) (x y was is : Result Loaded TreeFault) → x ≡ was → y ≡ is → OpenAlike (opened_in a wrap was) (opened_in b wrap is) → OpenAlike (opened_in a wrap x) (opened_in b wrap y)
alike_by a b wrap x y was is first second alike =
    subst (λ (r : Result Loaded TreeFault). OpenAlike (opened_in a wrap r) (opened_in b wrap y)) (sym first)
    (subst (λ (r : Result Loaded TreeFault). OpenAlike (opened_in a wrap was) (opened_in b wrap r)) (sym second) alike)

module _ (a b : List ℕ) (root : RootRef) (format : ℕ) (bit : root.version < 2) (copy : IsCopy a b root format) (wrap : List ℕ) where
  heads_same : part_in (layout_of format) b (head root.version) ≡ part_in (layout_of root.format) a (head root.version)
  heads_same = (copy.stands (head root.version) refl).is

  abbrev Alike : Type 0
  Alike = OpenAlike (opened_of wrap a root) (opened_of wrap b (moved_root root format))

  -- a fault of head and nodes is the copy's too
  faults_alike : (fault : TreeFault) → table_of a root ≡ Err fault → table_of b (moved_root root format) ≡ Err fault → Alike
  faults_alike fault mine theirs =
      alike_by a b wrap (load_of a root) (load_of b (moved_root root format)) (Err fault) (Err fault) (table_fault a root fault mine) (table_fault b (moved_root root format) fault theirs) (inl refl)

  unformed_alike : has_form (part_in (layout_of root.format) a (head root.version)) ≡ false → Alike
  unformed_alike none =
      faults_alike (BadHead (head_in a root).length (head_in a root).greatest) (table_unformed a root none)
      (table_unformed b (moved_root root format) (ap has_form heads_same ∙ none) ∙ (λ i. Err (BadHead (head_of (heads_same i)).length (head_of (heads_same i)).greatest)))

  module _ (form : has_form (part_in (layout_of root.format) a (head root.version)) ≡ true) where
    abbrev all : ℕ
    all = (head_in a root).greatest

    all_copied : copied_nodes a root ≡ all
    all_copied = cond-true (has_form (part_in (layout_of root.format) a (head root.version))) all 0 form

    few : all ≤ 256
    few = (sized_few (head_in a root) (form_sized (part_in (layout_of root.format) a (head root.version)) form)).1

    nodes_same : (n : ℕ) → 1 ≤ n → n ≤ all → part_in (layout_of format) b (node n (version_in a root n)) ≡ part_in (layout_of root.format) a (node n (version_in a root n))
    nodes_same n least most =
        let held : IsCopied a root (copied_nodes a root) (copied_nodes a root) (node n (version_in a root n)) = (least, omega (arith, most, all_copied), refl) in
        (copy.stands (node n (version_in a root n)) held).is

    tables_alike : table_of b (moved_root root format) ≡ laid (layout_of format) (table_of a root)
    tables_alike = table_laid a b root format heads_same nodes_same

    -- the version of a block by the table
    block_named : (k : ℕ) → k < all → block_version (nodes_in a root) k ≡ block_bit (selected_node a root (k + 1)).flags
    block_named k lt = ap (λ (n : NodeImage). block_bit n.flags) (sym (table_at a root (nodes_in a root) all refl (k + 1) (omega arith) (omega (arith, lt))))

    -- what is copied ends before a block that is not
    ends_before : (k v : ℕ) → v < 2 → length a < start (layout_of root.format) (block k v) + 4096 → (q : Part) → IsCopied a root (copied_nodes a root) (copied_nodes a root) q
        → start (layout_of format) q + size q ≤ start (layout_of format) (block k v)
    ends_before k v low past (head w) held = omega (arith, head_low (layout_of format) w (omega (arith, held, bit)), blocks_behind (layout_of format) k v)
    ends_before k v low past (node n w) held =
        let part = copied_part a root (copied_nodes a root) (copied_nodes a root) bit (omega (arith, few, all_copied)) (omega (arith, few, all_copied)) (node n w) held in
        omega (arith, node_low (layout_of format) n w part.0 part.1 part.2, blocks_behind (layout_of format) k v)
    ends_before k v low past (block j w) held = blocks_ordered (layout_of root.format) (layout_of format) j w k v (omega (arith, held.1)) low (omega (arith, held.2, past))

    count_is : length (nodes_in a root) ≡ all
    count_is = length-row (λ k. selected_node a root (k + 1)) all

    block_copied : (k : ℕ) → k < length (nodes_in a root) → start (layout_of root.format) (named_block (nodes_in a root) k) + 4096 ≤ length a
        → Stands (layout_of format) b (named_block (nodes_in a root) k) (part_in (layout_of root.format) a (named_block (nodes_in a root) k))
    block_copied k lt held =
        let low : k < all = omega (arith, lt, count_is) in
        let is_copied : IsCopied a root (copied_nodes a root) (copied_nodes a root) (named_block (nodes_in a root) k) = (omega (arith, low, all_copied), block_named k low, held) in
        copy.stands (named_block (nodes_in a root) k) is_copied

    block_left_out : (k : ℕ) → k < length (nodes_in a root) → length a < start (layout_of root.format) (named_block (nodes_in a root) k) + 4096
        → length b < start (layout_of format) (named_block (nodes_in a root) k) + 4096
    block_left_out k lt past =
        let v : ℕ = block_version (nodes_in a root) k in
        let low : v < 2 = omega arith in
        omega (arith, copy.ends (start (layout_of format) (block k v)) (ends_before k v low past))

    loads_alike : (tree : Loaded) → table_of a root ≡ Ok tree → Alike
    loads_alike tree is =
        let here : Layout = layout_of root.format in
        let there : Layout = layout_of format in
        let h : Head = head_in a root in
        let nodes : List NodeImage = nodes_in a root in
        let mine : Loaded = record { head = h; nodes = nodes; layout = here } in
        let theirs : Loaded = record { head = h; nodes = nodes; layout = there } in
        let table : table_of a root ≡ Ok mine = is ∙ ap (λ (t : Loaded). Ok t) (sym (table_hashed a root tree is).1) in
        let copied_table : table_of b (moved_root root format) ≡ Ok theirs = tables_alike ∙ ap (laid there) table in
        elim (cases_lt (length a) (need_of here nodes (length nodes))) [
          | inl short ↦
              alike_by a b wrap (load_of a root) (load_of b (moved_root root format)) _ _ (short_is (length a) (table_of a root) mine table short)
              (short_is (length b) (table_of b (moved_root root format)) theirs copied_table (short_too a b wrap here there h nodes block_copied block_left_out short)) (inr (tt, tt))
          | inr long ↦
              alike_by a b wrap (load_of a root) (load_of b (moved_root root format)) (Ok mine) (Ok theirs) (long_is (length a) (table_of a root) mine table long)
              (long_is (length b) (table_of b (moved_root root format)) theirs copied_table (long_too a b wrap here there h nodes block_copied block_left_out long))
              (opened_alike a b wrap here there h nodes block_copied block_left_out long)
        ]

    by_table : (r : Result Loaded TreeFault) → table_of a root ≡ r → Alike
    by_table (Ok tree) is = loads_alike tree is
    by_table (Err fault) is = faults_alike fault is (tables_alike ∙ ap (laid (layout_of format)) is)

  opens_here : Alike
  opens_here = elim (cases_Bool (has_form (part_in (layout_of root.format) a (head root.version)))) [
    | inl form ↦ by_table form (table_of a root) refl
    | inr none ↦ unformed_alike none
  ]

pub copy_opens : (a b : List ℕ) (root : RootRef) (format : ℕ) → root.version < 2 → IsCopy a b root format → CopyOpens a b root format
copy_opens a b root format bit copy wrap = opens_here a b root format bit copy wrap
