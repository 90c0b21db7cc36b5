-- A directory that is read is one by what its reference opens to; and images in which the reference names one tree and selects the same
-- bytes have the same directory.
use Rattle.std.proofs.Common.{◌≡◌, ◌∙◌, ◌+◌, ◌/◌, ◌<◌, ◌≤◌, ℕ, zero, suc, max, List, [], length, get_or, Option, Some, None, Result, Ok, Err, cond, is_none, Bool, true, false, refl, sym, ap, arith}
use Rattle.aes_block.specs.WrappedKey.{unwrapped_of}
use Rattle.node_image.specs.declared.node.RootRef.{RootRef}
use Rattle.node_image.specs.Tables.{at_node}
use Rattle.node_image.specs.Selection.{SelectedTree, selected_tree}
use Rattle.node_image.proofs.Matching.{row_same}
use Rattle.htree_file.specs.declared.fault.TreeFault.{TreeFault}
use Rattle.htree_file.specs.declared.fault.TreeFault.TheVariants.{BadTag}
use Rattle.htree_file.specs.Opening.{Loaded, load_of}
use Rattle.htree_file.specs.Pages.{block_in, opened_in, opened_of, page_in, page_of, tag_of}
use Rattle.htree_file.specs.Selected.{IsLoaded}
use Rattle.htree_file.specs.Standing.{OpensTo}
use Rattle.htree_file.proofs.Loadings.{loaded_from}
use Rattle.htree_file.proofs.SelectedBlocks.{selected_block}
use Rattle.htree_file.proofs.Sizes.{sized_greatest}
use Rattle.dir_records.specs.declared.entry.DirEntry.{DirEntry}
use Rattle.crash_core.specs.declared.fault.DirFault.{DirFault}
use Rattle.crash_core.specs.declared.fault.DirFault.TheVariants.{Tree}
use Rattle.crash_core.specs.Directory.{bad_block, blocks_of, directory_from, directory_of, directory_or, directory_pages, first_bad, or_bad, pages_of}

-- THE SAME AS AN OPENED TREE
module _ (image key : List ℕ) (tree : Loaded) (entries : List (Option DirEntry)) where
  none_bad : (bad : Option ℕ) → or_bad image key tree (pages_of image key tree) bad ≡ Ok entries
      → directory_pages (record { bytes = tree.head.length; pages = pages_of image key tree }) bad ≡ Ok entries
  none_bad None is = is
  none_bad (Some k) is = absurd (cc (is))

  bad_none : (bad : Option ℕ) → directory_pages (record { bytes = tree.head.length; pages = pages_of image key tree }) bad ≡ Ok entries
      → or_bad image key tree (pages_of image key tree) bad ≡ Ok entries
  bad_none None is = is
  bad_none (Some k) is = absurd (cc (is))

module _ (tsk image : List ℕ) (root : RootRef) (entries : List (Option DirEntry)) where
  -- what is read as a directory is one by what the reference opens to
  pub directory_seen : directory_of tsk image root ≡ Ok entries → directory_from (opened_of tsk image root) ≡ Ok entries
  unfolding directory_of
  directory_seen is = by_load (load_of image root) is
    where
      by_load : (r : Result Loaded TreeFault) → directory_or tsk image r ≡ Ok entries → directory_from (opened_in image tsk r) ≡ Ok entries
      by_load (Err fault) found = absurd (cc (found))
      by_load (Ok tree) found =
          let key : List ℕ = unwrapped_of tsk tree.head.wrapped in
          none_bad image key tree entries (bad_block tree.head.length (pages_of image key tree)) found

  -- and back
  pub seen_directory : directory_from (opened_of tsk image root) ≡ Ok entries → directory_of tsk image root ≡ Ok entries
  unfolding directory_of
  seen_directory is = by_load (load_of image root) is
    where
      by_load : (r : Result Loaded TreeFault) → directory_from (opened_in image tsk r) ≡ Ok entries → directory_or tsk image r ≡ Ok entries
      by_load (Err fault) found = absurd (cc (found))
      by_load (Ok tree) found =
          let key : List ℕ = unwrapped_of tsk tree.head.wrapped in
          bad_none image key tree entries (bad_block tree.head.length (pages_of image key tree)) found

-- THE SAME SELECTED BYTES
pub same_block : (i r : List ℕ) (root : RootRef) (tree : Loaded) → load_of i root ≡ Ok tree → load_of r root ≡ Ok tree → selected_tree i root ≡ selected_tree r root
    → (k : ℕ) → k < length tree.nodes → block_in i tree k ≡ block_in r tree k
same_block i r root tree a b same k lt =
    sym (selected_block i root tree a k lt)
    ∙ ap (λ (s : SelectedTree). get_or s.blocks k []) same
    ∙ selected_block r root tree b k lt

same_pages : (i r : List ℕ) (root : RootRef) (tree : Loaded) → load_of i root ≡ Ok tree → load_of r root ≡ Ok tree → selected_tree i root ≡ selected_tree r root
    → (key : List ℕ) → pages_of i key tree ≡ pages_of r key tree
same_pages i r root tree a b same key = row_same (page_in i key tree) (page_in r key tree) (length tree.nodes)
    (λ k lt. ap (page_of key tree.head (at_node tree.nodes (k + 1)) k) (same_block i r root tree a b same k lt))

opened_by : (wrap i r : List ℕ) (root : RootRef) (x : Result Loaded TreeFault) → load_of i root ≡ x → load_of r root ≡ x → selected_tree i root ≡ selected_tree r root
    → opened_in i wrap x ≡ opened_in r wrap x
opened_by wrap i r root (Err fault) a b same = refl
opened_by wrap i r root (Ok tree) a b same =
    ap (λ (pages : _). Ok (record { bytes = tree.head.length; pages = pages })) (same_pages i r root tree a b same (unwrapped_of wrap tree.head.wrapped))

-- two images in which a reference selects the same and loads alike open alike
pub opened_same : (wrap i r : List ℕ) (root : RootRef) → selected_tree i root ≡ selected_tree r root → load_of i root ≡ load_of r root
    → opened_of wrap i root ≡ opened_of wrap r root
opened_same wrap i r root same loads = opened_by wrap i r root (load_of i root) refl (sym loads) same ∙ ap (opened_in r wrap) loads

-- a bad page is one of the first so many
bad_below : (pages : List (Option (List ℕ))) (k count j : ℕ) → first_bad pages k count ≡ Some j → j < k + count
unfolding first_bad
bad_below pages k zero j is = absurd (cc (is))
bad_below pages k (suc count) j is =
    by_page (is_none (get_or pages k None)) (first_bad pages (k + 1) count) (λ later. bad_below pages (k + 1) count j later) is
  where
    by_page : (b : Bool) (rest : Option ℕ) → (rest ≡ Some j → j < k + 1 + count) → cond b (Some k) rest ≡ Some j → j < k + suc count
    by_page true rest later found = let e : k ≡ j = cc in omega arith
    by_page false rest later found = let h : j < k + 1 + count = later found in omega arith

-- a tree that loads has a node for each block that holds bytes
pub blocks_within : (image : List ℕ) (root : RootRef) (tree : Loaded) → load_of image root ≡ Ok tree → blocks_of tree.head.length ≤ length tree.nodes
blocks_within image root tree is =
    let l : IsLoaded image root tree = loaded_from image root tree is in
    let greatest : tree.head.greatest ≡ max 1 ((tree.head.length + 4095) / 4096) = sized_greatest tree.head l.hashed.sized in
    omega (arith, greatest, l.hashed.all)

module _ (a b : List ℕ) (root : RootRef) (tree : Loaded) (what : SelectedTree) (at : OpensTo root tree what a) (bt : OpensTo root tree what b) where
  same_or : (key : List ℕ) (pages : List (Option (List ℕ))) (bad : Option ℕ) → ((k : ℕ) → bad ≡ Some k → k < length tree.nodes) → or_bad a key tree pages bad ≡ or_bad b key tree pages bad
  same_or key pages None below = refl
  same_or key pages (Some k) below =
      ap (λ (c : List ℕ). let r : Result (List (Option DirEntry)) DirFault = Err (Tree (BadTag k (at_node tree.nodes (k + 1)).tag (tag_of key tree.head (at_node tree.nodes (k + 1)) k c))) in r)
      (same_block a b root tree at.opens bt.opens (at.selects ∙ sym bt.selects) k (below k refl))

  -- the directory is the same
  pub directory_same : (tsk : List ℕ) → directory_of tsk a root ≡ directory_of tsk b root
  unfolding directory_of
  directory_same tsk =
      let key : List ℕ = unwrapped_of tsk tree.head.wrapped in
      let count : ℕ = blocks_of tree.head.length in
      let few : count ≤ length tree.nodes = blocks_within a root tree at.opens in
      ap (directory_or tsk a) at.opens
      ∙ same_or key (pages_of a key tree) (first_bad (pages_of a key tree) 0 count) (λ k is. let h : k < 0 + count = bad_below (pages_of a key tree) 0 count k is in omega arith)
      ∙ ap (λ (p : List (Option (List ℕ))). or_bad b key tree p (first_bad p 0 count)) (same_pages a b root tree at.opens bt.opens (at.selects ∙ sym bt.selects) key)
      ∙ sym (ap (directory_or tsk b) bt.opens)
