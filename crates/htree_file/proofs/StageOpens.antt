-- What the next reference opens to: the old pages with the changes.
use Rattle.std.proofs.Common.{◌≡◌, ℕ, ◌+◌, ◌<◌, List, length, get_or, Option, None, Some, Ok, refl, sym, ◌∙◌, ap}
use Rattle.aes_block.specs.WrappedKey.{unwrapped_of}
use Rattle.node_image.specs.declared.node.NodeImage.{NodeImage}
use Rattle.node_image.specs.declared.node.RootRef.{RootRef}
use Rattle.node_image.specs.declared.head.Head.{Head}
use Rattle.node_image.specs.Layout.{greatest_of}
use Rattle.node_image.specs.Parts.{Layout}
use Rattle.node_image.specs.Tables.{at_node}
use Rattle.node_image.specs.Selection.{row}
use Rattle.node_image.proofs.Matching.{row_at, row_same}
use Rattle.htree_file.specs.declared.change.BlockChange.{BlockChange}
use Rattle.htree_file.specs.Changes.{AreChanges, OpensAfter, page_after, page_for}
use Rattle.htree_file.specs.Opening.{Loaded, load_of}
use Rattle.htree_file.specs.Pages.{Opened, block_in, opened_in, page_in, page_of}
use Rattle.htree_file.specs.Staging.{wanted_page}
use Rattle.htree_file.proofs.ChangeLists.{unchanged_old}

-- of a head a block's page knows the wrapped key alone
page_wrapped : (key : List ℕ) (h top : Head) (n : NodeImage) (k : ℕ) (ciphertext : List ℕ) → top.wrapped ≡ h.wrapped → page_of key top n k ciphertext ≡ page_of key h n k ciphertext
page_wrapped key h top n k ciphertext same = ap (λ (w : List ℕ). page_of key (record { wrapped = w; length = 0; greatest = 0 }) n k ciphertext) same

-- where there is a change the old page doesn't matter
after_same : (o x y : Option (List ℕ)) → (o ≡ None → x ≡ y) → page_after o x ≡ page_after o y
after_same None x y same = same refl
after_same (Some page) x y same = refl

module _ (layout : Layout) (before after : List ℕ) (root next_root : RootRef) (key : List ℕ) (was top : Head) (nodes next : List NodeImage) (changes : List BlockChange)
    (loads : load_of before root ≡ Ok (record { head = was; nodes = nodes; layout = layout })) (next_loads : load_of after next_root ≡ Ok (record { head = top; nodes = next; layout = layout }))
    (wrapped : top.wrapped ≡ was.wrapped) (many : length next ≡ greatest_of top.length) (are : AreChanges (length nodes) (length next) changes)
    (pages : (k : ℕ) → k < length next → page_in after key (record { head = top; nodes = next; layout = layout }) k ≡ wanted_page layout before key top nodes changes k) where
  abbrev tree : Loaded
  tree = record { head = was; nodes = nodes; layout = layout }

  abbrev new_tree : Loaded
  new_tree = record { head = top; nodes = next; layout = layout }

  one_page : (old : Opened) → old.pages ≡ row (page_in before key tree) (length nodes) → (k : ℕ) → k < length next → page_in after key new_tree k ≡ page_after (page_for changes k) (get_or old.pages k None)
  one_page old is k lt =
      pages k lt ∙ after_same (page_for changes k) (page_in before key (record { head = top; nodes = nodes; layout = layout }) k) (get_or old.pages k None)
      (λ none.
      let within : k < length nodes = unchanged_old (length nodes) (length next) changes k are lt none in
      page_wrapped key was top (at_node nodes (k + 1)) k (block_in before tree k) wrapped
      ∙ sym (ap (λ (l : List (Option (List ℕ))). get_or l k None) is ∙ row_at (page_in before key tree) (length nodes) k None within))

  pub opens_after : OpensAfter key was.wrapped before root after next_root top.length changes
  opens_after wrap old is opened =
      let unwrapped : key ≡ unwrapped_of wrap top.wrapped = is ∙ ap (unwrapped_of wrap) (sym wrapped) in
      let was_opened : opened_in before wrap (Ok tree) ≡ Ok old = ap (opened_in before wrap) (sym loads) ∙ opened in
      let same : ◌≡◌ {A = Opened} (record { bytes = was.length; pages = row (page_in before (unwrapped_of wrap was.wrapped) tree) (length nodes) }) old = cc (was_opened) in
      let old_pages : old.pages ≡ row (page_in before key tree) (length nodes) = sym (ap (λ (o : Opened). o.pages) same) ∙ ap (λ (x : List ℕ). row (page_in before x tree) (length nodes)) (sym is) in
      ap (opened_in after wrap) next_loads
      ∙ ap (λ (x : List ℕ). Ok (record { bytes = top.length; pages = row (page_in after x new_tree) (length next) })) (sym unwrapped)
      ∙ ap (λ (l : List (Option (List ℕ))). Ok (record { bytes = top.length; pages = l })) (row_same (page_in after key new_tree) (λ k. page_after (page_for changes k) (get_or old.pages k None)) (length next) (one_page old old_pages))
      ∙ ap (λ (n : ℕ). Ok (record { bytes = top.length; pages = row (λ k. page_after (page_for changes k) (get_or old.pages k None)) n })) many
