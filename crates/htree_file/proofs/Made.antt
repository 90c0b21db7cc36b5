-- A tree that was made is the one that its reference names.
use Rattle.std.proofs.Common.{◌≡◌, ℕ, ◌<◌, ◌≤◌, List, [], length, get_or, map, Bool, true, Option, None, Some, Ok, refl, sym, ◌∙◌, ap, subst, arith}
use Rattle.std.proofs.lemmas.Bool.{false≢true}
use Rattle.std.proofs.lemmas.List.{get_or-map, length-map}
use Rattle.aes_block.specs.WrappedKey.{unwrapped_of}
use Rattle.node_image.specs.declared.node.NodeImage.{NodeImage}
use Rattle.node_image.specs.declared.node.RootRef.{RootRef}
use Rattle.node_image.specs.declared.head.Head.{Head}
use Rattle.node_image.specs.Layout.{is_sized}
use Rattle.node_image.specs.Parts.{layout_of}
use Rattle.node_image.specs.Tables.{at_node}
use Rattle.node_image.specs.Selection.{row}
use Rattle.node_image.proofs.Matching.{row_is}
use Rattle.htree_file.specs.declared.change.BlockChange.{BlockChange}
use Rattle.htree_file.specs.Changes.{IsChanged, Seals, block_at, numbered}
use Rattle.htree_file.specs.Opening.{IsVerified, Loaded, load_of}
use Rattle.htree_file.specs.Pages.{opened_in, opened_of, page_in}
use Rattle.htree_file.specs.Staging.{IsWritten}
use Rattle.htree_file.specs.Stages.{IsMade}
use Rattle.htree_file.proofs.ChangeLists.{length-numbered, numbered_block, numbered_page}
use Rattle.htree_file.proofs.Loadings.{loaded_is}
use Rattle.htree_file.proofs.Written.{sealed_at, written_loads, written_page, written_verified}

-- where all nodes and blocks are written
pub is_made : (format : ℕ) (known : Type 0) (file key : List ℕ) (top : Head) (changes : List BlockChange) (dirty : ℕ → Bool) (table : List NodeImage) → IsWritten (layout_of format) known file key top 0 changes dirty table
    → length table ≡ top.greatest → is_sized top ≡ true → ((n : ℕ) → 1 ≤ n → n ≤ length table → dirty n ≡ true) → ((k : ℕ) → k < length table → IsChanged changes k)
    → IsMade known file key (record { hash = (at_node table 1).hash; version = 0; format = format }) (record { head = top; nodes = table; layout = layout_of format }) changes
is_made format known file key top changes dirty table w all sized hits each =
    let verified : IsVerified (record { hash = (at_node table 1).hash; version = 0; format = format }) (record { head = top; nodes = table; layout = layout_of format }) =
    written_verified format known file key top 0 changes dirty table w all sized (λ n least most idle. absurd (false≢true (sym idle ∙ hits n least most))) in
    let mine : (j : ℕ) → j < length changes → IsChanged changes (block_at changes j) = λ j lt. record { place = j; below = lt; is = refl } in
    record {
      root_is = refl;
      verified = verified;
      loaded = λ is. loaded_is file _ (record { head = top; nodes = table; layout = layout_of format })
          (written_loads format known file key top 0 changes dirty table w is sized verified.hashed (λ n least most idle. absurd (false≢true (sym idle ∙ hits n least most)))
          (λ k lt. ((sealed_at format known file key top 0 changes dirty table w k (each k lt)).stands is).fits));
      opens = λ is j lt. written_page format known file key top 0 changes dirty table w is (block_at changes j) (mine j lt);
      seals = λ j lt. let sealed = sealed_at format known file key top 0 changes dirty table w (block_at changes j) (mine j lt) in (sealed.ciphertext, sealed.opens);
    }

-- so it is once the file is synced
pub made_on : (P Q : Type 0) (before after key : List ℕ) (root : RootRef) (tree : Loaded) (pages : List BlockChange) → (Q → P) → (Q → after ≡ before) → IsMade P before key root tree pages → IsMade Q after key root tree pages
made_on P Q before after key root tree pages known same made = record {
  root_is = made.root_is;
  verified = made.verified;
  loaded = λ is. ap (λ (l : List ℕ). load_of l root) (same is) ∙ made.loaded (known is);
  opens = λ is j lt. ap (λ (l : List ℕ). page_in l key tree (block_at pages j)) (same is) ∙ made.opens (known is) j lt;
  seals = made.seals;
}

-- its reference opens to the pages that were given
pub made_opens : (known : Type 0) (file key wrap : List ℕ) (root : RootRef) (tree : Loaded) (pages : List (List ℕ)) → IsMade known file key root tree (numbered pages 0) → known → length pages ≡ length tree.nodes
    → key ≡ unwrapped_of wrap tree.head.wrapped → opened_of wrap file root ≡ Ok (record { bytes = tree.head.length; pages = map (λ p. Some p) pages })
made_opens known file key wrap root tree pages made is many key_is =
    ap (opened_in file wrap) (made.loaded is)
    ∙ (λ i. Ok (record { bytes = tree.head.length; pages = row (page_in file (sym key_is i) tree) (length tree.nodes) }))
    ∙ ap (λ (l : List (Option (List ℕ))). Ok (record { bytes = tree.head.length; pages = l }))
    (row_is (page_in file key tree) (map (λ p. Some p) pages) (length tree.nodes) None (length-map pages (λ p. Some p) ∙ many)
    (λ k lt.
    let low : k < length pages = omega (arith, lt, many) in
    let here : block_at (numbered pages 0) k ≡ k = omega (arith, numbered_block pages 0 k low) in
    ap (page_in file key tree) (sym here) ∙ made.opens is k (omega (arith, low, length-numbered pages 0)) ∙ ap (λ (p : List ℕ). Some p) (numbered_page pages 0 k low)
    ∙ sym (get_or-map (λ p. Some p) pages k [] None low)))

pub made_seals : (known : Type 0) (file key : List ℕ) (root : RootRef) (tree : Loaded) (pages : List (List ℕ)) → IsMade known file key root tree (numbered pages 0)
    → (k : ℕ) → k < length pages → Seals key tree k (get_or pages k [])
made_seals known file key root tree pages made k lt =
    let here : block_at (numbered pages 0) k ≡ k = omega (arith, numbered_block pages 0 k lt) in
    subst (λ (m : ℕ). Seals key tree m (get_or pages k [])) here
    (subst (λ (p : List ℕ). Seals key tree (block_at (numbered pages 0) k) p) (numbered_page pages 0 k lt) (made.seals k (omega (arith, lt, length-numbered pages 0))))

-- by terms that are the same
pub made_over : (known : Type 0) (file : List ℕ) (r : RootRef) (ka kb : List ℕ) (ta tb : Loaded) (pa pb : List BlockChange) → ka ≡ kb → ta ≡ tb → pa ≡ pb → IsMade known file ka r ta pa → IsMade known file kb r tb pb
made_over known file r ka kb ta tb pa pb ek et ep made =
    subst (λ (p : List BlockChange). IsMade known file kb r tb p) ep (subst (λ (t : Loaded). IsMade known file kb r t pa) et (subst (λ (k : List ℕ). IsMade known file k r ta pa) ek made))
