-- What a version that is written comes to.
use Rattle.std.proofs.Common.{◌≡◌, inl, inr, ℕ, ◌+◌, ◌-◌, ◌≤◌, List, length, get_or, Bool, true, false, Some, refl, ◌∙◌, ap, subst, arith}
use Rattle.std.proofs.lemmas.Bool.{cases_Bool}
use Rattle.node_image.specs.declared.node.NodeImage.{NodeImage}
use Rattle.node_image.specs.declared.node.RootRef.{RootRef}
use Rattle.node_image.specs.declared.head.Head.{Head}
use Rattle.node_image.specs.Layout.{has_form, head_of, is_sized, node_of}
use Rattle.node_image.specs.Parts.{layout_of}
use Rattle.node_image.specs.Tables.{at_node, hash_in, no_node, node_version}
use Rattle.node_image.specs.Selection.{node_in}
use Rattle.htree_file.specs.declared.change.BlockChange.{BlockChange}
use Rattle.htree_file.specs.Changes.{IsChanged, page_at}
use Rattle.htree_file.specs.Opening.{HasFields, IsHashed, IsVerified, Loaded}
use Rattle.htree_file.specs.Pages.{page_in, page_of}
use Rattle.htree_file.specs.Selected.{BlocksEnd, IsLoaded}
use Rattle.htree_file.specs.Staging.{IsSealed, IsWritten}
use Rattle.htree_file.proofs.Sizes.{returned_fields, returned_width}

module _ (format : ℕ) (known : Type 0) (file key : List ℕ) (top : Head) (root : ℕ) (changes : List BlockChange) (set : ℕ → Bool) (table : List NodeImage)
    (w : IsWritten (layout_of format) known file key top root changes set table) where
  abbrev pub new_root : RootRef
  new_root = record { hash = (at_node table 1).hash; version = root; format = format }

  abbrev pub new_tree : Loaded
  new_tree = record { head = top; nodes = table; layout = layout_of format }

  -- a page of the changes, by the node of its block
  pub sealed_at : (k : ℕ) (c : IsChanged changes k) → IsSealed (layout_of format) known file key top (at_node table (k + 1)) k (page_at changes c.place)
  sealed_at k c =
      let e : k ≡ (k + 1) - 1 = omega arith in
      subst (λ (m : ℕ). IsSealed (layout_of format) known file key top (get_or table m no_node) k (page_at changes c.place)) e
      (subst (λ (m : ℕ). IsSealed (layout_of format) known file key top (get_or table m no_node) m (page_at changes c.place)) c.is (w.sealed c.place c.below))

  pub written_page : known → (k : ℕ) (c : IsChanged changes k) → page_in file key (record { head = top; nodes = table; layout = layout_of format }) k ≡ Some (page_at changes c.place)
  written_page is k c = let sealed = sealed_at k c in ap (page_of key top (at_node table (k + 1)) k) (sealed.stands is).is ∙ sealed.opens

  -- its hashes hold where its other nodes have their own
  pub written_hashed : length table ≡ top.greatest → is_sized top ≡ true
      → ((n : ℕ) → 1 ≤ n → n ≤ length table → set n ≡ false → (at_node table n).hash ≡ hash_in table top n)
      → IsHashed (record { hash = (at_node table 1).hash; version = root; format = format }) (record { head = top; nodes = table; layout = layout_of format })
  written_hashed all sized rest = record {
    sized = sized;
    all = all;
    stands = refl;
    root_hash = refl;
    hashes = λ n least most. elim (cases_Bool (set n)) [
      | inl hit ↦ w.hashed n (omega arith) most hit
      | inr idle ↦ rest n least most idle
    ];
  }

  -- and it is verified where these have their widths
  pub written_verified : length table ≡ top.greatest → is_sized top ≡ true
      → ((n : ℕ) → 1 ≤ n → n ≤ length table → set n ≡ false → ((at_node table n).hash ≡ hash_in table top n) × HasFields (at_node table n))
      → IsVerified (record { hash = (at_node table 1).hash; version = root; format = format }) (record { head = top; nodes = table; layout = layout_of format })
  written_verified all sized rest = record {
    hashed = written_hashed all sized (λ n least most idle. (rest n least most idle).0);
    wrapped = returned_width top w.top_returns;
    fields = λ n least most. elim (cases_Bool (set n)) [
      | inl hit ↦ returned_fields (at_node table n) (w.nodes n least most hit).returns (w.nodes n least most hit).bytes
      | inr idle ↦ (rest n least most idle).1
    ];
  }

  -- and it loads where these stand too
  pub written_loads : known → is_sized top ≡ true → IsHashed (record { hash = (at_node table 1).hash; version = root; format = format }) (record { head = top; nodes = table; layout = layout_of format })
      → ((n : ℕ) → 1 ≤ n → n ≤ length table → set n ≡ false → node_in (layout_of format) file n (node_version table root n) ≡ at_node table n) → BlocksEnd (layout_of format) file table
      → IsLoaded file (record { hash = (at_node table 1).hash; version = root; format = format }) (record { head = top; nodes = table; layout = layout_of format })
  written_loads is sized hashed nodes ends = record {
    form = ap has_form (w.top_stands is).is ∙ w.top_returns.form ∙ sized;
    top = ap head_of (w.top_stands is).is ∙ w.top_returns.read;
    matches = λ n least most. elim (cases_Bool (set n)) [
      | inl hit ↦ let stands = w.nodes n least most hit in ap node_of (stands.stands is).is ∙ stands.returns
      | inr idle ↦ nodes n least most idle
    ];
    hashed = hashed;
    ends = ends;
  }
