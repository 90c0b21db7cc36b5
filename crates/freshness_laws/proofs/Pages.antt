-- Each page that is good in two trees that were read under one reference is equal, or they clash.
use Rattle.std.proofs.Common.{◌≡◌, ◌⊎◌, ◌+◌, ◌<◌, ℕ, Bool, true, false, List, length, Option, Some, None, refl, sym, ap, ◌∙◌, inl, inr, arith}
use Rattle.std.proofs.lemmas.Bool.{cases_lt, eq-eqb}
use Rattle.std.proofs.lemmas.List.{get_or_past}
use Rattle.std.specs.Str.{bytes_eq}
use Rattle.aes_block.specs.WrappedKey.{unwrapped_of}
use Rattle.node_image.specs.declared.node.RootRef.{RootRef}
use Rattle.node_image.specs.declared.head.Head.{Head}
use Rattle.node_image.specs.Tables.{at_node}
use Rattle.node_image.proofs.Matching.{length-row, row_at}
use Rattle.htree_file.specs.Pages.{page_of}
use Rattle.htree_file.proofs.SameBytes.{not_same, same_is}
use Rattle.page_bytes.specs.Pages.{page_at}
use Rattle.core_laws.specs.Decodings.{Decoding, opened_decoded, page_decoded, pages_decoded}
use Rattle.core_laws.specs.Clashes.{BlocksClash, Clash, IsAlike}
use Rattle.core_laws.proofs.Comparing.{search_all}
use Rattle.core_laws.proofs.Mending.{none_some, some_same}
use Rattle.core_laws.proofs.SameTrees.{alike_trees}
use Rattle.core_laws.proofs.ReplayState.{page_same}
use Rattle.freshness_laws.specs.Readings.{OpenedAgree, ReadPagesAgree, ReadTree, ReadTreesAgree, every_block, only_block, decoding_read}

module _ (one other : Decoding) (key : one.key ≡ other.key) (alike : IsAlike one.tree other.tree) where
  -- one ciphertext has one page in both
  pub page_alike : (k : ℕ) (text : List ℕ) → k < length one.tree.nodes
      → page_of one.key one.tree.head (at_node one.tree.nodes (k + 1)) k text ≡ page_of other.key other.tree.head (at_node other.tree.nodes (k + 1)) k text
  page_alike k text lt =
      let n = alike.nodes (k + 1) (omega arith) (omega (arith, lt)) in
      page_same one.key other.key one.tree.head other.tree.head (at_node one.tree.nodes (k + 1)) (at_node other.tree.nodes (k + 1)) k text text key
      (ap (λ (h : Head). h.wrapped) alike.head) n.iv n.tag refl

  -- two pages of a block are one, or their ciphertexts clash
  pub block_or : (asked : ℕ → Bool) (k : ℕ) → asked k ≡ true → k < length one.tree.nodes
      → (page another : List ℕ) → page_decoded one k ≡ Some page → page_decoded other k ≡ Some another → (another ≡ page) ⊎ BlocksClash asked one other
  block_or asked k is lt page another good good_too = by_text (bytes_eq (one.block k) (other.block k)) refl
    where
      by_text : (b : Bool) → bytes_eq (one.block k) (other.block k) ≡ b → (another ≡ page) ⊎ BlocksClash asked one other
      by_text true e =
          inl (some_same another page (sym good_too
          ∙ sym (ap (page_of other.key other.tree.head (at_node other.tree.nodes (k + 1)) k) (same_is (one.block k) (other.block k) e))
          ∙ sym (page_alike k (one.block k) lt) ∙ good))
      by_text false e = inr (record {
        key = key;
        tree = alike;
        k = k;
        is_asked = is;
        clash = record {
          differ = not_same (one.block k) (other.block k) e;
          page = page;
          opens = sym (page_alike k (one.block k) lt) ∙ good;
          page_other = another;
          opens_other = good_too;
        };
      })

  abbrev Agrees : ℕ → Type 0
  Agrees k = (page another : List ℕ) → page_decoded one k ≡ Some page → page_decoded other k ≡ Some another → another ≡ page

  agrees_or : (asked : ℕ → Bool) (k : ℕ) → asked k ≡ true → k < length one.tree.nodes → Agrees k ⊎ BlocksClash asked one other
  agrees_or asked k is lt = by_pages (page_decoded one k) refl (page_decoded other k) refl
    where
      by_pages : (x : Option (List ℕ)) → page_decoded one k ≡ x → (y : Option (List ℕ)) → page_decoded other k ≡ y → Agrees k ⊎ BlocksClash asked one other
      by_pages None e y f = inl (λ page another good good_too. absurd (none_some page (sym e ∙ good)))
      by_pages (Some p) e None f = inl (λ page another good good_too. absurd (none_some another (sym f ∙ good_too)))
      by_pages (Some p) e (Some q) f = elim (block_or asked k is lt p q e f) [
        | inr clash ↦ inr clash
        | inl same ↦ inl (λ page another good good_too. some_same another q (sym good_too ∙ f) ∙ same ∙ some_same p page (sym e ∙ good))
      ]

  -- a page that is there is one of the tree's
  page_there : (sp : Decoding) (k : ℕ) (page : List ℕ) → page_at (pages_decoded sp) k ≡ Some page → (k < length sp.tree.nodes) × (page_decoded sp k ≡ Some page)
  page_there sp k page is = elim (cases_lt k (length sp.tree.nodes)) [
    | inl lt ↦ (lt, sym (row_at (page_decoded sp) (length sp.tree.nodes) k None lt) ∙ is)
    | inr past ↦ absurd (none_some page (sym (get_or_past (pages_decoded sp) k None (omega (arith, past, length-row (page_decoded sp) (length sp.tree.nodes)))) ∙ is))
  ]

  pub opened_or : OpenedAgree (opened_decoded one) (opened_decoded other) ⊎ BlocksClash every_block one other
  opened_or = elim (search_all (length one.tree.nodes) Agrees (BlocksClash every_block one other) (λ k lt. agrees_or every_block k refl lt)) [
    | inr clash ↦ inr clash
    | inl each ↦ inl (record {
      bytes = sym (ap (λ (h : Head). h.length) alike.head);
      count = length-row (page_decoded other) (length other.tree.nodes) ∙ sym alike.count ∙ sym (length-row (page_decoded one) (length one.tree.nodes));
      pages = λ k page another good good_too.
          let here = page_there one k page good in
          each k here.0 page another here.1 (page_there other k another good_too).1;
    })
  ]

module _ (wrap : List ℕ) (root : RootRef) (one other : ReadTree root) where
  pub same_key : IsAlike one.tree other.tree → (decoding_read wrap one).key ≡ (decoding_read wrap other).key
  same_key alike = ap (λ (h : Head). unwrapped_of wrap h.wrapped) alike.head

  pub read_or : OpenedAgree (opened_decoded (decoding_read wrap one)) (opened_decoded (decoding_read wrap other)) ⊎ Clash every_block (decoding_read wrap one) (decoding_read wrap other)
  read_or = elim (alike_trees root one.tree other.tree one.verified other.verified) [
    | inr clash ↦ inr (inl clash)
    | inl alike ↦ elim (opened_or (decoding_read wrap one) (decoding_read wrap other) (same_key alike) alike) [
      | inl agree ↦ inl agree
      | inr clash ↦ inr (inr clash)
    ]
  ]

  pub page_or : (k : ℕ) (page another : List ℕ) → k < length (one.tree).nodes → page_decoded (decoding_read wrap one) k ≡ Some page → page_decoded (decoding_read wrap other) k ≡ Some another
      → (another ≡ page) ⊎ Clash (only_block k) (decoding_read wrap one) (decoding_read wrap other)
  page_or k page another lt good good_too = elim (alike_trees root one.tree other.tree one.verified other.verified) [
    | inr clash ↦ inr (inl clash)
    | inl alike ↦ elim (block_or (decoding_read wrap one) (decoding_read wrap other) (same_key alike) alike (only_block k) k own lt page another good good_too) [
      | inl same ↦ inl same
      | inr clash ↦ inr (inr clash)
    ]
  ]
    where
      own : only_block k k ≡ true
      own = eq-eqb k k refl

pub trees_agree : ReadTreesAgree
trees_agree wrap root one other = read_or wrap root one other

pub pages_agree : ReadPagesAgree
pages_agree wrap root one other k page another lt good good_too = page_or wrap root one other k page another lt good good_too
