-- What stands for a version: by which tree, and which of its pages are good.
use Rattle.std.proofs.Common.{◌&&◌, ◌≡◌, ◌+◌, ℕ, Bool, true, false, cond, List, ◌++◌, Option, Some, None, option_map, Result, Ok, Err, refl, sym, ap, ◌∙◌, subst}
use Rattle.std.specs.Int.{w32, to_be_bytes}
use Rattle.std.specs.Prelude.{unwrap_or}
use Rattle.std.specs.Str.{bytes_eq}
use Rattle.aes_block.specs.Cipher.{cipher}
use Rattle.aes_block.specs.WrappedKey.{unwrapped_of}
use Rattle.gcm_mode.specs.Gcm.{gcm_tag, gcm_text}
use Rattle.node_image.specs.declared.node.NodeImage.{NodeImage}
use Rattle.node_image.specs.declared.head.Head.{Head}
use Rattle.node_image.specs.Tables.{at_node}
use Rattle.htree_file.specs.declared.fault.TreeFault.{TreeFault}
use Rattle.htree_file.specs.Changes.{SealsAt}
use Rattle.htree_file.specs.Opening.{IsVerified, Loaded}
use Rattle.htree_file.specs.Pages.{is_block, page_of}
use Rattle.hmac_keys.specs.declared.Keys.{Keys}
use Rattle.crash_core.specs.DeviceKeys.{object_key}
use Rattle.history_seats.specs.Numbers.{is_in}
use Rattle.history_seats.specs.Records.{Version}
use Rattle.core_laws.specs.Decodings.{IsReal, Decoding, block_of, page_decoded, tree_decoding, tree_decoding_if, decoding_of, with_committed, wrap_of}
use Rattle.core_laws.specs.TamperScenarios.{TamperScenario, VerifiedTree, block_or, mended, supposed_under, tree_or, tree_supposed, under}
use Rattle.core_laws.specs.TreeLaws.{KeepsGood, ScenariosAreVerified}
use Rattle.core_laws.proofs.Mending.{good_stays, none_some, some_same}

-- a page is told by the key, the wrapped key, the node's vector and tag, and the ciphertext
pub page_same : (key other : List ℕ) (h g : Head) (n m : NodeImage) (k : ℕ) (c d : List ℕ) → key ≡ other → h.wrapped ≡ g.wrapped → n.iv ≡ m.iv → n.tag ≡ m.tag → c ≡ d
    → page_of key h n k c ≡ page_of other g m k d
page_same key other h g n m k c d keys wrapped iv tag text =
    λ i. cond (is_block (text i) && bytes_eq (tag i) (gcm_tag (cipher (keys i)) (iv i) (wrapped i ++ to_be_bytes w32 k) (text i))) (Some (gcm_text (cipher (keys i)) (iv i) (text i))) None

module _ (keys : Keys) (scenario : TamperScenario) (file generation : ℕ) (v : Version) where
  -- the spelling of a tree of this version, mended where its file is not honest
  abbrev pub decoded_with : Bool → Loaded → Decoding
  decoded_with b tree = cond b (mended (scenario.blocks file generation) (tree_decoding (wrap_of keys v) (block_of v) tree)) (tree_decoding (wrap_of keys v) (block_of v) tree)

  -- its tree, of which it is the spelling
  pub record IsBy (sp : Decoding) : Type 0 where
    pub tree : Loaded
    pub is : decoded_with (is_in file scenario.tampered) tree ≡ sp
    pub verified : IsReal keys v → IsVerified v.root tree

  pub by_tree : (sp : Decoding) → under keys scenario file generation v ≡ Some sp → IsBy sp
  by_tree sp stands = by_test (is_in file scenario.tampered) refl stands
    where
      by_supposed : (t : Option (VerifiedTree v.root)) (fault : TreeFault) → v.loads ≡ Err fault → is_in file scenario.tampered ≡ true
          → option_map (λ tree. mended (scenario.blocks file generation) (tree_decoding (wrap_of keys v) (block_of v) tree)) (tree_supposed t) ≡ Some sp → IsBy sp
      by_supposed None fault is b e = absurd (none_some sp e)
      by_supposed (Some t) fault is b e = record {
        tree = t.tree;
        is = ap (λ (q : Bool). decoded_with q t.tree) b ∙ some_same (mended (scenario.blocks file generation) (tree_decoding (wrap_of keys v) (block_of v) t.tree)) sp e;
        verified = λ real. t.verified;
      }

      by_load : (r : Result Loaded TreeFault) → v.loads ≡ r → is_in file scenario.tampered ≡ true
          → option_map (λ tree. mended (scenario.blocks file generation) (tree_decoding (wrap_of keys v) (block_of v) tree)) (tree_or r (scenario.trees file generation v.root)) ≡ Some sp → IsBy sp
      by_load (Ok tree) is b e = record {
        tree = tree;
        is = ap (λ (q : Bool). decoded_with q tree) b ∙ some_same (mended (scenario.blocks file generation) (tree_decoding (wrap_of keys v) (block_of v) tree)) sp e;
        verified = λ real. real.verified tree is;
      }
      by_load (Err fault) is b e = by_supposed (scenario.trees file generation v.root) fault is b e

      by_own : (r : Result Loaded TreeFault) → v.loads ≡ r → is_in file scenario.tampered ≡ false → tree_decoding_if (wrap_of keys v) (block_of v) r ≡ Some sp → IsBy sp
      by_own (Ok tree) is b e = record {
        tree = tree;
        is = ap (λ (q : Bool). decoded_with q tree) b ∙ some_same (tree_decoding (wrap_of keys v) (block_of v) tree) sp e;
        verified = λ real. real.verified tree is;
      }
      by_own (Err fault) is b e = absurd (none_some sp e)

      by_test : (b : Bool) → is_in file scenario.tampered ≡ b → cond b (supposed_under keys scenario file generation v) (decoding_of keys v) ≡ Some sp → IsBy sp
      by_test true b e = by_load v.loads refl b e
      by_test false b e = by_own v.loads refl b e

  with-tree : (b : Bool) (tree : Loaded) → (decoded_with b tree).tree ≡ tree
  with-tree true tree = refl
  with-tree false tree = refl

  -- what stands is verified under the version's reference, with the key that it wraps
  pub verified_under : (sp : Decoding) → under keys scenario file generation v ≡ Some sp → IsReal keys v → IsVerified v.root sp.tree
  verified_under sp stands real =
      let x = by_tree sp stands in
      subst (IsVerified v.root) (sym (with-tree (is_in file scenario.tampered) x.tree) ∙ ap (λ (s : Decoding). s.tree) x.is) (x.verified real)

  pub key_under : (sp : Decoding) → under keys scenario file generation v ≡ Some sp → sp.key ≡ unwrapped_of (wrap_of keys v) sp.tree.head.wrapped
  key_under sp stands =
      let x = by_tree sp stands in
      subst (λ (s : Decoding). s.key ≡ unwrapped_of (wrap_of keys v) s.tree.head.wrapped) x.is (by_test (is_in file scenario.tampered) x.tree)
    where
      by_test : (b : Bool) (tree : Loaded) → (decoded_with b tree).key ≡ unwrapped_of (wrap_of keys v) (decoded_with b tree).tree.head.wrapped
      by_test true tree = refl
      by_test false tree = refl

  pub own_under : (tree : Loaded) → v.loads ≡ Ok tree → under keys scenario file generation v ≡ Some (decoded_with (is_in file scenario.tampered) tree)
  own_under tree loads = by_test (is_in file scenario.tampered)
    where
      by_test : (b : Bool) → cond b (supposed_under keys scenario file generation v) (decoding_of keys v) ≡ Some (decoded_with b tree)
      by_test true =
          ap (λ (r : Result Loaded TreeFault). option_map (λ t. mended (scenario.blocks file generation) (tree_decoding (wrap_of keys v) (block_of v) t)) (tree_or r (scenario.trees file generation v.root))) loads
      by_test false = ap (tree_decoding_if (wrap_of keys v) (block_of v)) loads

  -- what stands for a version whose tree loads
  pub keeps_own : (own : Decoding) → decoding_of keys v ≡ Some own → KeepsGood keys scenario file generation v own
  keeps_own own is = by_test (is_in file scenario.tampered) refl
    where
      by_load : (r : Result Loaded TreeFault) → v.loads ≡ r → tree_decoding_if (wrap_of keys v) (block_of v) r ≡ Some own → is_in file scenario.tampered ≡ true → KeepsGood keys scenario file generation v own
      by_load (Ok tree) loads e b =
          let same : tree_decoding (wrap_of keys v) (block_of v) tree ≡ own = some_same (tree_decoding (wrap_of keys v) (block_of v) tree) own e in
          record {
            sp = mended (scenario.blocks file generation) own;
            stands =
                ap (λ (q : Bool). cond q (supposed_under keys scenario file generation v) (decoding_of keys v)) b
                ∙ ap (λ (r : Result Loaded TreeFault). option_map (λ t. mended (scenario.blocks file generation) (tree_decoding (wrap_of keys v) (block_of v) t)) (tree_or r (scenario.trees file generation v.root))) loads
                ∙ ap (λ (s : Decoding). Some (mended (scenario.blocks file generation) s)) same;
            tree = refl;
            good = good_stays (scenario.blocks file generation) own;
          }
      by_load (Err fault) loads e b = absurd (none_some own e)

      by_test : (b : Bool) → is_in file scenario.tampered ≡ b → KeepsGood keys scenario file generation v own
      by_test true b = by_load v.loads refl is b
      by_test false b = record {
        sp = own;
        stands = ap (λ (q : Bool). cond q (supposed_under keys scenario file generation v) (decoding_of keys v)) b ∙ is;
        tree = refl;
        good = λ k page e. e;
      }

-- a block that is bad has the ciphertext that is supposed, or its own
page-bad : (supposed : ℕ → Option (List ℕ)) (sp : Decoding) (k : ℕ) → page_decoded sp k ≡ None
    → page_decoded (mended supposed sp) k ≡ page_of sp.key sp.tree.head (at_node sp.tree.nodes (k + 1)) k (unwrap_or (supposed k) (sp.block k))
page-bad supposed sp k bad = ap (λ (o : Option (List ℕ)). page_of sp.key sp.tree.head (at_node sp.tree.nodes (k + 1)) k (block_or o (sp.block k) (supposed k))) bad

-- A block that a change does not meet has the page in the next version that it had: its node is sealed as before, and what is committed gives
-- the page that it gave, or is bad as it was.
module _ (keys : Keys) (scenario : TamperScenario) (file generation : ℕ) (v next : Version) (k : ℕ) (app : next.app ≡ v.app) where
  abbrev decoded_old : Loaded → Decoding
  decoded_old tree = tree_decoding (wrap_of keys v) (block_of v) tree

  abbrev decoded_new : Loaded → Decoding
  decoded_new tree = tree_decoding (wrap_of keys next) (block_of next) tree

  abbrev supposed : ℕ → Option (List ℕ)
  supposed = scenario.blocks file generation

  -- two trees whose nodes seal block k alike
  pub record IsUnmet (a b : Loaded) : Type 0 where
    pub wrapped : b.head.wrapped ≡ a.head.wrapped
    pub iv : (at_node b.nodes (k + 1)).iv ≡ (at_node a.nodes (k + 1)).iv
    pub tag : (at_node b.nodes (k + 1)).tag ≡ (at_node a.nodes (k + 1)).tag
    pub page : page_decoded (decoded_new b) k ≡ page_decoded (decoded_old a) k

  -- where both are bad, the ciphertext that is supposed gives one page, and where nothing is supposed both stay bad
  both-bad : (a b : Loaded) → IsUnmet a b → page_decoded (decoded_old a) k ≡ None → (o : Option (List ℕ)) → supposed k ≡ o
      → page_decoded (mended supposed (decoded_new b)) k ≡ page_decoded (mended supposed (decoded_old a)) k
  both-bad a b u bad o is =
      page-bad supposed (decoded_new b) k (u.page ∙ bad)
      ∙ ap (λ (c : Option (List ℕ)). page_of (decoded_new b).key b.head (at_node b.nodes (k + 1)) k (unwrap_or c (block_of next k))) is
      ∙ by_supposed o
      ∙ ap (λ (c : Option (List ℕ)). page_of (decoded_old a).key a.head (at_node a.nodes (k + 1)) k (unwrap_or c (block_of v k))) (sym is)
      ∙ sym (page-bad supposed (decoded_old a) k bad)
    where
      by_supposed : (c : Option (List ℕ)) → page_of (decoded_new b).key b.head (at_node b.nodes (k + 1)) k (unwrap_or c (block_of next k))
          ≡ page_of (decoded_old a).key a.head (at_node a.nodes (k + 1)) k (unwrap_or c (block_of v k))
      by_supposed (Some text) =
          page_same (decoded_new b).key (decoded_old a).key b.head a.head (at_node b.nodes (k + 1)) (at_node a.nodes (k + 1)) k text text
          (λ i. unwrapped_of (object_key keys (app i)) (u.wrapped i)) u.wrapped u.iv u.tag refl
      by_supposed None = u.page

  mended-page : (a b : Loaded) → IsUnmet a b → (o : Option (List ℕ)) → page_decoded (decoded_old a) k ≡ o → page_decoded (mended supposed (decoded_new b)) k ≡ page_decoded (mended supposed (decoded_old a)) k
  mended-page a b u (Some page) good = good_stays supposed (decoded_new b) k page (u.page ∙ good) ∙ sym (good_stays supposed (decoded_old a) k page good)
  mended-page a b u None bad = both-bad a b u bad (supposed k) refl

  with-page : (q : Bool) (a b : Loaded) → IsUnmet a b → page_decoded (decoded_with keys scenario file generation next q b) k ≡ page_decoded (decoded_with keys scenario file generation v q a) k
  with-page false a b u = u.page
  with-page true a b u = mended-page a b u (page_decoded (decoded_old a) k) refl

  tree-old : (q : Bool) (a : Loaded) → (decoded_with keys scenario file generation v q a).tree ≡ a
  tree-old true a = refl
  tree-old false a = refl

  tree-new : (q : Bool) (b : Loaded) → (decoded_with keys scenario file generation next q b).tree ≡ b
  tree-new true b = refl
  tree-new false b = refl

  -- with what is committed a spelling is the version's own
  own-old : (q : Bool) (a : Loaded) → page_decoded (with_committed v (decoded_with keys scenario file generation v q a)) k ≡ page_decoded (decoded_old a) k
  own-old true a = refl
  own-old false a = refl

  own-new : (q : Bool) (b : Loaded) → page_decoded (with_committed next (decoded_with keys scenario file generation next q b)) k ≡ page_decoded (decoded_new b) k
  own-new true b = refl
  own-new false b = refl

  pub unmet_page : (old new : Decoding) → under keys scenario file generation v ≡ Some old → under keys scenario file generation next ≡ Some new
      → new.tree.head.wrapped ≡ old.tree.head.wrapped → SealsAt old.key old.tree new.tree k None → page_decoded (with_committed next new) k ≡ page_decoded (with_committed v old) k
      → page_decoded new k ≡ page_decoded old k
  unmet_page old new stands stood wrapped seals page =
      let q = is_in file scenario.tampered in
      let x = by_tree keys scenario file generation v old stands in
      let y = by_tree keys scenario file generation next new stood in
      let a : old.tree ≡ x.tree = ap (λ (s : Decoding). s.tree) (sym x.is) ∙ tree-old q x.tree in
      let b : new.tree ≡ y.tree = ap (λ (s : Decoding). s.tree) (sym y.is) ∙ tree-new q y.tree in
      ap (λ (s : Decoding). page_decoded s k) (sym y.is)
      ∙ with-page q x.tree y.tree
      (record {
        wrapped = ap (λ (t : Loaded). t.head.wrapped) (sym b) ∙ wrapped ∙ ap (λ (t : Loaded). t.head.wrapped) a;
        iv = ap (λ (t : Loaded). (at_node t.nodes (k + 1)).iv) (sym b) ∙ seals.0 ∙ ap (λ (t : Loaded). (at_node t.nodes (k + 1)).iv) a;
        tag = ap (λ (t : Loaded). (at_node t.nodes (k + 1)).tag) (sym b) ∙ seals.1 ∙ ap (λ (t : Loaded). (at_node t.nodes (k + 1)).tag) a;
        page =
            sym (own-new q y.tree)
            ∙ ap (λ (s : Decoding). page_decoded (with_committed next s) k) y.is
            ∙ page
            ∙ ap (λ (s : Decoding). page_decoded (with_committed v s) k) (sym x.is)
            ∙ own-old q x.tree;
      })
      ∙ ap (λ (s : Decoding). page_decoded s k) x.is

pub spelled_under : ScenariosAreVerified
spelled_under keys scenario file generation v sp real stands = record {
  verified = verified_under keys scenario file generation v sp stands real;
  key = key_under keys scenario file generation v sp stands;
}
