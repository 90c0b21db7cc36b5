-- What the input of a node's hash tells of the node.
use Rattle.std.proofs.Common.{◌≡◌, ◌<◌, ◌^◌, ℕ, List, [], ◌∷◌, ◌++◌, length, ◌==◌, ◌+◌, ◌*◌, ◌≤◌, Bool, true, false, cond, nat_le, Option, None, Some, refl, sym, ap, ◌∙◌, arith, append_assoc}
use Rattle.std.specs.Int.{w16, w32, w64, from_be_bytes, to_be_bytes}
use Rattle.std.proofs.lemmas.Nat.{from_be_bytes-to_be_bytes_4, from_be_bytes-to_be_bytes_8}
use Rattle.node_image.specs.declared.node.NodeImage.{NodeImage}
use Rattle.node_image.specs.declared.head.Head.{Head}
use Rattle.node_image.specs.Hashes.{child_input, hash_input, head_input}
use Rattle.htree_file.specs.Opening.{HasFields, HaveFields, Loaded}
use Rattle.htree_file.proofs.ByteLists.{bytes-append, number-bytes}
use Rattle.node_image.specs.Tables.{at_node, stored_hash}
use Rattle.core_laws.specs.Clashes.{input_at}
use Rattle.disk_model.specs.Bytes.{AreBytes}
use Rattle.std.proofs.lemmas.Bool.{leb-true}
use Rattle.core_laws.proofs.Places.{head_same, tail_same}

-- two joined lists whose fronts are as long
pub split : (xs us ys vs : List ℕ) → length xs ≡ length us → xs ++ ys ≡ us ++ vs → (xs ≡ us) × (ys ≡ vs)
split [] [] ys vs l e = (refl, e)
split [] (u ∷ us) ys vs l e = absurd (omega (arith, l))
split (x ∷ xs) [] ys vs l e = absurd (omega (arith, l))
split (x ∷ xs) (u ∷ us) ys vs l e =
    let rest = split xs us ys vs (omega (arith, l)) (tail_same x u (xs ++ ys) (us ++ vs) e) in
    (λ i. head_same x u (xs ++ ys) (us ++ vs) e i ∷ rest.0 i, rest.1)

-- the fields of the node, and what is behind them
pub record SameFields (n m : NodeImage) (h k : Option Head) (l r p q : Option (List ℕ)) : Type 0 where
  pub iv : n.iv ≡ m.iv
  pub tag : n.tag ≡ m.tag
  pub flags : to_be_bytes w16 n.flags ≡ to_be_bytes w16 m.flags
  pub rest : head_input h ++ (child_input l ++ child_input r) ≡ head_input k ++ (child_input p ++ child_input q)

pub same_fields : (n m : NodeImage) (h k : Option Head) (l r p q : Option (List ℕ)) → HasFields n → HasFields m → hash_input n h l r ≡ hash_input m k p q → SameFields n m h k l r p q
unfolding hash_input
same_fields n m h k l r p q wn wm e =
    let one = split n.iv m.iv _ _ (wn.iv.long ∙ sym wm.iv.long) e in
    let two = split n.tag m.tag _ _ (wn.tag.long ∙ sym wm.tag.long) one.1 in
    let three = split (to_be_bytes w16 n.flags) (to_be_bytes w16 m.flags) _ _ refl two.1 in
    record { iv = one.0; tag = two.0; flags = three.0; rest = three.1 }

-- the head of a root's input
pub same_heads : (h k : Head) (x y : List ℕ) → length h.wrapped ≡ 16 → length k.wrapped ≡ 16 → h.length < 2 ^ 64 → k.length < 2 ^ 64 → h.greatest < 2 ^ 32 → k.greatest < 2 ^ 32
    → head_input (Some h) ++ x ≡ head_input (Some k) ++ y → h ≡ k
same_heads h k x y wh wk lh lk gh gk e =
    let flat : h.wrapped ++ ((to_be_bytes w64 h.length ++ to_be_bytes w32 h.greatest) ++ x) ≡ k.wrapped ++ ((to_be_bytes w64 k.length ++ to_be_bytes w32 k.greatest) ++ y) =
    sym (append_assoc h.wrapped (to_be_bytes w64 h.length ++ to_be_bytes w32 h.greatest) x) ∙ e ∙ append_assoc k.wrapped (to_be_bytes w64 k.length ++ to_be_bytes w32 k.greatest) y in
    let one = split h.wrapped k.wrapped _ _ (wh ∙ sym wk) flat in
    let both = split (to_be_bytes w64 h.length ++ to_be_bytes w32 h.greatest) (to_be_bytes w64 k.length ++ to_be_bytes w32 k.greatest) x y refl one.1 in
    let two = split (to_be_bytes w64 h.length) (to_be_bytes w64 k.length) (to_be_bytes w32 h.greatest) (to_be_bytes w32 k.greatest) refl both.0 in
    λ i. record {
      wrapped = one.0 i;
      length = (sym (from_be_bytes-to_be_bytes_8 h.length lh) ∙ ap (from_be_bytes w64) two.0 ∙ from_be_bytes-to_be_bytes_8 k.length lk) i;
      greatest = (sym (from_be_bytes-to_be_bytes_4 h.greatest gh) ∙ ap (from_be_bytes w32) two.1 ∙ from_be_bytes-to_be_bytes_4 k.greatest gk) i;
    }

-- The input of a node of a tree whose fields are bytes is bytes.
abbrev SomeBytes : Option (List ℕ) → Type 0
SomeBytes None = Unit {0}
SomeBytes (Some bytes) = AreBytes bytes

abbrev HeadBytes : Option Head → Type 0
HeadBytes None = Unit {0}
HeadBytes (Some h) = AreBytes h.wrapped

no_bytes : AreBytes []
no_bytes k = omega arith

head_bytes : (h : Option Head) → HeadBytes h → AreBytes (head_input h)
head_bytes None each = no_bytes
head_bytes (Some h) each =
    bytes-append h.wrapped (to_be_bytes w64 h.length ++ to_be_bytes w32 h.greatest) each
    (bytes-append (to_be_bytes w64 h.length) (to_be_bytes w32 h.greatest) (number-bytes 8 h.length) (number-bytes 4 h.greatest))

child_bytes : (c : Option (List ℕ)) → SomeBytes c → AreBytes (child_input c)
child_bytes None each = no_bytes
child_bytes (Some hash) each = each

stored_bytes : (tree : Loaded) → HaveFields tree.nodes → length tree.nodes ≡ tree.head.greatest → (m : ℕ) → 1 ≤ m → SomeBytes (stored_hash tree.nodes tree.head.greatest m)
stored_bytes tree fields all m one = by_test (nat_le m tree.head.greatest) refl
  where
    by_test : (b : Bool) → nat_le m tree.head.greatest ≡ b → SomeBytes (cond b (Some (at_node tree.nodes m).hash) None)
    by_test true e = (fields m one (omega (arith, leb-true m tree.head.greatest e, all))).hash.bytes
    by_test false e = tt

pub input_bytes : (tree : Loaded) (n : ℕ) → AreBytes tree.head.wrapped → HaveFields tree.nodes → 1 ≤ n → n ≤ length tree.nodes → length tree.nodes ≡ tree.head.greatest → AreBytes (input_at tree n)
unfolding hash_input
input_bytes tree n wrapped fields one le all =
    let node = fields n one le in
    let head : List ℕ = head_input (cond (n == 1) (Some tree.head) None) in
    let left : Option (List ℕ) = stored_hash tree.nodes tree.head.greatest (2 * n) in
    let right : Option (List ℕ) = stored_hash tree.nodes tree.head.greatest (2 * n + 1) in
    let children : List ℕ = child_input left ++ child_input right in
    let flags : List ℕ = to_be_bytes w16 (at_node tree.nodes n).flags in
    bytes-append (at_node tree.nodes n).iv ((at_node tree.nodes n).tag ++ (flags ++ (head ++ children))) node.iv.bytes
    (bytes-append (at_node tree.nodes n).tag (flags ++ (head ++ children)) node.tag.bytes
    (bytes-append flags (head ++ children) (number-bytes 2 (at_node tree.nodes n).flags)
    (bytes-append head children (head_bytes (cond (n == 1) (Some tree.head) None) (own (n == 1)))
    (bytes-append (child_input left) (child_input right) (child_bytes left (stored_bytes tree fields all (2 * n) (omega (arith, one))))
    (child_bytes right (stored_bytes tree fields all (2 * n + 1) (omega (arith, one))))))))
  where
    own : (b : Bool) → HeadBytes (cond b (Some tree.head) None)
    own true = wrapped
    own false = tt
