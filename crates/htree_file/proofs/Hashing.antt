-- The hash of a node hangs on the node's own fields and its children's hashes alone.
use Rattle.std.proofs.Common.{◌≡◌, ◌≢◌, inl, inr, ℕ, ◌+◌, ◌-◌, ◌*◌, ◌<◌, ◌≤◌, List, [], length, get_or, set, cond, leb, ◌==◌, Option, Some, None, Bool, false, sym, ◌∙◌, ap, subst, arith}
use Rattle.std.proofs.lemmas.Bool.{cases_eq, cases_lt, false≢true}
use Rattle.std.proofs.lemmas.List.{get_or-set_other, get_or-set_same, length-set}
use Rattle.node_image.specs.declared.node.NodeImage.{NodeImage}
use Rattle.node_image.specs.declared.head.Head.{Head}
use Rattle.node_image.specs.Hashes.{hash_input, node_hash_of}
use Rattle.node_image.specs.Tables.{at_node, hash_in, no_node, stored_hash}
use Rattle.htree_file.specs.Staging.{HashedAmong, SameSeal}

-- nodes with the same fields but for the hash
same_input : (a b : NodeImage) (top : Option Head) (left right : Option (List ℕ)) → SameSeal a b → node_hash_of b top left right ≡ node_hash_of a top left right
unfolding hash_input
same_input a b top left right seal = λ i. node_hash_of (record { hash = []; iv = seal.iv i; tag = seal.tag i; flags = seal.flags i }) top left right

pub hash_in_same : (a b : List NodeImage) (h : Head) (n : ℕ) → SameSeal (at_node a n) (at_node b n)
    → (at_node b (2 * n)).hash ≡ (at_node a (2 * n)).hash → (at_node b (2 * n + 1)).hash ≡ (at_node a (2 * n + 1)).hash → hash_in b h n ≡ hash_in a h n
hash_in_same a b h n seal left right =
    same_input (at_node a n) (at_node b n) (cond (n == 1) (Some h) None) (stored_hash b h.greatest (2 * n)) (stored_hash b h.greatest (2 * n + 1)) seal
    ∙ (λ i. node_hash_of (at_node a n) (cond (n == 1) (Some h) None) (cond (leb (2 * n) h.greatest) (Some (left i)) None) (cond (leb (2 * n + 1) h.greatest) (Some (right i)) None))

-- one node more has its own hash
pub hashed_among : (chosen : ℕ → Bool) (nodes : List NodeImage) (h : Head) (i : ℕ) (made : NodeImage) → i < length nodes → SameSeal (get_or nodes i no_node) made → made.hash ≡ hash_in nodes h (i + 1)
    → HashedAmong chosen nodes h (i + 1) → HashedAmong chosen (set nodes i made) h i
hashed_among chosen nodes h i made lt seal own below n above most has =
    let after : List NodeImage = set nodes i made in
    let other : (m : ℕ) → 1 ≤ m → m ≢ i + 1 → at_node after m ≡ at_node nodes m = λ m some apart. get_or-set_other nodes i (m - 1) made no_node (λ is. apart (omega (arith, is, some))) in
    let here : at_node after (i + 1) ≡ made = ap (λ (j : ℕ). get_or after j no_node) (let e : (i + 1) - 1 ≡ i = omega arith in e) ∙ get_or-set_same nodes i made no_node lt in
    let before : at_node nodes (i + 1) ≡ get_or nodes i no_node = ap (λ (j : ℕ). get_or nodes j no_node) (let e : (i + 1) - 1 ≡ i = omega arith in e) in
    elim (cases_lt (i + 1) n) [
      | inl later ↦
          let same : at_node after n ≡ at_node nodes n = other n (omega arith) (λ is. omega (arith, is, later)) in
          ap (λ (x : NodeImage). x.hash) same ∙ below n later (omega (arith, most, length-set nodes i made)) has
          ∙ sym (hash_in_same nodes after h n (record { iv = ap (λ (x : NodeImage). x.iv) same; tag = ap (λ (x : NodeImage). x.tag) same; flags = ap (λ (x : NodeImage). x.flags) same })
          (ap (λ (x : NodeImage). x.hash) (other (2 * n) (omega arith) (λ is. omega (arith, is, later)))) (ap (λ (x : NodeImage). x.hash) (other (2 * n + 1) (omega arith) (λ is. omega (arith, is, later)))))
      | inr first ↦
          let is : i + 1 ≡ n = omega arith in
          subst (λ (m : ℕ). (at_node after m).hash ≡ hash_in after h m) is
          (ap (λ (x : NodeImage). x.hash) here ∙ own
          ∙ sym (hash_in_same nodes after h (i + 1) (record {
            iv = ap (λ (x : NodeImage). x.iv) here ∙ seal.iv ∙ ap (λ (x : NodeImage). x.iv) (sym before);
            tag = ap (λ (x : NodeImage). x.tag) here ∙ seal.tag ∙ ap (λ (x : NodeImage). x.tag) (sym before);
            flags = ap (λ (x : NodeImage). x.flags) here ∙ seal.flags ∙ ap (λ (x : NodeImage). x.flags) (sym before);
          })
          (ap (λ (x : NodeImage). x.hash) (other (2 * (i + 1)) (omega arith) (λ e. omega (arith, e)))) (ap (λ (x : NodeImage). x.hash) (other (2 * (i + 1) + 1) (omega arith) (λ e. omega (arith, e))))))
    ]

-- a node that is not among those of which this is said is passed
pub hashed_past : (chosen : ℕ → Bool) (nodes : List NodeImage) (h : Head) (i : ℕ) → chosen (i + 1) ≡ false → HashedAmong chosen nodes h (i + 1) → HashedAmong chosen nodes h i
hashed_past chosen nodes h i none below n above most has = elim (cases_lt (i + 1) n) [
  | inl later ↦ below n later most has
  | inr here ↦ let e : n ≡ i + 1 = omega arith in absurd (false≢true (sym none ∙ ap chosen (sym e) ∙ has))
]

-- what stays where all but the nodes of a set may be set
pub others_step : (chosen : ℕ → Bool) (entry now new : List NodeImage) (i : ℕ) → ((j : ℕ) → j ≢ i → get_or new j no_node ≡ get_or now j no_node) → (chosen (i + 1) ≡ false → new ≡ now)
    → ((n : ℕ) → 1 ≤ n → chosen n ≡ false → at_node now n ≡ at_node entry n) → (n : ℕ) → 1 ≤ n → chosen n ≡ false → at_node new n ≡ at_node entry n
others_step chosen entry now new i others kept before n least none = elim (cases_eq n (i + 1)) [
  | inl here ↦ ap (λ (l : List NodeImage). at_node l n) (kept (ap chosen (sym here) ∙ none)) ∙ before n least none
  | inr apart ↦ others (n - 1) (λ is. apart (omega arith)) ∙ before n least none
]
