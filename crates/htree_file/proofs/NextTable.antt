-- The table of nodes after a stage.
use Rattle.std.proofs.Common.{◌≡◌, inl, inr, ⊎_elim, ℕ, ◌+◌, ◌-◌, ◌*◌, ◌/◌, ◌%◌, ◌<◌, ◌≤◌, List, length, Bool, true, false, cond, leb, eqb, Some, None, refl, sym, ◌∙◌, ap, subst, arith}
use Rattle.std.proofs.lemmas.Bool.{cases_lt, cases_Bool, cases_eq, le-leb, lt-leb, eq-eqb, ne_eqb, cond-true, cond-false, false≢true, false_from_ne_true}
use Rattle.node_image.specs.declared.node.NodeImage.{NodeImage}
use Rattle.node_image.specs.declared.head.Head.{Head}
use Rattle.node_image.specs.Hashes.{node_hash_of}
use Rattle.node_image.specs.Tables.{at_node, block_bit, block_version, child_bit, hash_in, node_version, stored_hash}
use Rattle.htree_file.specs.declared.change.BlockChange.{BlockChange}
use Rattle.htree_file.specs.Staging.{HashedAmong}
use Rattle.htree_file.specs.WriteSets.{IsWriteSet, turned, turned_flags}

-- the nodes of the set have their flags turned, and the others as they were
pub record AreFlags (nodes next : List NodeImage) (dirty moved : ℕ → Bool) : Type 0 where
  pub flags : (n : ℕ) → 1 ≤ n → n ≤ length next → dirty n ≡ true → (at_node next n).flags ≡ turned_flags dirty moved n (at_node nodes n).flags
  pub kept : (n : ℕ) → 1 ≤ n → n ≤ length next → dirty n ≡ false → (at_node next n).flags ≡ (at_node nodes n).flags

turned_bit : (b : Bool) (v : ℕ) → v < 2 → turned b v < 2
turned_bit true v lt = omega arith
turned_bit false v lt = lt

-- turned flags have no spare bits
pub turned_few : (dirty moved : ℕ → Bool) (n f : ℕ) → turned_flags dirty moved n f < 8
turned_few dirty moved n f =
    omega (arith, turned_bit (moved n) (f % 2) (omega arith), turned_bit (dirty (2 * n)) ((f / 2) % 2) (omega arith), turned_bit (dirty (2 * n + 1)) ((f / 4) % 2) (omega arith))

-- what three bits give back
block_bit_of : (a b c : ℕ) → a < 2 → b < 2 → c < 2 → block_bit (a + (2 * b + 4 * c)) ≡ a
block_bit_of a b c la lb lc = omega arith

left_bit_of : (a b c : ℕ) → a < 2 → b < 2 → c < 2 → ((a + (2 * b + 4 * c)) / 2) % 2 ≡ b
left_bit_of a b c la lb lc = omega arith

right_bit_of : (a b c : ℕ) → a < 2 → b < 2 → c < 2 → ((a + (2 * b + 4 * c)) / 4) % 2 ≡ c
right_bit_of a b c la lb lc = omega arith

-- the turned flags of a node name the turned version of each child
child_turns : (dirty moved : ℕ → Bool) (f n m : ℕ) → 2 ≤ n → m ≡ n / 2 → child_bit (turned_flags dirty moved m f) n ≡ turned (dirty n) (child_bit f n)
child_turns dirty moved f n m two half =
    let a = turned (moved m) (f % 2) in
    let b = turned (dirty (2 * m)) ((f / 2) % 2) in
    let c = turned (dirty (2 * m + 1)) ((f / 4) % 2) in
    let la : a < 2 = turned_bit (moved m) (f % 2) (omega arith) in
    let lb : b < 2 = turned_bit (dirty (2 * m)) ((f / 2) % 2) (omega arith) in
    let lc : c < 2 = turned_bit (dirty (2 * m + 1)) ((f / 4) % 2) (omega arith) in
    elim (cases_eq (n % 2) 0) [
      | inl even ↦
          let t : eqb (n % 2) 0 ≡ true = eq-eqb (n % 2) 0 even in
          let e : 2 * m ≡ n = omega arith in
          cond-true (eqb (n % 2) 0) _ _ t ∙ left_bit_of a b c la lb lc ∙ ap (λ (k : ℕ). turned (dirty k) ((f / 2) % 2)) e ∙ ap (turned (dirty n)) (sym (cond-true (eqb (n % 2) 0) ((f / 2) % 2) ((f / 4) % 2) t))
      | inr odd ↦
          let t : eqb (n % 2) 0 ≡ false = ne_eqb (n % 2) 0 odd in
          let e : 2 * m + 1 ≡ n = omega arith in
          cond-false (eqb (n % 2) 0) _ _ t ∙ right_bit_of a b c la lb lc ∙ ap (λ (k : ℕ). turned (dirty k) ((f / 4) % 2)) e ∙ ap (turned (dirty n)) (sym (cond-false (eqb (n % 2) 0) ((f / 2) % 2) ((f / 4) % 2) t))
    ]

-- and that of its block
pub block_turns : (dirty moved : ℕ → Bool) (f n : ℕ) → block_bit (turned_flags dirty moved n f) ≡ turned (moved n) (block_bit f)
block_turns dirty moved f n =
    block_bit_of (turned (moved n) (f % 2)) _ _ (turned_bit (moved n) (f % 2) (omega arith)) (turned_bit (dirty (2 * n)) ((f / 2) % 2) (omega arith)) (turned_bit (dirty (2 * n + 1)) ((f / 4) % 2) (omega arith))

module _ (nodes next : List NodeImage) (changes : List BlockChange) (dirty moved : ℕ → Bool) (root : ℕ)
    (closed : IsWriteSet (length nodes) (length next) changes dirty moved) (is : AreFlags nodes next dirty moved) where
  -- each node of the set has its other version, each other node its own
  pub version_turns : (n : ℕ) → 1 ≤ n → n ≤ length next → node_version next (1 - root) n ≡ turned (dirty n) (node_version nodes root n)
  version_turns n least most = elim (cases_lt 1 n) [
    | inl above ↦
        let m : ℕ = n / 2 in
        let past : leb n 1 ≡ false = lt-leb n 1 above in
        let bits : child_bit (at_node next m).flags n ≡ turned (dirty n) (child_bit (at_node nodes m).flags n) = ⊎_elim
        (λ busy. ap (λ (k : ℕ). child_bit k n) (is.flags m (omega arith) (omega arith) busy) ∙ child_turns dirty moved (at_node nodes m).flags n m above refl)
        (λ idle. let clean : dirty n ≡ false = false_from_ne_true (dirty n) (λ hit. false≢true (sym idle ∙ closed.up n above most hit)) in
        ap (λ (f : ℕ). child_bit f n) (is.kept m (omega arith) (omega arith) idle) ∙ sym (cond-false (dirty n) _ _ clean))
        (cases_Bool (dirty m)) in
        cond-false (leb n 1) _ _ past ∙ bits ∙ ap (turned (dirty n)) (sym (cond-false (leb n 1) root (child_bit (at_node nodes m).flags n) past))
    | inr first ↦
        let here : leb n 1 ≡ true = le-leb n 1 first in
        let e : 1 ≡ n = omega arith in
        let hit : dirty n ≡ true = subst (λ (k : ℕ). dirty k ≡ true) e closed.root in
        cond-true (leb n 1) _ _ here ∙ sym (cond-true (dirty n) _ _ hit ∙ ap (λ (v : ℕ). 1 - v) (cond-true (leb n 1) root (child_bit (at_node nodes (n / 2)).flags n) here))
  ]

  -- so has each block
  pub block_version_turns : (k : ℕ) → k < length next → block_version next k ≡ turned (moved (k + 1)) (block_version nodes k)
  block_version_turns k lt =
      let n : ℕ = k + 1 in
      ⊎_elim
      (λ busy. ap block_bit (is.flags n (omega arith) (omega arith) busy) ∙ block_turns dirty moved (at_node nodes n).flags n)
      (λ idle. let still : moved n ≡ false = false_from_ne_true (moved n) (λ hit. false≢true (sym idle ∙ closed.own n (omega arith) (omega arith) hit)) in
      ap block_bit (is.kept n (omega arith) (omega arith) idle) ∙ sym (cond-false (moved n) _ _ still))
      (cases_Bool (dirty n))

  -- a block that is not written is an old one
  pub old_block : (k : ℕ) → k < length next → moved (k + 1) ≡ false → k < length nodes
  old_block k lt idle = elim (cases_lt (length nodes) (k + 1)) [
    | inl past ↦ absurd (false≢true (sym idle ∙ (closed.fresh (k + 1) past (omega arith)).1))
    | inr within ↦ omega arith
  ]

-- The nodes that are not written are as they were.
module _ (nodes next : List NodeImage) (changes : List BlockChange) (top : Head) (dirty moved : ℕ → Bool)
    (closed : IsWriteSet (length nodes) (length next) changes dirty moved) (hashed : HashedAmong dirty next top 0)
    (same : (n : ℕ) → 1 ≤ n → n ≤ length next → dirty n ≡ false → (n ≤ length nodes) × (at_node next n ≡ at_node nodes n)) where
  -- a node that is not written keeps its children
  clean_child : (before after : ℕ) → before ≡ length nodes → after ≡ length next → (n m : ℕ) → 1 ≤ n → n ≤ length next → dirty n ≡ false → 2 ≤ m → n ≡ m / 2
      → stored_hash next after m ≡ stored_hash nodes before m
  clean_child before after long long_next n m least most idle two half =
      let both = closed.edge n m least most idle two half in
      elim (cases_lt after m) [
        | inl past ↦
            let t : leb m after ≡ false = lt-leb m after past in
            let u : leb m before ≡ false = elim (cases_lt before m) [ inl over ↦ lt-leb m before over | inr within ↦ let w : m ≤ length next = both.0 (omega arith) in absurd (omega arith) ] in
            cond-false (leb m after) _ _ t ∙ sym (cond-false (leb m before) (Some (at_node nodes m).hash) None u)
        | inr within ↦
            let low : m ≤ length next = omega arith in
            let w : m ≤ length nodes = both.1 low in
            let t : leb m after ≡ true = le-leb m after within in
            let u : leb m before ≡ true = le-leb m before (omega arith) in
            let clean : dirty m ≡ false = false_from_ne_true (dirty m) (λ hit. false≢true (sym idle ∙ ap dirty half ∙ closed.up m two low hit)) in
            cond-true (leb m after) _ _ t ∙ ap (λ (x : NodeImage). Some x.hash) (same m (omega arith) low clean).1 ∙ sym (cond-true (leb m before) (Some (at_node nodes m).hash) None u)
      ]

  -- each node has its own hash
  pub hashes_next : (was : Head) → was.greatest ≡ length nodes → top.greatest ≡ length next → ((n : ℕ) → 1 ≤ n → n ≤ length nodes → (at_node nodes n).hash ≡ hash_in nodes was n)
      → (n : ℕ) → 1 ≤ n → n ≤ length next → (at_node next n).hash ≡ hash_in next top n
  hashes_next was long long_next old n least most = ⊎_elim
      (λ busy. hashed n (omega arith) most busy)
      (λ idle.
      let here = (same n least most idle).1 in
      let left = clean_child was.greatest top.greatest long long_next n (2 * n) least most idle (omega arith) (omega arith) in
      let right = clean_child was.greatest top.greatest long long_next n (2 * n + 1) least most idle (omega arith) (omega arith) in
      let below : (n ≡ 1 → ⊥) = λ e. false≢true (sym idle ∙ ap dirty e ∙ closed.root) in
      let t : eqb n 1 ≡ false = ne_eqb n 1 below in
      let tops : cond (eqb n 1) (Some top) None ≡ cond (eqb n 1) (Some was) None = cond-false (eqb n 1) (Some top) None t ∙ sym (cond-false (eqb n 1) (Some was) None t) in
      ap (λ (x : NodeImage). x.hash) here ∙ old n least (same n least most idle).0 ∙ sym (λ j. node_hash_of (here j) (tops j) (left j) (right j)))
      (cases_Bool (dirty n))
