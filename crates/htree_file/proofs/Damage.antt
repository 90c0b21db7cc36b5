-- The first damaged node, and the end that a tree needs.
use Rattle.std.proofs.Common.{◌≡◌, ◌≢◌, inl, inr, ℕ, zero, suc, ◌+◌, ◌-◌, ◌<◌, ◌≤◌, List, None, Some, refl, sym, ◌∙◌, ap, subst, arith}
use Rattle.std.proofs.lemmas.Bool.{cases_Bool, cases_lt, cond-true, cond-false}
use Rattle.node_image.specs.declared.node.NodeImage.{NodeImage}
use Rattle.node_image.specs.declared.head.Head.{Head}
use Rattle.node_image.specs.Parts.{Layout, start}
use Rattle.node_image.specs.Parts.Part.{block}
use Rattle.node_image.specs.Tables.{at_node, block_version, hash_in}
use Rattle.std.specs.Str.{bytes_eq}
use Rattle.htree_file.specs.Opening.{first_damaged, need_of}
use Rattle.htree_file.proofs.SameBytes.{same_from, same_is, same_not}

module _ (h : Head) (nodes : List NodeImage) (g i : ℕ) (lt : i < g) where
  more : g - i ≡ suc (g - (i + 1))
  more = omega arith

  -- a node with its own hash is passed
  pub damaged_not : (at_node nodes (i + 1)).hash ≡ hash_in nodes h (i + 1) → first_damaged h nodes (i + 1) (g - i) ≡ first_damaged h nodes (i + 1 + 1) (g - (i + 1))
  damaged_not same = ap (first_damaged h nodes (i + 1)) more ∙ cond-true (bytes_eq (at_node nodes (i + 1)).hash (hash_in nodes h (i + 1))) _ _ (same_from (at_node nodes (i + 1)).hash (hash_in nodes h (i + 1)) same)

  -- any other is the first
  pub damaged_here : (at_node nodes (i + 1)).hash ≢ hash_in nodes h (i + 1) → first_damaged h nodes (i + 1) (g - i) ≡ Some (i + 1)
  damaged_here other = ap (first_damaged h nodes (i + 1)) more ∙ cond-false (bytes_eq (at_node nodes (i + 1)).hash (hash_in nodes h (i + 1))) (first_damaged h nodes (i + 1 + 1) (g - (i + 1))) (Some (i + 1)) (same_not (at_node nodes (i + 1)).hash (hash_in nodes h (i + 1)) other)

-- where each node has its own hash, none is damaged
pub undamaged : (h : Head) (nodes : List NodeImage) (n count : ℕ) → ((m : ℕ) → n ≤ m → m < n + count → (at_node nodes m).hash ≡ hash_in nodes h m) → first_damaged h nodes n count ≡ None
undamaged h nodes n zero sound = refl
undamaged h nodes n (suc count) sound =
    cond-true (bytes_eq (at_node nodes n).hash (hash_in nodes h n)) (first_damaged h nodes (n + 1) count) (Some n) (same_from (at_node nodes n).hash (hash_in nodes h n) (sound n (omega arith) (omega arith)))
    ∙ undamaged h nodes (n + 1) count (λ m le lt. sound m (omega arith) (omega arith))

-- and the other way round
pub none_damaged : (h : Head) (nodes : List NodeImage) (n count : ℕ) → first_damaged h nodes n count ≡ None → (m : ℕ) → n ≤ m → m < n + count → (at_node nodes m).hash ≡ hash_in nodes h m
none_damaged h nodes n zero is m le lt = absurd (omega arith)
none_damaged h nodes n (suc count) is m le lt = elim (cases_Bool (bytes_eq (at_node nodes n).hash (hash_in nodes h n))) [
  | inl same ↦ elim (cases_lt n m) [
    | inl later ↦ none_damaged h nodes (n + 1) count (sym (cond-true (bytes_eq (at_node nodes n).hash (hash_in nodes h n)) (first_damaged h nodes (n + 1) count) (Some n) same) ∙ is) m (omega arith) (omega arith)
    | inr here ↦ let e : n ≡ m = omega arith in subst (λ (k : ℕ). (at_node nodes k).hash ≡ hash_in nodes h k) e (same_is (at_node nodes n).hash (hash_in nodes h n) same)
  ]
  | inr other ↦ absurd (let e : Some n ≡ None = sym (cond-false _ (first_damaged h nodes (n + 1) count) (Some n) other) ∙ is in cc (e))
]

-- the end that is needed is the end of some block, and of none a greater one
pub need_within : (layout : Layout) (nodes : List NodeImage) (g end : ℕ) → ((k : ℕ) → k < g → start layout (block k (block_version nodes k)) + 4096 ≤ end) → need_of layout nodes g ≤ end
need_within layout nodes zero end ends = omega arith
need_within layout nodes (suc k) end ends = omega (arith, need_within layout nodes k end (λ j lt. ends j (omega arith)), ends k (omega arith))

pub each_ends : (layout : Layout) (nodes : List NodeImage) (g end : ℕ) → need_of layout nodes g ≤ end → (k : ℕ) → k < g → start layout (block k (block_version nodes k)) + 4096 ≤ end
each_ends layout nodes zero end le k lt = absurd (omega arith)
each_ends layout nodes (suc g) end le k lt = elim (cases_lt k g) [
  | inl low ↦ each_ends layout nodes g end (omega arith) k low
  | inr high ↦ let e : g ≡ k = omega arith in subst (λ (n : ℕ). start layout (block n (block_version nodes n)) + 4096 ≤ end) e (omega arith)
]
