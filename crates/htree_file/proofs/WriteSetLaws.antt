-- The set of a stage.
use Rattle.std.proofs.Common.{◌≡◌, ◌↔◌, ℕ, ◌+◌, ◌-◌, ◌<◌, ◌≤◌, List, length, get_or, take, Bool, true, IsTrue, length-take, sym, ◌∙◌, subst, arith}
use Rattle.std.proofs.lemmas.List.{ext_get_or, get_or-take, length-map}
use Rattle.tree_paths.specs.Staged.{IsStaged}
use Rattle.tree_paths.proofs.StagedNodes.{set_edge, set_fresh, set_root, set_up, staged_block}
use Rattle.htree_file.specs.declared.change.BlockChange.{BlockChange}
use Rattle.htree_file.specs.Changes.{AreChanges, IsChanged, block_at, changed_blocks}
use Rattle.htree_file.specs.WriteSets.{IsWriteSet}
use Rattle.htree_file.proofs.ChangeLists.{changed_of, number_at}

-- the numbers of the changes, put in front of a list
pub numbers_are : (numbers : List ℕ) (changes : List BlockChange) → length changes ≤ length numbers → ((j : ℕ) → j < length changes → get_or numbers j 0 ≡ block_at changes j)
    → take (length changes) numbers ≡ changed_blocks changes
numbers_are numbers changes few each =
    let long : length (changed_blocks changes) ≡ length changes = length-map changes (λ (c : BlockChange). c.block) in
    ext_get_or 0 (take (length changes) numbers) (changed_blocks changes) (omega (arith, length-take (length changes) numbers, long))
    (λ j lt. let low : j < length changes = omega (arith, lt, length-take (length changes) numbers) in
    get_or-take (length changes) numbers j 0 low ∙ each j low ∙ sym (number_at changes j low))

pub closed_of : (before after : ℕ) (changes : List BlockChange) (nodes blocks : ℕ → Bool) → 1 ≤ after → AreChanges before after changes
    → ((m : ℕ) → IsTrue (nodes m) ↔ IsStaged (changed_blocks changes) before after m) → ((k : ℕ) → (blocks (k + 1) ≡ true) ↔ IsChanged changes k) → IsWriteSet before after changes nodes blocks
closed_of before after changes nodes blocks some are exactly own = record {
  root = set_root changed before after nodes exactly some fresh;
  up = λ n more most hit. set_up changed before after nodes exactly some fresh n more hit;
  own = λ n least most hit.
      let e : (n - 1) + 1 ≡ n = omega arith in
      let there = (own (n - 1)).0 (subst (λ (m : ℕ). blocks m ≡ true) (sym e) hit) in
      let at : get_or changed there.place 0 + 1 ≡ n = omega (arith, number_at changes there.place there.below, there.is) in
      (exactly n).1 (subst (λ (m : ℕ). IsStaged changed before after m) at (staged_block changed before after there.place (omega (arith, there.below, long))));
  fresh = λ n past most.
      let e : (n - 1) + 1 ≡ n = omega arith in
      (set_fresh changed before after nodes exactly some fresh n past most, subst (λ (m : ℕ). blocks m ≡ true) e ((own (n - 1)).1 (changed_of changes (n - 1) (are.fresh (n - 1) (omega arith) (omega arith)))));
  edge = λ n m least most none more is. set_edge changed before after nodes exactly some fresh n m least most none more is;
  changed = λ k has. (own k).1 has;
  only = λ k hit. (own k).0 hit;
}
  where
    changed : List ℕ
    changed = changed_blocks changes

    long : length (changed_blocks changes) ≡ length changes
    long = length-map changes (λ (c : BlockChange). c.block)

    fresh : (k : ℕ) → before ≤ k → k < after → (place : ℕ) × (place < length (changed_blocks changes)) × (get_or (changed_blocks changes) place 0 ≡ k)
    fresh k old lt = let there = changed_of changes k (are.fresh k old lt) in (there.place, omega (arith, there.below, long), number_at changes there.place there.below ∙ there.is)
