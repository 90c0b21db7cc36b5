use Rattle.std.proofs.Common.{◌<◌, ◌^◌, List, ℕ, map, arith, Bor}
use Rattle.std.proofs.lemmas.List.{length-map}
use Rattle.std.proofs.lemmas.Bool.{and_right}
use Rattle.known_answers.proofs.Forms.{too_many_bytes, other_pages}
use Rattle.known_answers.proofs.question_lines.tree_pages_of.Goals.{then-bytes-gt-MOST_IN_A_TREE-via-then-bytes-gt-MOST_IN_A_TREE, then-bytes-gt-MOST_IN_A_TREE-via-else-bytes-gt-MOST_IN_A_TREE+then-pages-greatest_node}
use Rattle.known_answers.proofs.question_lines.tree_pages_of.Goals as goal

pub returns-then-bytes-gt-MOST_IN_A_TREE-clause-form : goal.returns-then-bytes-gt-MOST_IN_A_TREE-clause-form
returns-then-bytes-gt-MOST_IN_A_TREE-clause-form c =
    let low : c.in_ok-bytes.bytes < 2 ^ 64 = omega arith in
    let pages : List (List ℕ) = map (λ (w : Bor (List ℕ)). w.now) c.args.pages.now in
    λ _. and_right _ _ (elim c.then-bytes-gt-MOST_IN_A_TREE.branch [
      | then-bytes-gt-MOST_IN_A_TREE-via-then-bytes-gt-MOST_IN_A_TREE w ↦
          too_many_bytes c.args.bytes.now c.in_ok-bytes.bytes pages low c.in_ok-bytes.ensures.value w.if-bytes-gt-MOST_IN_A_TREE.true
      | then-bytes-gt-MOST_IN_A_TREE-via-else-bytes-gt-MOST_IN_A_TREE+then-pages-greatest_node w ↦
          other_pages c.args.bytes.now c.in_ok-bytes.bytes pages low c.in_ok-bytes.ensures.value
          (λ e. let s = length-map c.args.pages.now (λ (w : Bor (List ℕ)). w.now) in let h = w.greatest_node.ensures.value in let k = w.if-pages-greatest_node.true in omega (arith, h, k, s, e))
    ])
