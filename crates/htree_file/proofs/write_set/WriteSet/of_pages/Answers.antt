use Rattle.std.proofs.Common.{◌≡◌, ◌↔◌, ℕ, List, take, IsTrue, length-take, ◌∙◌, ap, subst, arith}
use Rattle.tree_paths.specs.Paths.{holds}
use Rattle.tree_paths.specs.Staged.{IsStaged}
use Rattle.htree_file.specs.Changes.{changed_blocks, changes_of}
use Rattle.htree_file.proofs.ChangeLists.{apart_of, few_of}
use Rattle.htree_file.proofs.WriteSetLaws.{closed_of, numbers_are}
use Rattle.htree_file.proofs.write_set.WriteSet.of_pages.Goals as goal

pub own_nodes-blocks-requires-clause-few : goal.own_nodes-blocks-requires-clause-few
own_nodes-blocks-requires-clause-few c = let few = few_of c.args.after _ (apart_of c.args.before c.args.after _ c.requires.changes) in omega (arith, few)

pub own_nodes-blocks-requires-clause-blocks : goal.own_nodes-blocks-requires-clause-blocks
own_nodes-blocks-requires-clause-blocks c = λ j lt. let low = (apart_of c.args.before c.args.after _ c.requires.changes).within j lt in omega (arith, low)

pub numbers_of-numbers-requires : goal.numbers_of-numbers-requires
numbers_of-numbers-requires c = let few = few_of c.args.after _ (apart_of c.args.before c.args.after _ c.requires.changes) in omega (arith, few)

pub slice_bounds-numbers-end : goal.slice_bounds-numbers-end
slice_bounds-numbers-end c = let few = few_of c.args.after _ (apart_of c.args.before c.args.after _ c.requires.changes) in omega (arith, few)

pub slice_bounds-staged_nodes-end : goal.slice_bounds-staged_nodes-end
slice_bounds-staged_nodes-end c =
    let most = few_of c.args.after _ (apart_of c.args.before c.args.after _ c.requires.changes) in
    omega (arith, length-take c.count.result c.numbers_of-numbers.result, most, c.numbers_of-numbers.ensures.wide)

pub returns-clause-budget : goal.returns-clause-budget
returns-clause-budget c =
    let changes = changes_of c.args.pages.now in
    let most = few_of c.args.after changes (apart_of c.args.before c.args.after changes c.requires.changes) in
    let same : take c.count.result c.numbers_of-numbers.result ≡ changed_blocks changes =
    ap (λ (n : ℕ). take n c.numbers_of-numbers.result) c.count.ensures
    ∙ numbers_are c.numbers_of-numbers.result changes (omega (arith, most, c.numbers_of-numbers.ensures.wide)) c.numbers_of-numbers.ensures.each in
    subst (λ (l : List ℕ). (m : ℕ) → IsTrue (holds c.staged_nodes-nodes.result m) ↔ IsStaged l c.args.before c.args.after m) same c.staged_nodes-nodes.ensures.exactly

pub returns-clause-closed : goal.returns-clause-closed
returns-clause-closed c = closed_of c.args.before c.args.after (changes_of c.args.pages.now) _ _ (omega arith) c.requires.changes (returns-clause-budget c) c.own_nodes-blocks.ensures
