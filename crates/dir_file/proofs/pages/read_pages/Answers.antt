use Rattle.std.proofs.Common.{rules, refl, ◌≡◌, ◌+◌, ℕ, List, Ok, Err, length, sym, ap, subst, arith}
use Rattle.std.specs.Prelude.{IsTrue}
use Rattle.std.proofs.lemmas.Result.{err_from_is_err_and}
use Rattle.node_image.specs.Tables.{at_node}
use Rattle.htree_file.specs.declared.fault.TreeFault.{TreeFault}
use Rattle.htree_file.specs.Answers.{BlockAnswer}
use Rattle.htree_file.specs.Pages.{block_in}
use Rattle.htree_file.proofs.Causes.{fault_then, passed_none, passed_then, rests_none, rests_then}
use Rattle.dir_file.specs.Pages.{ArePages, AreSeen}
use Rattle.dir_file.proofs.Loading.{few_blocks}
use Rattle.dir_file.proofs.PagesRead.{once_none, pages_begin, once_step, read_long, read_step, refused_block, refused_differs, seen_begin, seen_step}
use Rattle.dir_file.proofs.pages.read_pages.Goals as goal

pub returns-in_err-read_block-clause-fault : goal.returns-in_err-read_block-clause-fault
returns-in_err-read_block-clause-fault g c =
    let a = g.F.StoreFile.state c.args.tree.now.file in
    let b = g.F.StoreFile.state c.loop-k.tree.file in
    let d = g.F.StoreFile.state c.read_block.new.self.file in
    let t = c.args.tree.now in
    let k : ℕ = c.loop-k.k in
    let before = c.loop-k.invariant in
    let fault : TreeFault = c.in_err-read_block.field-0.0 in
    let page : List ℕ = c.read_block.new.into in
    let answer : BlockAnswer t.key t.tree.head (at_node t.tree.nodes (k + 1)) k (λ x. IsTrue d.tells → x ≡ block_in d.reads t.tree k) {A = Unit {0}} (Err fault) page =
    subst (λ u. BlockAnswer u.key u.tree.head (at_node u.tree.nodes (k + 1)) k (λ x. IsTrue d.tells → x ≡ block_in d.reads u.tree k) {A = Unit {0}} (Err fault) page) before.same c.in_err-read_block.ensures.answer in
    let p = err_from_is_err_and c.from_residual.result c.from_residual.ensures.1 in
    rw (p.1, p.2) (refused_block a b d t.key t.tree c.loop-k.pages.items k page fault before.rests c.in_err-read_block.ensures.rests
    (few_blocks t.root t.tree c.length.ensures.verified) (omega (arith, c.loop-k-test.true, c.block_count-count.ensures, c.length.ensures.length)) before.pages answer)

pub returns-in_err-read_block-clause-differs : goal.returns-in_err-read_block-clause-differs
returns-in_err-read_block-clause-differs g c =
    let d = g.F.StoreFile.state c.read_block.new.self.file in
    let t = c.args.tree.now in
    let k : ℕ = c.loop-k.k in
    let fault : TreeFault = c.in_err-read_block.field-0.0 in
    let page : List ℕ = c.read_block.new.into in
    let answer : BlockAnswer t.key t.tree.head (at_node t.tree.nodes (k + 1)) k (λ x. IsTrue d.tells → x ≡ block_in d.reads t.tree k) {A = Unit {0}} (Err fault) page =
    subst (λ u. BlockAnswer u.key u.tree.head (at_node u.tree.nodes (k + 1)) k (λ x. IsTrue d.tells → x ≡ block_in d.reads u.tree k) {A = Unit {0}} (Err fault) page) c.loop-k.invariant.same c.in_err-read_block.ensures.answer in
    let p = err_from_is_err_and c.from_residual.result c.from_residual.ensures.1 in
    rw (p.1, p.2) (refused_differs d t.key t.tree k page fault answer)

pub returns-in_err-read_block-clause-rests : goal.returns-in_err-read_block-clause-rests
returns-in_err-read_block-clause-rests g c = rests_then _ _ _ c.loop-k.invariant.rests c.in_err-read_block.ensures.rests

pub returns-in_err-read_block-clause-cause : goal.returns-in_err-read_block-clause-cause
returns-in_err-read_block-clause-cause g c =
    let a = g.F.StoreFile.state c.args.tree.now.file in
    let b = g.F.StoreFile.state c.loop-k.tree.file in
    let d = g.F.StoreFile.state c.read_block.new.self.file in
    let p = err_from_is_err_and c.from_residual.result c.from_residual.ensures.1 in
    rw (p.1, p.2) (fault_then a b d c.in_err-read_block.field-0.0 c.loop-k.invariant.rests.goes_on c.loop-k.invariant.passed c.in_err-read_block.ensures.cause)

pub returns-in-Err-clause-rests : goal.returns-in-Err-clause-rests
returns-in-Err-clause-rests g c = rests_then _ _ _ c.loop-k.invariant.rests c.in_ok-read_block.ensures.rests

pub loop-k-preserved : goal.loop-k-preserved
loop-k-preserved g c =
    let a = g.F.StoreFile.state c.args.tree.now.file in
    let b = g.F.StoreFile.state c.loop-k.tree.file in
    let d = g.F.StoreFile.state c.read_block.new.self.file in
    let t = c.args.tree.now in
    let k : ℕ = c.loop-k.k in
    let before = c.loop-k.invariant in
    let page : List ℕ = c.read_block.new.into in
    let answer : BlockAnswer t.key t.tree.head (at_node t.tree.nodes (k + 1)) k (λ x. IsTrue d.tells → x ≡ block_in d.reads t.tree k) {A = Unit {0}} (Ok tt) page =
    subst (λ u. BlockAnswer u.key u.tree.head (at_node u.tree.nodes (k + 1)) k (λ x. IsTrue d.tells → x ≡ block_in d.reads u.tree k) {A = Unit {0}} (Ok tt) page) before.same c.in_ok-read_block.ensures.answer in
    record {
      same = search rules;
      rests = rests_then a b d before.rests c.in_ok-read_block.ensures.rests;
      passed = passed_then a b d before.passed c.in_ok-read_block.ensures.cause;
      long = read_long c.loop-k.pages.items k page c.keep_page.new.pages.items before.long c.in-Ok.ensures;
      pages = λ told. subst (λ (l : List (List ℕ)). ArePages a.reads t.key t.tree l (k + 1)) (sym c.in-Ok.ensures)
          (read_step a b d t.key t.tree c.loop-k.pages.items k page before.rests c.in_ok-read_block.ensures.rests before.long before.pages answer told);
      seen = subst (AreSeen a d t.key t.tree) (sym c.in-Ok.ensures)
          (seen_step a b d t.key t.tree c.loop-k.pages.items k page (g.met.F.StoreFile.sound c.loop-k.tree.file) before.rests c.in_ok-read_block.ensures.rests before.long before.seen answer);
      once = once_step a b d k before.rests before.once c.in_ok-read_block.ensures.once;
    }

pub loop-k-init : goal.loop-k-init
loop-k-init g c = record {
  same = refl;
  rests = rests_none _;
  passed = passed_none _;
  long = ap length c.new-pages.ensures.items;
  pages = λ told. pages_begin (g.F.StoreFile.state c.args.tree.now.file).reads c.args.tree.now.key c.args.tree.now.tree c.new-pages.result.items;
  seen = seen_begin (g.F.StoreFile.state c.args.tree.now.file) (g.F.StoreFile.state c.args.tree.now.file) c.args.tree.now.key c.args.tree.now.tree c.new-pages.result.items c.new-pages.ensures.items;
  once = once_none (g.F.StoreFile.state c.args.tree.now.file);
}
