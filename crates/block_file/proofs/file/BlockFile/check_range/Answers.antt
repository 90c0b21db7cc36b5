use Rattle.std.proofs.Common.{rules, ◌≡◌, true, Err, refl, subst, arith}
use Rattle.std.proofs.lemmas.Result.{err_from_is_err_and}
use Rattle.htree_file.proofs.Causes.{fault_then, passed_none, passed_then, rests_none, rests_then}
use Rattle.page_bytes.specs.Ranges.{needs}
use Rattle.block_file.specs.NewPages.{NeededAnswer}
use Rattle.block_file.specs.Reads.{IsPage}
use Rattle.block_file.proofs.Checks.{all_checked, check_step, check_stop, needed_fault, none_checked}
use Rattle.block_file.proofs.Reading.{rests_keep}
use Rattle.block_file.proofs.file.BlockFile.check_range.Goals as goal

pub loop-k-init : goal.loop-k-init
loop-k-init g c =
    let a = g.F.StoreFile.state c.args.self.now.file in
    record {
      same = refl;
      rests = rests_none a;
      passed = passed_none a;
      read = none_checked c.args.self.now.key c.args.self.now.tree c.args.range a a c.first_block-k.result c.first_block-k.ensures;
    }

pub loop-k-preserved : goal.loop-k-preserved
loop-k-preserved g c =
    let t = c.args.self.now in
    let a = g.F.StoreFile.state t.file in
    let b = g.F.StoreFile.state c.loop-k.self.file in
    let new = g.F.StoreFile.state c.read_needed.new.self.file in
    let before = c.loop-k.invariant in
    let step = c.in_ok-read_needed.ensures in
    let page = c.read_needed.new.page in
    record {
      same = search rules;
      rests = rests_then a b new before.rests step.rests;
      passed = passed_then a b new before.passed step.cause;
      read = check_step t.key t.tree c.args.range a b new (rests_keep t.tree.layout t.tree.nodes b new (g.met.F.StoreFile.sound c.loop-k.self.file) step.rests) c.loop-k.k before.read page before.rests
          (subst (λ t. needs c.args.range c.loop-k.k ≡ true → IsPage t.key t.tree b new c.loop-k.k page) before.same step.answer);
    }

pub returns-in_err-read_needed-clause-blocks : goal.returns-in_err-read_needed-clause-blocks
returns-in_err-read_needed-clause-blocks g c =
    let t = c.args.self.now in
    let a = g.F.StoreFile.state t.file in
    let b = g.F.StoreFile.state c.loop-k.self.file in
    let new = g.F.StoreFile.state c.read_needed.new.self.file in
    let page = c.read_needed.new.page in
    let fault = c.in_err-read_needed.field-0.0 in
    let answer = subst (λ t. NeededAnswer t.key t.tree b new c.args.range c.loop-k.k {A = Unit {0}} (Err fault) page) c.loop-k.invariant.same c.in_err-read_needed.ensures.answer in
    let p = err_from_is_err_and c.from_residual.result c.from_residual.ensures.1 in
    rw (p.1, p.2) (check_stop t.key t.tree c.args.range a b new (rests_keep t.tree.layout t.tree.nodes b new (g.met.F.StoreFile.sound c.loop-k.self.file) c.in_err-read_needed.ensures.rests) c.loop-k.k c.loop-k.invariant.read page (Unit {0}) (Unit {0}) fault answer)

pub returns-in_err-read_needed-clause-rests : goal.returns-in_err-read_needed-clause-rests
returns-in_err-read_needed-clause-rests g c = rests_then _ _ _ c.loop-k.invariant.rests c.in_err-read_needed.ensures.rests

pub returns-in_err-read_needed-clause-cause : goal.returns-in_err-read_needed-clause-cause
returns-in_err-read_needed-clause-cause g c =
    let a = g.F.StoreFile.state c.args.self.now.file in
    let b = g.F.StoreFile.state c.loop-k.self.file in
    let new = g.F.StoreFile.state c.read_needed.new.self.file in
    let p = err_from_is_err_and c.from_residual.result c.from_residual.ensures.1 in
    rw (p.1, p.2) (fault_then a b new c.in_err-read_needed.field-0.0 c.loop-k.invariant.rests.goes_on c.loop-k.invariant.passed c.in_err-read_needed.ensures.cause)

pub returns-in_err-read_needed-clause-fault : goal.returns-in_err-read_needed-clause-fault
returns-in_err-read_needed-clause-fault g c =
    let b = g.F.StoreFile.state c.loop-k.self.file in
    let new = g.F.StoreFile.state c.read_needed.new.self.file in
    let p = err_from_is_err_and c.from_residual.result c.from_residual.ensures.1 in
    rw (p.1, p.2) (needed_fault c.loop-k.self.key c.loop-k.self.tree c.args.range b new c.loop-k.k c.read_needed.new.page (Unit {0}) c.in_err-read_needed.field-0.0 c.in_err-read_needed.ensures.answer)

pub returns-clause-blocks : goal.returns-clause-blocks
returns-clause-blocks g c =
    all_checked c.args.self.now.key c.args.self.now.tree c.args.range (g.F.StoreFile.state c.args.self.now.file) (g.F.StoreFile.state c.loop-k.self.file) c.loop-k.k
    (omega (arith, c.end_block-k-end.ensures.value, c.loop-k-test.false)) c.loop-k.invariant.read
