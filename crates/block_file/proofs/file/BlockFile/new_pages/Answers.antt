use Rattle.std.proofs.Common.{rules, ◌≡◌, ◌∙◌, ◌+◌, ◌-◌, ap, sym, ℕ, List, Err, Vec, Global, subst, refl, arith}
use Rattle.std.specs.List.{range_with_len}
use Rattle.std.proofs.lemmas.Result.{err_from_is_err_and}
use Rattle.htree_file.specs.declared.change.BlockChange.{BlockChange}
use Rattle.htree_file.proofs.Causes.{fault_then, passed_none, passed_then, rests_none, rests_then}
use Rattle.block_file.specs.NewPages.{AreNewPages, IsNewPage, NewPageAnswer}
use Rattle.block_file.proofs.ChangeLists.{page_put}
use Rattle.block_file.proofs.NewPages.{page_missing, pages_step}
use Rattle.block_file.proofs.Reading.{rests_keep}
use Rattle.block_file.proofs.file.BlockFile.new_pages.Goals as goal

pub returns-in_err-new_page-clause-answer : goal.returns-in_err-new_page-clause-answer
returns-in_err-new_page-clause-answer g c =
    let t = c.args.self.now in
    let a = g.F.StoreFile.state t.file in
    let b = g.F.StoreFile.state c.loop-k.self.file in
    let new = g.F.StoreFile.state c.new_page.new.self.file in
    let bytes : List ℕ = c.args.bytes.now in
    let fault = c.in_err-new_page.field-0.0 in
    let answer : NewPageAnswer t.key t.tree b new c.args.range c.args.at bytes c.loop-k.k {A = Unit {0}} (Err fault) c.new_page.new.page =
    subst (λ t. NewPageAnswer t.key t.tree b new c.args.range c.args.at bytes c.loop-k.k {A = Unit {0}} (Err fault) c.new_page.new.page) c.loop-k.invariant.same c.in_err-new_page.ensures.answer in
    let p = err_from_is_err_and c.from_residual-in_err-new_page.result c.from_residual-in_err-new_page.ensures.1 in
    rw (p.1, p.2) (page_missing t.key t.tree c.args.range c.args.at bytes a b new (rests_keep t.tree.layout t.tree.nodes b new (g.met.F.StoreFile.sound c.loop-k.self.file) c.in_err-new_page.ensures.rests) c.loop-k.changes.items c.args.first c.loop-k.k c.new_page.new.page
    (Unit {0}) (Vec BlockChange Global) (λ v. v.items) fault (λ j is. (c.requires.needed j is).0) c.loop-k.invariant.made answer c.args.upto)

pub returns-in_err-new_page-clause-rests : goal.returns-in_err-new_page-clause-rests
returns-in_err-new_page-clause-rests g c = rests_then _ _ _ c.loop-k.invariant.rests c.in_err-new_page.ensures.rests

pub returns-in_err-new_page-clause-cause : goal.returns-in_err-new_page-clause-cause
returns-in_err-new_page-clause-cause g c =
    let a = g.F.StoreFile.state c.args.self.now.file in
    let b = g.F.StoreFile.state c.loop-k.self.file in
    let new = g.F.StoreFile.state c.new_page.new.self.file in
    let p = err_from_is_err_and c.from_residual-in_err-new_page.result c.from_residual-in_err-new_page.ensures.1 in
    rw (p.1, p.2) (fault_then a b new c.in_err-new_page.field-0.0 c.loop-k.invariant.rests.goes_on c.loop-k.invariant.passed c.in_err-new_page.ensures.cause)

pub loop-k-preserved : goal.loop-k-preserved
loop-k-preserved g c =
    let t = c.args.self.now in
    let a = g.F.StoreFile.state t.file in
    let b = g.F.StoreFile.state c.loop-k.self.file in
    let new = g.F.StoreFile.state c.new_page.new.self.file in
    let bytes : List ℕ = c.args.bytes.now in
    let k : ℕ = c.loop-k.k in
    let before = c.loop-k.invariant in
    let step = c.in_ok-new_page.ensures in
    let change : BlockChange = record { block = k; page = c.new_page.new.page } in
    let made : IsNewPage t.key t.tree b new c.args.range c.args.at bytes k c.new_page.new.page =
    subst (λ t. IsNewPage t.key t.tree b new c.args.range c.args.at bytes k c.new_page.new.page) before.same step.answer in
    record {
      same = search rules;
      rests = rests_then a b new before.rests step.rests;
      passed = passed_then a b new before.passed step.cause;
      made = subst (λ (l : List BlockChange). AreNewPages t.key t.tree a new c.args.range c.args.at bytes l c.args.first (k + 1))
          (page_put c.loop-k.changes.items c.reserve.new.self.items c.push_reserved.new.self.items c.blank_change.result c.index_mut.result.now c.len-last.result k c.new_page.new.page
          c.reserve.ensures.items c.push_reserved.ensures.items c.blank_change.ensures (c.len-last.ensures ∙ c.push_reserved.new.self.ok.0) c.index_mut.ensures.value)
          (pages_step t.key t.tree c.args.range c.args.at bytes a b new (rests_keep t.tree.layout t.tree.nodes b new (g.met.F.StoreFile.sound c.loop-k.self.file) step.rests) c.loop-k.changes.items change c.args.first k before.rests (omega (arith, c.loop-k.auto.k)) refl before.made made);
    }

pub loop-k-init : goal.loop-k-init
loop-k-init g c =
    let state = g.F.StoreFile.state c.args.self.now.file in
    let none : 0 ≡ c.args.first - c.args.first = omega arith in
    record {
      same = refl;
      rests = rests_none state;
      passed = passed_none state;
      made = subst (λ (l : List BlockChange). AreNewPages c.args.self.now.key c.args.self.now.tree state state c.args.range c.args.at c.args.bytes.now l c.args.first c.args.first)
          (sym c.new-changes.ensures.items) (record { blocks = ap (range_with_len c.args.first) none; pages = λ k ge lt. absurd (omega (arith, ge, lt)) });
    }
