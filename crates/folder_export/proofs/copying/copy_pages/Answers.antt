use Rattle.std.proofs.Common.{◌≡◌, ◌∙◌, ◌+◌, ◌-◌, ◌≤◌, ◌^◌, ℕ, List, IsTrue, length, take, drop, min, length-take, ap, subst, sym, arith}
use Rattle.disk_model.proofs.Goings.{goes_on_then, rests_then}
use Rattle.folder_export.specs.Copies.{CopiesFront}
use Rattle.folder_export.proofs.Causes.{one_failed_then}
use Rattle.folder_export.proofs.Copied.{copied_more}
use Rattle.folder_export.proofs.copying.copy_pages.Goals as goal

pub loop-at-preserved : goal.loop-at-preserved
loop-at-preserved g c =
    let a = g.F.StoreFile.state c.args.from.now in
    let b = g.F.StoreFile.state c.loop-at.from in
    let d = g.F.StoreFile.state c.copy_part.new.from in
    let x = g.G.StoreFile.state c.args.to.now in
    let y = g.G.StoreFile.state c.loop-at.to in
    let z = g.G.StoreFile.state c.copy_part.new.to in
    let at : ℕ = c.loop-at.at in
    let count : ℕ = c.min-count.result in
    let part : List ℕ = c.copy_part.new.part in
    let before = c.loop-at.invariant in
    let step = c.in-Ok.ensures in
    let same : length part ≡ length (take count c.loop-at.page) = c.copy_part.auto.part in
    let long : length part ≡ count = omega (arith, same, c.min-count.ensures, length-take count c.loop-at.page) in
    let told : IsTrue d.tells → at + length part ≤ length d.reads → part ≡ take (length part) (drop at d.reads) = λ tells fits.
    step.told tells (omega (arith, same, fits)) ∙ ap (λ (n : ℕ). take n (drop at d.reads)) (sym same) in
    let once : z.written ≡ min (y.written + length part) (2 ^ 64 - 1) = step.once ∙ ap (λ (n : ℕ). min (y.written + n) (2 ^ 64 - 1)) (sym same) in
    record {
      within = omega (arith, c.min-count.ensures, c.loop-at-test.true);
      rests = rests_then a b d before.rests step.rests;
      goes_on = goes_on_then x y z before.goes_on step.goes_on;
      copied = subst (λ (n : ℕ). CopiesFront (at + n) a d x z) long
          (copied_more a b d x y z at part before.rests step.rests before.goes_on step.goes_on before.copied step.passed.0 step.passed.1 told step.written once);
    }

pub returns-in-Err-clause-rests : goal.returns-in-Err-clause-rests
returns-in-Err-clause-rests g c = rests_then _ _ _ c.loop-at.invariant.rests c.copy_part.ensures.rests

pub returns-in-Err-clause-goes_on : goal.returns-in-Err-clause-goes_on
returns-in-Err-clause-goes_on g c = goes_on_then _ _ _ c.loop-at.invariant.goes_on c.copy_part.ensures.goes_on

pub returns-in-Err-clause-err : goal.returns-in-Err-clause-err
returns-in-Err-clause-err g c =
    let before = c.loop-at.invariant in
    one_failed_then c.in-Err.fault.place c.in-Err.fault.count c.args.number _ _ _ _ _ _ before.rests.goes_on before.copied.passed before.goes_on (before.copied.writes).passed c.in-Err.ensures.err

pub returns-clause-ok : goal.returns-clause-ok
returns-clause-ok g c =
    let all : c.loop-at.at ≡ c.args.length = omega (arith, c.loop-at.invariant.within, c.loop-at-test.false) in
    subst (λ (n : ℕ). CopiesFront n (g.F.StoreFile.state c.args.from.now) (g.F.StoreFile.state c.loop-at.from) (g.G.StoreFile.state c.args.to.now) (g.G.StoreFile.state c.loop-at.to)) all c.loop-at.invariant.copied
