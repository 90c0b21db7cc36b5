use Rattle.std.proofs.Common.{refl, sym, ◌∙◌, ◌+◌, arith}
use Rattle.card_script.proofs.OneLine.{script_from-good, script_from-bad, script_from-end, IsRead-good, IsRead-bad}
use Rattle.card_script.proofs.reading.parse.Goals as goal

pub returns-then-not-branch : goal.returns-then-not-branch
returns-then-not-branch c =
    sym c.loop-line.invariant.same
    ∙ script_from-bad c.loop-line.script (c.loop-line.number + 1) c.loop-line.rest.now c.in-Some.line.now c.in-Some.behind.now c.in-Some.ensures.cut
    (IsRead-bad _ _ _ _ c.if-not-branch.true c.in_ok-add_line.ensures)

pub loop-line-preserved : goal.loop-line-preserved
loop-line-preserved c = record {
  same =
      sym (script_from-good c.loop-line.script c.add_line.new.script (c.loop-line.number + 1) c.loop-line.rest.now c.in-Some.line.now c.in-Some.behind.now c.in-Some.ensures.cut
      (IsRead-good _ _ _ _ c.if-not-branch.false c.in_ok-add_line.ensures))
      ∙ c.loop-line.invariant.same;
  counted = omega (arith, c.in-Some.ensures.shorter);
}

pub returns : goal.returns
returns c =
    sym c.loop-line.invariant.same
    ∙ script_from-end c.loop-line.script (c.loop-line.number + 1) c.loop-line.rest.now (c.in_default.ensures.none refl)
