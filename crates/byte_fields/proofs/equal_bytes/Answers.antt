use Rattle.std.proofs.Common.{ℕ, arith, subst}
use Rattle.byte_fields.proofs.EqualBytes.{NoneDiffers, equal_is, none_at_first, one_more}
use Rattle.byte_fields.proofs.equal_bytes.Goals as goal

pub loop-i-init : goal.loop-i-init
loop-i-init g c = none_at_first _ _

pub loop-i-preserved : goal.loop-i-preserved
loop-i-preserved g l = one_more _ _ _ _ l.loop-i.invariant

pub returns : goal.returns
returns g c =
    let all = subst (λ (i : ℕ). NoneDiffers c.args.a.now c.args.b.now i c.loop-i.differ) (omega (arith, c.loop-i-test.false, c.loop-i.auto.i-end)) c.loop-i.invariant in
    equal_is _ _ g.row.N _ c.told-a c.told-b all
