use Rattle.std.proofs.Common.{◌≡◌, ◌+◌, ◌-◌, ◌*◌, bit_xor, sym, ap, subst, arith}
use Rattle.std.proofs.lemmas.Nat.Bits.{shr_and_one}
use Rattle.ghash_field.proofs.BitSteps.{IsProductBelow, IsShifted, step-bit, shift-more, product-all, product-none, shift-none}
use Rattle.ghash_field.proofs.mul.Goals as goal

pub loop-i-init : goal.loop-i-init
loop-i-init c = record { product = product-none c.args.a c.args.b; multiple = shift-none c.args.b }

pub loop-i-preserved : goal.loop-i-preserved
loop-i-preserved c = record {
  product = subst (λ s. IsProductBelow c.args.a c.args.b s (c.loop-i.i + 1))
      (sym (ap (λ t. bit_xor c.loop-i.sum (t * c.loop-i.multiple)) (shr_and_one c.args.a (127 - c.loop-i.i))))
      (step-bit _ _ _ _ c.loop-i.i (omega arith) c.loop-i.invariant.product c.loop-i.invariant.multiple);
  multiple = subst (λ m. IsShifted c.args.b m (c.loop-i.i + 1)) (sym c.times_x-multiple.ensures)
      (shift-more c.args.b c.loop-i.multiple c.loop-i.i c.loop-i.auto.multiple-fits.fits c.loop-i.invariant.multiple);
}

pub returns : goal.returns
returns c =
    let at : c.loop-i.i ≡ 128 = omega arith in
    product-all c.args.a c.args.b c.loop-i.sum c.loop-i.auto.sum-fits.fits (subst (IsProductBelow c.args.a c.args.b c.loop-i.sum) at c.loop-i.invariant.product)
