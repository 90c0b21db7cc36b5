use Rattle.std.proofs.Common.{◌∙◌, arith}
use Rattle.script_text.proofs.Digits.{capped-step}
use Rattle.script_text.proofs.values.capped.Goals as goal

pub loop-digit-preserved : goal.loop-digit-preserved
loop-digit-preserved c = record {
  number = c.min-value.ensures ∙ capped-step c.args.base c.args.limit c.args.digits.now c.loop-digit.digit-index c.loop-digit.value c.digit_value.result c.requires.base c.loop-digit-test.true c.digit_value.ensures.value c.loop-digit.invariant.number;
  within = omega arith;
}
