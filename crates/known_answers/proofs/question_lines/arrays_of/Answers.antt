use Rattle.std.proofs.Common.{arith}
use Rattle.std.proofs.lemmas.Grind.{common_steps}
use Rattle.std.proofs.lemmas.Result.{err_from_is_err_and}
use Rattle.known_answers.proofs.Forms.{arrays_more, arrays_without}
use Rattle.known_answers.proofs.question_lines.arrays_of.Goals as goal

pub returns-in_err-array_of-clause-form : goal.returns-in_err-array_of-clause-form
returns-in_err-array_of-clause-form g c =
    let p = err_from_is_err_and c.from_residual.result c.from_residual.ensures.1 in
    rw (p.1, p.2) (λ e. arrays_without g.row.N c.args.words.now c.loop-word.word-index _ c.loop-word-test.true c.in_err-array_of.ensures.form.1)

pub loop-word-preserved : goal.loop-word-preserved
loop-word-preserved g c = record {
  value = grind (arith, common_steps);
  form = arrays_more g.row.N c.args.words.now c.loop-word.word-index _ c.loop-word-test.true c.loop-word.invariant.form c.in_ok-array_of.ensures.form;
}
