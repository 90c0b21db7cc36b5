use Rattle.std.proofs.Common.{refl, sym, ◌∙◌, true≢false}
use Rattle.std.specs.Cmp.Lexicographic.{bytes_decides}
use Rattle.known_answers.proofs.Forms.{number_taken, number_unparsed, number_otherwise}
use Rattle.known_answers.proofs.question_lines.number_of.Goals as goal

pub returns-in-Ok-clause-form : goal.returns-in-Ok-clause-form
returns-in-Ok-clause-form c =
    let same = (bytes_decides c.format.result.now c.args.word.now).0 (sym c.eq.ensures ∙ c.if-eq.true) in
    number_taken c.args.word.now c.parse.result c.in-Ok.number c.parse.ensures.value.0 c.in-Ok.is (sym same ∙ c.format.ensures.text)

pub returns-in_default-clause-form : goal.returns-in_default-clause-form
returns-in_default-clause-form c =
    let test = bytes_decides c.format.result.now c.args.word.now in (
      refl,
      number_otherwise c.args.word.now c.parse.result c.in-Ok.number c.parse.ensures.value.0 c.in-Ok.is
          (λ e. true≢false (sym (test.1 (c.format.ensures.text ∙ sym e)) ∙ sym c.eq.ensures ∙ c.if-eq.false)),
    )

pub returns-in_default-2-clause-form : goal.returns-in_default-2-clause-form
returns-in_default-2-clause-form c = (refl, number_unparsed c.args.word.now c.parse.result c.in_default.field-0 c.parse.ensures.value.0 c.in_default.is)
