use Rattle.std.proofs.Common.{List, ℕ, ◌++◌, ap, ◌∙◌}
use Rattle.std.specs.Prelude.{codes}
use Rattle.std.specs.String.{string_bytes}
use Rattle.known_answers.specs.Lines.{hex_word}
use Rattle.known_answers.proofs.Serving.{answers-more, through-more}
use Rattle.known_answers.proofs.answers.card_answers.Goals as goal

pub loop-frame-preserved : goal.loop-frame-preserved
loop-frame-preserved c =
    let answered = c.in_ok-push_word.ensures
    ∙ ap (λ (a : List ℕ). string_bytes c.loop-frame.line ++ (codes " " ++ hex_word a)) c.answer-answer.ensures.answer in
    record {
      line = answers-more c.args.card.now c.loop-frame.card c.args.first.now c.args.rest.now c.loop-frame.frame-index
          (string_bytes c.loop-frame.line) (string_bytes c.push_word.new.line) c.loop-frame-test.true
          c.loop-frame.invariant.line c.loop-frame.invariant.card answered;
      card = through-more c.args.card.now c.loop-frame.card c.answer-answer.new.self c.args.first.now c.args.rest.now
          c.loop-frame.frame-index c.loop-frame-test.true c.loop-frame.invariant.card c.answer-answer.ensures.after;
    }
