use Rattle.std.specs.String.{string_bytes}
use Rattle.known_answers.proofs.Serving.{spaced-more}
use Rattle.known_answers.proofs.answers.spaced.Goals as goal

pub loop-word-preserved : goal.loop-word-preserved
loop-word-preserved c =
    spaced-more c.args.first.now c.args.rest.now c.loop-word.word-index _ (string_bytes c.loop-word.line) (string_bytes c.push_word.new.line)
    c.loop-word-test.true c.loop-word.invariant c.in_ok-push_word.ensures
