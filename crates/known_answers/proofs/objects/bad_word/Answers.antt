use Rattle.std.proofs.Common.{ℕ, ◌++◌, decimal, ap, ◌∙◌}
use Rattle.std.specs.String.{string_bytes}
use Rattle.known_answers.proofs.Commas.{bad_more}
use Rattle.known_answers.proofs.objects.bad_word.Goals as goal

pub loop-block-preserved : goal.loop-block-preserved
loop-block-preserved c =
    let more = c.in_ok-push_number-2.ensures
    ∙ ap (λ (n : ℕ). string_bytes c.push_str.new.self ++ decimal n) c.from-in-loop-block.ensures in
    bad_more c.args.first c.args.rest.now c.loop-block.block-index (string_bytes c.loop-block.word) (string_bytes c.push_str.new.self)
    (string_bytes c.push_number-in-loop-block.new.line) c.loop-block-test.true c.loop-block.invariant c.in_ok-push_str.ensures.bytes more
