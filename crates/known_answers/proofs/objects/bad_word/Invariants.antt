use Rattle.std.proofs.Common.{◌≡◌, take}
use Rattle.std.specs.String.{string_bytes}
use Rattle.known_answers.specs.Objects.{bad_word}
use Rattle.known_answers.proofs.objects.bad_word.Given as goal

abbrev pub invariant-loop-block : goal.invariant-loop-block
invariant-loop-block l = string_bytes l.word ≡ bad_word l.first (take l.block-index l.rest)
