use Rattle.std.proofs.Common.{◌≡◌, ◌∷◌, map, take}
use Rattle.std.specs.String.{string_bytes}
use Rattle.known_answers.specs.Lines.{spaced}
use Rattle.known_answers.proofs.answers.spaced.Given as goal

abbrev pub invariant-loop-word : goal.invariant-loop-word
invariant-loop-word l = string_bytes l.line ≡ spaced (l.first ∷ map (λ w. w.now) (take l.word-index l.rest))
