use Rattle.std.proofs.Common.{◌≡◌, ◌∷◌, take}
use Rattle.std.specs.String.{string_bytes}
use Rattle.known_answers.specs.Lines.{spaced}
use Rattle.known_answers.specs.Answers.{card_answers}
use Rattle.known_answers.proofs.Serving.{card_through}
use Rattle.known_answers.proofs.answers.card_answers.Given as goal

abbrev pub invariant-loop-frame : goal.invariant-loop-frame
invariant-loop-frame l = record {
  line : string_bytes l.line ≡ spaced (card_answers l.fn.card (l.first ∷ take l.frame-index l.rest));
  card : l.card ≡ card_through l.fn.card (l.first ∷ take l.frame-index l.rest);
}
