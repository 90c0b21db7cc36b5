use Rattle.std.proofs.Common.{◌≡◌, take}
use Rattle.seed_words.specs.Outcome.{tally_of}
use Rattle.seed_words.proofs.soak_outcome.tally_of.Given as goal

abbrev pub invariant-loop-place : goal.invariant-loop-place
invariant-loop-place l = l.tally ≡ tally_of (take l.place l.history.events)
