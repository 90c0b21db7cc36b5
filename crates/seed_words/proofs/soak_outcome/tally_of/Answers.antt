use Rattle.std.proofs.Common.{ap, ◌∙◌, arith}
use Rattle.seed_words.specs.Tallies.{with_event}
use Rattle.seed_words.proofs.Tallies.{tally_of-more}
use Rattle.seed_words.proofs.soak_outcome.tally_of.Goals as goal

pub loop-place-preserved : goal.loop-place-preserved
loop-place-preserved c =
    c.with_event-tally.ensures ∙ ap (λ t. with_event t c.event_at.result.now) c.loop-place.invariant
    ∙ tally_of-more c.args.history.now.events c.loop-place.place c.event_at.result.now (omega (arith, c.len-place-end.ensures)) c.event_at.ensures
