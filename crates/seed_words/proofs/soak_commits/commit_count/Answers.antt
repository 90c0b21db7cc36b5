use Rattle.std.proofs.Common.{ap, ◌∙◌, arith}
use Rattle.seed_words.specs.declared.soak_commits.Commits.{Commits}
use Rattle.seed_words.specs.CountedCommits.{with_event}
use Rattle.seed_words.proofs.CountedCommits.{count_of-more, count_of-room}
use Rattle.seed_words.proofs.soak_commits.commit_count.Goals as goal

pub loop-place-preserved : goal.loop-place-preserved
loop-place-preserved c =
    c.with_event-commits.ensures ∙ ap (λ t. with_event t c.event_at.result.now) c.loop-place.invariant
    ∙ count_of-more c.args.history.now.events c.loop-place.place c.event_at.result.now (omega (arith, c.len-place-end.ensures)) c.event_at.ensures

pub with_event-commits-requires : goal.with_event-commits-requires
with_event-commits-requires c =
    let counted = count_of-room c.args.history.now.events c.loop-place.place (omega (arith, c.len-place-end.ensures)) (omega arith) in
    omega (arith, counted, ap (λ (x : Commits). x.count) c.loop-place.invariant)
