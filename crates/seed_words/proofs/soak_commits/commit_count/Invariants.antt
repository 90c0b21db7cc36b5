use Rattle.std.proofs.Common.{◌≡◌, take}
use Rattle.seed_words.specs.CountedCommits.{count_of}
use Rattle.seed_words.proofs.soak_commits.commit_count.Given as goal

abbrev pub invariant-loop-place : goal.invariant-loop-place
invariant-loop-place l = l.commits ≡ count_of (take l.place l.history.events)
