use Rattle.std.proofs.Common.{◌≡◌, ◌∙◌, map, arith, refl}
use Rattle.run_acts.proofs.MemoryCounts.{fed_each}
use Rattle.run_acts.proofs.Lists.{map-same}
use Rattle.run_acts.proofs.memory_failures.had_memory.Goals as goal
use Rattle.run_acts.proofs.memory_failures.had_memory.Given.{Over}

-- the counts are the same, list by list
all_same : (g : Over) (c : goal.After-loop-index g) → map (λ (f : g.row.F.Denot). (g.F.StoreFile.state f).starved) c.args.files.now ≡ c.args.before.now
all_same g c = map-same (λ (f : g.row.F.Denot). (g.F.StoreFile.state f).starved) c.args.files.now c.args.before.now c.if-files-before.false
    (λ k d lt. c.loop-index.invariant k d (omega (arith, c.loop-index-test.false, lt)))

pub returns-clause-same : goal.returns-clause-same
returns-clause-same g c = (λ t. all_same g c, λ e. refl)

pub returns-clause-with_memory : goal.returns-clause-with_memory
returns-clause-with_memory g c = λ old is yes. fed_each g.F.StoreFile.state old c.args.files.now (all_same g c ∙ is)
