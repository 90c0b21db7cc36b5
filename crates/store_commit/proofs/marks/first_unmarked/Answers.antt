use Rattle.std.proofs.Common.{◌≤◌, arith}
use Rattle.tee_types.specs.Limits.{last_file}
use Rattle.store_commit.specs.Marks.{mark_count}
use Rattle.store_commit.proofs.Marking.{some_unmarked}
use Rattle.store_commit.proofs.marks.first_unmarked.Goals as goal

pub unreachable-requires : goal.unreachable-requires
unreachable-requires c =
    let many : last_file ≤ mark_count c.args.marks.now =
    some_unmarked c.args.marks.now c.told-marks (λ file from upto. c.loop-file.invariant file from (omega (arith, c.loop-file-test.false, upto))) in
    absurd (omega (arith, many, c.requires))
