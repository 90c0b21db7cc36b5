use Rattle.std.proofs.Common.{None, false, replicate, suc, arith}
use Rattle.std.proofs.lemmas.List.{get_or_past}
use Rattle.tee_types.specs.Limits.{last_file}
use Rattle.store_commit.proofs.Marking.{blank_unmarked, count_none, least_free, marks_few}
use Rattle.store_commit.proofs.holds.free_file.Goals as goal

pub first_unmarked-requires : goal.first_unmarked-requires
first_unmarked-requires c =
    marks_few c.args.entries.now c.args.holds.now (replicate (suc last_file) false) c.mark_named.new.marks c.mark_held.new.marks c.args.session (count_none (suc last_file))
    c.mark_named.ensures c.mark_held.ensures c.requires.idle.0 c.requires.idle.1

pub returns : goal.returns
returns c =
    least_free c.args.entries.now c.args.holds.now (replicate (suc last_file) false) c.mark_named.new.marks c.mark_held.new.marks c.first_unmarked.result c.requires.entries.whole
    (λ k is. blank_unmarked (suc last_file) k is) c.mark_named.ensures c.mark_held.ensures
    (λ session high. get_or_past c.args.holds.now session None (omega (arith, c.told-holds, high))) c.first_unmarked.ensures
