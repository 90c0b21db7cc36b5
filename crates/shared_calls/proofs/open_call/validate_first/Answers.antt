-- The slot keeps its counts as it is shown the history.
use Rattle.std.proofs.Common.{[]}
use Rattle.shared_calls.proofs.open_call.validate_first.Goals as goal

pub returns-then-not-catch_up_held-clause-kept : goal.returns-then-not-catch_up_held-clause-kept
returns-then-not-catch_up_held-clause-kept g c = c.catch_up_held.ensures.kept [] c.requires.kept

pub returns-clause-kept : goal.returns-clause-kept
returns-clause-kept g c = c.catch_up_held.ensures.kept [] c.requires.kept
