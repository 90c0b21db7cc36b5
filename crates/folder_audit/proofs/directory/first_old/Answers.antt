use Rattle.std.proofs.Common.{◌∙◌, ◌<◌, length, None, sym, arith}
use Rattle.std.proofs.lemmas.List.{get_or_default}
use Rattle.crash_core.proofs.Doubles.{below}
use Rattle.crash_core.proofs.OldFormats.{first_old_at, none_is_old}
use Rattle.folder_audit.proofs.directory.first_old.Goals as goal

pub returns : goal.returns
returns c =
    let entries = c.args.entries.now in
    sym (none_is_old entries (λ k e at. c.loop-index.invariant k e (omega (arith, c.loop-index-test.false, c.requires, below entries k e at)) at))

pub returns-then-entry-eq1 : goal.returns-then-entry-eq1
returns-then-entry-eq1 c =
    let entries = c.args.entries.now in
    let low : c.loop-index.index < length entries = omega (arith, c.requires, c.loop-index-test.true) in
    sym (first_old_at entries c.loop-index.index c.in-Some.entry c.loop-index.invariant
    (get_or_default entries c.loop-index.index None c.index-entries-index.result low ∙ sym c.index-entries-index.is ∙ c.in-Some.is) c.if-entry-eq1.true)
