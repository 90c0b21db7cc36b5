-- The blocks were read, or why not.
use Rattle.std.proofs.Common.{IsTrue, ap, sym, ℕ, ◌∙◌}
use Rattle.serial_calls.proofs.ChangeStages.{held}
use Rattle.serial_calls.proofs.Checked.{checked_change, unchecked_passed}
use Rattle.serial_calls.proofs.Unstaged.{write_by}
use Rattle.serial_calls.specs.ChangeReplies.{reply_of_check}
use Rattle.serial_calls.specs.ChangeStaging.{DataCall, writing}
use Rattle.serial_calls.proofs.change_check.check_written.Goals as goal

pub returns-in_default-clause-passed : goal.returns-in_default-clause-passed
returns-in_default-clause-passed g c =
    unchecked_passed c.args.slot.now.file c.check_write-given.new.slot.file c.number.result c.check_write-given.result (sym c.in_default.is ∙ c.check_reply.ensures) c.check_write-given.ensures.cause

pub returns-clause-checks : goal.returns-clause-checks
returns-clause-checks g c = λ v gives.
    let store = g.L.StoreName.store in
    let old = c.args.slot.now in
    let new = c.check_write-given.new.slot in
    let asked : DataCall = writing c.args.start c.args.bytes.now in
    let honest : IsTrue new.file.honest → IsTrue old.file.honest = c.check_write-given.ensures.rests.goes_on.honest in
    checked_change store old new asked v c.requires.guarded c.requires.live gives honest c.check_write-given.result c.in-Some.reply
    (sym c.in-Some.is ∙ c.check_reply.ensures ∙ ap (λ (n : ℕ). reply_of_check n c.check_write-given.result) c.number.ensures.number)
    (c.check_write-given.ensures.version v gives) c.check_write-given.ensures.cause
    (λ handle. write_by store old new v (held store old new asked v c.requires.guarded c.requires.live gives honest) honest c.args.start handle c.args.bytes.now)
