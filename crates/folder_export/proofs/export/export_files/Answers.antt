use Rattle.std.proofs.Common.{◌≡◌, arith}
use Rattle.tee_types.specs.Limits.{file_count}
use Rattle.disk_model.proofs.Goings.{goes_on_then, rests_then}
use Rattle.folder_export.specs.Exports.{at_file}
use Rattle.folder_export.proofs.Below.{copied_next, exported, stopped_here, stopped_last}
use Rattle.folder_export.proofs.export.export_files.Goals as goal

pub returns-in-Err-clause-rests : goal.returns-in-Err-clause-rests
returns-in-Err-clause-rests g c = λ none k. rests_then _ _ _ (c.loop-number.invariant.rests none k) (c.export_number.ensures.rests none k)

pub returns-in-Err-clause-goes_on : goal.returns-in-Err-clause-goes_on
returns-in-Err-clause-goes_on g c = λ none k. goes_on_then _ _ _ (c.loop-number.invariant.goes_on none k) (c.export_number.ensures.goes_on none k)

pub returns-in-Err-clause-err : goal.returns-in-Err-clause-err
returns-in-Err-clause-err g c = λ none.
    let number = c.export_number.ensures in
    at_file c.loop-number.number
    (stopped_here _ _ _ _ _ _ c.loop-number.number (c.loop-number.invariant.copied none) (number.files none) (number.folder none) c.in-Err.fault c.loop-number-test.true (c.in-Err.ensures.err none))

pub loop-number-preserved : goal.loop-number-preserved
loop-number-preserved g c =
    let before = c.loop-number.invariant in
    let number = c.export_number.ensures in record {
      rests = λ none k. rests_then _ _ _ (before.rests none k) (number.rests none k);
      goes_on = λ none k. goes_on_then _ _ _ (before.goes_on none k) (number.goes_on none k);
      copied = λ none. copied_next _ _ _ _ _ _ c.loop-number.number (before.copied none) (number.files none) (number.folder none) (c.in_default.ensures.ok none);
    }

pub returns-in-Ok-clause-goes_on : goal.returns-in-Ok-clause-goes_on
returns-in-Ok-clause-goes_on g c = λ none k. goes_on_then _ _ _ (c.loop-number.invariant.goes_on none k) (c.export_last.ensures.goes_on none k)

pub returns-in-Ok-clause-ok : goal.returns-in-Ok-clause-ok
returns-in-Ok-clause-ok g c = λ none.
    let all : c.loop-number.number ≡ file_count = omega (arith, c.loop-number-test.false, c.loop-number.auto.number-end) in
    exported _ _ _ _ _ c.loop-number.number all (c.loop-number.invariant.copied none) (c.export_last.ensures.others none) c.args.block.now (c.in-Ok.ensures.ok none)

pub returns-in-Err-export_last-clause-goes_on : goal.returns-in-Err-export_last-clause-goes_on
returns-in-Err-export_last-clause-goes_on g c = λ none k. goes_on_then _ _ _ (c.loop-number.invariant.goes_on none k) (c.export_last.ensures.goes_on none k)

pub returns-in-Err-export_last-clause-err : goal.returns-in-Err-export_last-clause-err
returns-in-Err-export_last-clause-err g c = λ none.
    let all : c.loop-number.number ≡ file_count = omega (arith, c.loop-number-test.false, c.loop-number.auto.number-end) in
    stopped_last _ _ _ _ _ c.loop-number.number all (c.loop-number.invariant.copied none) (c.export_last.ensures.others none) c.in-Err-export_last.failed.count (c.in-Err-export_last.ensures.err none)
