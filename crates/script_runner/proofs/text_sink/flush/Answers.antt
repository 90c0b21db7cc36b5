use Rattle.std.proofs.Common.{take, drop, sym, ◌∙◌}
use Rattle.std.proofs.lemmas.List.{take-append-drop, append-nil}
use Rattle.script_runner.proofs.text_sink.flush.Goals as goal

pub returns-in-Err-clause-err : goal.returns-in-Err-clause-err
returns-in-Err-clause-err g c =
    let put = c.in-Err.ensures.put in
    let bytes = c.as_slice.result.now in
    (take put.0 bytes, put.1, (drop put.0 bytes, append-nil c.args.kept.now.items ∙ sym c.as_slice.ensures.value ∙ sym (take-append-drop put.0 bytes)))
