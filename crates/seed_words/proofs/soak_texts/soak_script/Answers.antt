use Rattle.std.proofs.Common.{◌≡◌, ap, ◌∙◌, Ok}
use Rattle.script_text.specs.Grammar.{script_of}
use Rattle.seed_words.specs.Scripts.{soak_script}
use Rattle.seed_words.specs.Texts.{soak_text}
use Rattle.seed_words.proofs.SoakTexts.{soak_texts_are_scripts}
use Rattle.seed_words.proofs.Written.{not-bad_line, not-too_many}
use Rattle.seed_words.proofs.soak_texts.soak_script.Goals as goal

pub returns-in-Ok : goal.returns-in-Ok
returns-in-Ok c =
    let law : script_of (soak_text c.args.number) ≡ Ok (soak_script c.args.number) = soak_texts_are_scripts c.args.number in
    let same : script_of c.as_slice.result.now ≡ script_of (soak_text c.args.number) = ap script_of (c.as_slice.ensures.value ∙ c.in_ok-text.ensures.text) in
    let is = c.in-Ok.ensures.meaning in
    cc

pub unreachable-requires : goal.unreachable-requires
unreachable-requires c = not-bad_line c.as_slice.result.now c.args.number c.in-Err-BadLine.field-0-0 c.in-Err-BadLine.field-0 (c.as_slice.ensures.value ∙ c.in_ok-text.ensures.text) c.in-Err-BadLine.field-0-is c.in-Err-BadLine.ensures.meaning

pub unreachable-requires-in-Err-TooManyApps : goal.unreachable-requires-in-Err-TooManyApps
unreachable-requires-in-Err-TooManyApps c = not-too_many c.as_slice.result.now c.args.number c.in-Err-TooManyApps.field-0-0 c.in-Err-TooManyApps.field-0 (c.as_slice.ensures.value ∙ c.in_ok-text.ensures.text) c.in-Err-TooManyApps.field-0-is c.in-Err-TooManyApps.ensures.meaning
