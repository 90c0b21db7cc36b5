use Rattle.std.proofs.Common.{ap, sym, ◌∙◌}
use Rattle.std.specs.List.{list_all}
use Rattle.script_text.specs.Words.{is_digit}
use Rattle.seed_words.proofs.Numerals.{number-parsed}
use Rattle.seed_words.proofs.soak_numbers.soak_number.Goals as goal

pub returns : goal.returns
returns c =
    c.ok.ensures.value
    ∙ number-parsed c.args.word.now c.parse.result (ap (list_all is_digit) (sym c.as_bytes.ensures.value) ∙ sym c.are_digits.ensures ∙ c.if-not-are_digits.false) c.if-word-gt10.false c.parse.ensures.value.0
