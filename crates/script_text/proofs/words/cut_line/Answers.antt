use Rattle.std.proofs.Common.{◌<◌, ◌∷◌, ◌+◌, ◌∙◌, length, drop, sym, ap, arith}
use Rattle.std.proofs.lemmas.Bool.Decides.{nat_tests}
use Rattle.std.proofs.lemmas.List.{drop_all}
use Rattle.script_text.specs.Lines.{lines_of}
use Rattle.script_text.proofs.Cuts.{lines_of-first, lines_of-one}
use Rattle.script_text.proofs.words.cut_line.Goals as goal

pub returns-then-end-text-clause-cut : goal.returns-then-end-text-clause-cut
returns-then-end-text-clause-cut c =
    let some : 0 < length c.args.text.now = grind (arith, nat_tests) in
    lines_of-one c.args.text.now some (omega arith)
    ∙ ap (λ rest. c.args.text.now ∷ lines_of rest) (sym (c.behind.ensures ∙ drop_all (c.line_length-end.result + 1) c.args.text.now (omega arith)))

pub returns-clause-cut : goal.returns-clause-cut
returns-clause-cut c =
    lines_of-first c.args.text.now c.line_length-end.result c.line_length-end.ensures.length (grind (arith, nat_tests))
    ∙ ap (λ line. line ∷ lines_of (drop (c.line_length-end.result + 1) c.args.text.now)) (sym c.without_cr.ensures)
    ∙ ap (λ rest. c.without_cr.result.now ∷ lines_of rest) (sym c.behind-2.ensures)
