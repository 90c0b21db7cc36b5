use Rattle.std.proofs.Common.{List, ℕ, ◌++◌, codes, decimal, ap, ◌∙◌}
use Rattle.script_text.specs.Forms.{mode_text}
use Rattle.script_text.specs.Text.{phase_line}
use Rattle.script_text.proofs.Printing.{append-seven}
use Rattle.script_text.proofs.print_lines.put_phase.Goals as goal

pub returns-clause-ok : goal.returns-clause-ok
unfolding phase_line
returns-clause-ok c =
    let number = decimal c.args.number in
    let objects = decimal c.args.objects in
    let named = c.in_ok-put_word_number.ensures.ok in
    let moded =
    c.in_ok-put_two.ensures.ok ∙ ap (λ (t : List ℕ). t ++ codes " " ++ c.mode_name.result.now) named
    ∙ ap (λ (m : List ℕ). c.args.out.now.items ++ codes "# phase " ++ number ++ codes " " ++ m) c.mode_name.ensures in
    c.in_ok-put.ensures.ok
    ∙ ap (λ t. t ++ codes "\n") (c.in_ok-put_word_number-2.ensures.ok ∙ ap (λ t. t ++ codes " objects " ++ objects) moded)
    ∙ append-seven c.args.out.now.items (codes "# phase ") number (codes " ") (mode_text c.args.mode) (codes " objects ") objects (codes "\n")
