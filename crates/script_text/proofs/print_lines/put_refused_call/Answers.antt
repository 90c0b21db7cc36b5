use Rattle.std.proofs.Common.{List, ℕ, ◌++◌, codes, decimal, ap, ◌∙◌}
use Rattle.std.proofs.lemmas.Result.{on_ok_weaker}
use Rattle.tee_types.specs.declared.reply.Code.TheVariants.{NoSpace}
use Rattle.tee_types.specs.declared.reply.Reply.TheVariants.{Refused}
use Rattle.script_text.specs.Forms.{call_text, reply_text}
use Rattle.script_text.specs.Text.{name_at, refused_call_line}
use Rattle.script_text.proofs.Printing.{append-eleven}
use Rattle.script_text.proofs.print_lines.put_refused_call.Goals as goal

pub returns-clause-ok : goal.returns-clause-ok
unfolding refused_call_line
returns-clause-ok c =
    let a = c.args in
    let name = name_at a.names.now a.session in
    let called = c.in_ok-put_caller.ensures.ok ∙ ap (λ (t : List ℕ). t ++ decimal a.place ++ codes " " ++ name ++ codes " ") c.in_ok-put.ensures.ok in
    let numbered = c.in_ok-put_number.ensures.ok ∙ ap (λ (t : List ℕ). t ++ decimal a.number) called in
    let spaced = c.in_ok-put-2.ensures.ok ∙ ap (λ (t : List ℕ). t ++ codes " ") numbered in
    let told = c.in_ok-put_call.ensures.ok ∙ ap (λ (t : List ℕ). t ++ call_text a.call.now) spaced in
    on_ok_weaker c.put_answer.result
    (λ is. is ∙ ap (λ (t : List ℕ). t ++ codes " -> " ++ reply_text (Refused NoSpace) ++ codes "\n") told
    ∙ append-eleven a.out.now.items (codes "# quota ") (decimal a.place) (codes " ") name (codes " ") (decimal a.number) (codes " ") (call_text a.call.now) (codes " -> ") (reply_text (Refused NoSpace)) (codes "\n"))
    c.put_answer.ensures.ok
