use Rattle.std.proofs.Common.{◌≡◌, ◌++◌, sym, ap, ◌∙◌, arith, length}
use Rattle.seed_words.specs.Texts.{app_text, declaration_line, soak_text}
use Rattle.seed_words.specs.Joined.{joined}
use Rattle.seed_words.proofs.Joins.{joined-more, joined-none}
use Rattle.seed_words.proofs.Lengths.{length-soak_text}
use Rattle.seed_words.proofs.Written.{head_text, head-calls, head-more}
use Rattle.seed_words.proofs.soak_texts.soak_text.Goals as goal

pub declarations-init : goal.declarations-init
declarations-init c = c.new-text.ensures.items ∙ sym (joined-none declaration_line)

pub declarations-preserved : goal.declarations-preserved
declarations-preserved c = c.in_ok-put_declaration.ensures ∙ ap (λ t. t ++ declaration_line c.declarations.app) c.declarations.invariant ∙ sym (joined-more declaration_line c.declarations.app)

pub calls-init : goal.calls-init
calls-init c = head-calls c.args.number c.declarations.app c.declarations.text.items c.put.new.out.items c.declarations.invariant (omega arith) c.in_ok-put.ensures.ok

pub calls-preserved : goal.calls-preserved
calls-preserved c = head-more c.args.number c.calls.app c.calls.text.items c.put_calls.new.out.items c.calls.invariant c.in_ok-put_calls.ensures

pub returns-clause-short : goal.returns-clause-short
returns-clause-short c =
    let all : c.calls.app ≡ 8 = omega arith in
    let text : c.calls.text.items ≡ soak_text c.args.number = c.calls.invariant ∙ ap (λ n. head_text ++ joined (app_text c.args.number) n) all in
    omega (arith, length-soak_text c.args.number, ap length text)
