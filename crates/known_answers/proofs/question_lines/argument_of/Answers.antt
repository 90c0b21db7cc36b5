use Rattle.std.proofs.Common.{rules, ℕ, Vec, Global, ◌≤◌, ◌^◌, sym, ◌∙◌, subst, arith}
use Rattle.std.specs.Cmp.Lexicographic.{bytes_decides}
use Rattle.std.specs.Prelude.{codes, vec_len}
use Rattle.known_answers.proofs.Forms.{argument_of_none, argument_of_hex}
use Rattle.known_answers.proofs.question_lines.argument_of.Goals.{then-eq, else-eq+in_ok-bytes}
use Rattle.known_answers.proofs.question_lines.argument_of.Goals as goal

pub returns-clause-form : goal.returns-clause-form
returns-clause-form c =
    elim c.if-eq.branch [
      | then-eq w ↦ argument_of_none c.args.word.now ((bytes_decides c.args.word.now (codes "-")).0 (sym c.eq.ensures ∙ w.if-eq.true))
      | else-eq+in_ok-bytes w ↦
          argument_of_hex c.args.word.now _ w.in_ok-bytes.ensures.ok
          (search rules)
          (let few : vec_len w.in_ok-bytes.bytes ≤ 2 ^ 24 = subst (λ (b : Vec ℕ Global). vec_len b ≤ 2 ^ 24) w.bytes-is (subst (λ n. n ≤ 2 ^ 24) c.len.ensures c.if-len-gt-MOST.false) in
          omega (arith, w.in_ok-bytes.bytes.ok))
    ]
