use Rattle.std.proofs.Common.{◌≡◌, ◌∙◌, ◌++◌, true, false, List, ℕ, sym, ap, append_assoc}
use Rattle.run_acts.specs.Lines.{data_text}
use Rattle.script_text.specs.BadBlocks.{is_some_of, members_of}
use Rattle.run_acts.proofs.BadTexts.{content-none, content-some}
use Rattle.run_acts.proofs.object_line.put_content.Goals as goal

pub returns-then-branch-clause-ok : goal.returns-then-branch-clause-ok
returns-then-branch-clause-ok c =
    let is : is_some_of (members_of c.args.bad.now) ≡ true = sym c.in_ok-put_bad.ensures.some ∙ c.if-branch.true in
    c.in_ok-put_bad.ensures.ok ∙ ap (λ (t : List ℕ). c.args.out.now.items ++ t) (sym (content-some c.args.bytes.now (members_of c.args.bad.now) is))

pub returns-clause-ok : goal.returns-clause-ok
returns-clause-ok c =
    let is : is_some_of (members_of c.args.bad.now) ≡ false = sym c.in_ok-put_bad.ensures.some ∙ c.if-branch.false in
    c.in_ok-put_data.ensures.ok ∙ ap (λ (t : List ℕ). t ++ data_text c.args.bytes.now) c.in_ok-put_bad.ensures.ok ∙ append_assoc c.args.out.now.items _ _
    ∙ ap (λ (t : List ℕ). c.args.out.now.items ++ t) (content-none c.args.bytes.now (members_of c.args.bad.now) is)
