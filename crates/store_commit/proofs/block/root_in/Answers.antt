use Rattle.std.proofs.Common.{◌∙◌, ℕ, List, Result, Ok, get_or, sym, ap, arith}
use Rattle.node_image.specs.declared.node.RootRef.{RootRef}
use Rattle.crash_core.specs.CardBlock.{root_or}
use Rattle.store_commit.specs.declared.fault.MountFault.{MountFault}
use Rattle.store_commit.specs.Blocks.{block_answer}
use Rattle.store_commit.proofs.Outside.{format_bounds, root_other, root_zero, version_bit}
use Rattle.store_commit.proofs.block.root_in.Goals as goal

pub returns-then-is_zero-clause-answer : goal.returns-then-is_zero-clause-answer
returns-then-is_zero-clause-answer c = sym (ap block_answer (root_zero c.args.block.now (sym c.if-is_zero.ensures)))

pub returns-in-Some-clause-answer : goal.returns-in-Some-clause-answer
returns-in-Some-clause-answer c = sym (ap block_answer (root_other c.args.block.now (sym c.if-is_zero.ensures) ∙ ap (root_or c.args.block.now) (sym c.in-Some.ensures)))

pub returns-in-None-clause-answer : goal.returns-in-None-clause-answer
returns-in-None-clause-answer c =
    ap (λ (h : List ℕ). let r : Result RootRef MountFault = Ok (record { hash = h; version = get_or c.args.block.now 1 0; format = get_or c.args.block.now 0 0 }) in r) c.field.ensures
    ∙ sym (ap block_answer (root_other c.args.block.now (sym c.if-is_zero.ensures) ∙ ap (root_or c.args.block.now) (sym c.in-None.ensures)))

pub returns-in-None-clause-form : goal.returns-in-None-clause-form
returns-in-None-clause-form c = record { version = version_bit c.args.block.now (sym c.in-None.ensures); format = format_bounds c.args.block.now (sym c.in-None.ensures); long = omega arith }
