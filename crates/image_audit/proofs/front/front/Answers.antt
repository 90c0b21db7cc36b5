use Rattle.std.proofs.Common.{◌<◌, ◌∙◌, ℕ, Option, Result, Ok, ap, arith, subst, sym}
use Rattle.std.specs.Int.{w16, from_be_bytes}
use Rattle.image_audit.specs.declared.fault.CertFault.{CertFault}
use Rattle.image_audit.specs.Certificate.{index_in}
use Rattle.image_audit.specs.Checking.{unless_wrong}
use Rattle.image_audit.proofs.Checks.{fixed, index_low}
use Rattle.image_audit.proofs.front.front.Goals as goal

pub field-requires : goal.field-requires
field-requires c = let long = fixed c.args.bytes.now (λ i. omega (arith, c.type_inv.bytes i)) (sym c.in-None.ensures) in omega arith

pub returns-in-Some-clause-answer : goal.returns-in-Some-clause-answer
returns-in-Some-clause-answer c = ap (λ (o : Option ℕ). unless_wrong o (index_in c.args.bytes.now)) c.in-Some.ensures

pub returns-in-None-clause-answer : goal.returns-in-None-clause-answer
returns-in-None-clause-answer c =
    ap (λ (n : ℕ). let r : Result ℕ CertFault = Ok n in r) (c.from_be_bytes.ensures ∙ ap (from_be_bytes w16) c.field.ensures)
    ∙ ap (λ (o : Option ℕ). unless_wrong o (index_in c.args.bytes.now)) c.in-None.ensures

pub returns-in-None-clause-fixed : goal.returns-in-None-clause-fixed
returns-in-None-clause-fixed c =
    let none = sym c.in-None.ensures in (
      fixed c.args.bytes.now (λ i. omega (arith, c.type_inv.bytes i)) none,
      subst (λ (n : ℕ). n < 256) (sym (c.from_be_bytes.ensures ∙ ap (from_be_bytes w16) c.field.ensures)) (index_low c.args.bytes.now (λ i. omega (arith, c.type_inv.bytes i)) none),
    )
