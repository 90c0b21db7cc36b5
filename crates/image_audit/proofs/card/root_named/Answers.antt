use Rattle.std.proofs.Common.{◌≡◌, ◌==◌, ℕ, List, Bool, Result, Err, cond, true, get_or, sym, ap}
use Rattle.std.proofs.lemmas.Bool.{eq-eqb}
use Rattle.node_image.specs.declared.node.RootRef.{RootRef}
use Rattle.crash_core.specs.CardBlock.{old_format, root_in}
use Rattle.image_audit.specs.declared.fault.CertFault.{CertFault}
use Rattle.image_audit.specs.declared.fault.CertFault.TheVariants.{CardBlock}
use Rattle.image_audit.specs.Checking.{card_fault, fault_as, root_named}
use Rattle.image_audit.proofs.card.root_named.Goals as goal

-- a block whose first byte is the old format's
old : (block : List ℕ) → (get_or block 0 0 == old_format) ≡ true → root_named block ≡ Err (CardBlock 0)
old block is = ap (λ (b : Bool). let r : Result RootRef CertFault = cond b (Err (CardBlock 0)) (fault_as card_fault (root_in block)) in r) is

pub returns-then-block-eq1 : goal.returns-then-block-eq1
returns-then-block-eq1 c = sym (old c.args.block.now (eq-eqb (get_or c.args.block.now 0 0) 1 c.if-block-eq1.true))
