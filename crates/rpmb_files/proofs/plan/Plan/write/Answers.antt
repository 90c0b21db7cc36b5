use Rattle.std.proofs.Common.{◌<◌, ◌∙◌, ℕ, List, get_or, ap, sym, arith}
use Rattle.card_maps.specs.declared.change.TableChange.{TableChange}
use Rattle.card_maps.specs.declared.change.TableChange.TheVariants.{Put}
use Rattle.card_maps.specs.Form.{data_blocks, size_in}
use Rattle.card_maps.specs.Plans.{write_of}
use Rattle.card_maps.proofs.PlanWrites.{data_address, number_get}
use Rattle.rpmb_files.proofs.plan.Plan.write.Goals as goal

pub returns-then-i-numbers-clause-address : goal.returns-then-i-numbers-clause-address
returns-then-i-numbers-clause-address c =
    let lt : c.args.i < data_blocks (size_in c.in-Put.entry) = omega (arith, c.if-i-numbers.true, c.numbers-numbers.ensures.count) in
    ap (λ (l : List ℕ). get_or l c.args.i 0) c.numbers-numbers.ensures.value ∙ number_get c.in-Put.entry c.args.i lt
    ∙ sym (ap (λ (k : TableChange). (write_of k c.args.self.now.map c.args.bytes.now c.args.i).address) c.in-Put.is ∙ data_address c.in-Put.at c.in-Put.entry c.in-Put.old c.args.self.now.map c.args.bytes.now c.args.i lt)
