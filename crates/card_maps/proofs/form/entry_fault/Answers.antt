use Rattle.std.proofs.Common.{ℕ, Bool, true, cond, get_or, Option, Some, None, ap, sym, ◌∙◌}
use Rattle.card_maps.specs.Form.{front_fault, or_next, rest_fault}
use Rattle.card_maps.specs.Tables.{fresh_fault}
use Rattle.card_maps.proofs.form.entry_fault.Goals as goal

pub returns-clause-fault : goal.returns-clause-fault
returns-clause-fault c =
    c.shape_fault.ensures.fault
    ∙ ap (λ (x : Bool). or_next (cond {A = Option ℕ} x (Some 0) None) (or_next (front_fault c.args.block.now) (or_next (fresh_fault (λ d. get_or c.args.used.now d true) c.args.block.now) (rest_fault c.args.block.now))))
    (sym c.if-is_repeated.false ∙ c.is_repeated.ensures)
