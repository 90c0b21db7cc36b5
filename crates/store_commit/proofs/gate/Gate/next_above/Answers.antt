use Rattle.std.proofs.Common.{subst}
use Rattle.dir_index.specs.EntryNames.{IsNextAbove}
use Rattle.store_commit.proofs.Looking.{above_entry}
use Rattle.store_commit.proofs.gate.Gate.next_above.Goals as goal

pub returns : goal.returns
returns g c =
    let i = c.self.inside in
    subst (λ v. IsNextAbove v.dir.dir.entries c.args.app c.args.after c.entry_of.result) c.self.view_is
    (above_entry i.index i.dir.dir.entries c.args.app c.args.after c.in_ok-index.field-0-0 c.in_ok-index.index c.self.invariant.names c.in_ok-index.ensures.least
    c.entry_of.result c.entry_of.ensures)
