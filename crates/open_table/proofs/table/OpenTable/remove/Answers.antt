use Rattle.std.proofs.Common.{ap, ◌∙◌, ◌==◌, sym, subst, IsSome}
use Rattle.std.specs.Map.{remove_entry}
use Rattle.open_table.specs.Table.{record_at}
use Rattle.open_table.proofs.SlabEntries.{remove_entry-entries, lookup-entries}
use Rattle.open_table.proofs.table.OpenTable.remove.Goals as goal

pub remove-requires : goal.remove-requires
remove-requires c =
    subst IsSome (ap (λ table. record_at table c.args.key) (sym c.self.view_is) ∙ lookup-entries c.self.inside.records c.args.key) c.requires

pub returns-clause-removed : goal.returns-clause-removed
returns-clause-removed c =
    remove_entry-entries c.self.inside.records c.remove.new.self c.args.key c.remove.ensures.slots
    ∙ ap (λ table. remove_entry (λ k. k == c.args.key) table.records) c.self.view_is
