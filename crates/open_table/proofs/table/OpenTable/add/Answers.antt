use Rattle.std.proofs.Common.{ap, ◌∙◌, sym}
use Rattle.std.specs.BTreeMap.{insert_entry}
use Rattle.std.specs.Ordering.{nat_cmp}
use Rattle.open_table.specs.Table.{record_at}
use Rattle.open_table.specs.declared.table.OpenRecord.{OpenRecord}
use Rattle.open_table.proofs.SlabEntries.{lookup-entries, insert_entry-entries}
use Rattle.open_table.proofs.table.OpenTable.add.Goals as goal

pub returns-clause-fresh : goal.returns-clause-fresh
returns-clause-fresh c =
    let add = c.insert_reserved in
    ap (λ table. record_at table add.result) (sym c.self.view_is)
    ∙ lookup-entries c.self.inside.records add.result
    ∙ add.ensures.was_vacant

pub returns-clause-added : goal.returns-clause-added
returns-clause-added c =
    let add = c.insert_reserved in
    let opened : OpenRecord = record { file = c.args.file; session = c.args.session; handle = c.args.handle; flags = c.args.flags } in
    insert_entry-entries c.self.inside.records add.new.self add.result opened add.ensures.was_vacant add.ensures.updates
    ∙ ap (λ table. insert_entry nat_cmp table.records add.result opened) c.self.view_is
