use Rattle.std.proofs.Common.{sym, inl}
use Rattle.card_maps.specs.Tables.{named}
use Rattle.rpmb_files.proofs.Getting.{names_entry}
use Rattle.rpmb_files.proofs.read.entry_named.Goals as goal

pub returns-in-Some : goal.returns-in-Some
returns-in-Some c =
    names_entry c.args.table.now (named c.args.app c.args.id) c.in-Some.b c.entry.result (sym c.in-Some.ensures) c.entry.ensures

pub returns-in-None : goal.returns-in-None
returns-in-None c = inl (sym c.in-None.ensures)
