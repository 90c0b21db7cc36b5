use Rattle.std.proofs.Common.{arith}
use Rattle.folder_audit.proofs.Ordered.{index_below, name_entry, name_found, name_holds}
use Rattle.folder_audit.proofs.order.entry_of.Goals as goal

pub bounds : goal.bounds
bounds c =
    index_below c.args.entries.now c.args.names.now.entries c.requires.names c.args.place c.index-entries-place.result c.requires.within c.entries.result.now c.entries.ensures.value

pub bounds-entries-index : goal.bounds-entries-index
bounds-entries-index c =
    index_below c.args.entries.now c.args.names.now.entries c.requires.names c.args.place c.index-entries-place.result c.requires.within c.entries.result.now c.entries.ensures.value

pub unreachable-requires : goal.unreachable-requires
unreachable-requires c =
    let entries = c.args.entries.now in
    let names = c.args.names.now.entries in
    let seen = c.index-entries-place.result in
    c.in_default.not-Some (name_entry entries names c.requires.names c.args.place seen c.requires.within).0
    (name_found entries names c.requires.names c.args.place seen c.requires.within c.entries.result.now seen _ c.entries.ensures.value)

pub bounds-entries-index-in-Some-1 : goal.bounds-entries-index-in-Some-1
bounds-entries-index-in-Some-1 c =
    index_below c.args.entries.now c.args.names.now.entries c.requires.names c.args.place c.index-entries-place.result c.requires.within c.entries.result.now c.entries.ensures.value

pub returns-clause-low : goal.returns-clause-low
returns-clause-low c =
    let below = index_below c.args.entries.now c.args.names.now.entries c.requires.names c.args.place c.index-entries-place.result c.requires.within c.entries.result.now c.entries.ensures.value in
    omega (arith, below, c.requires.whole)

pub returns-clause-named : goal.returns-clause-named
returns-clause-named c = λ d.
    name_holds c.args.entries.now c.args.names.now.entries c.requires.names c.args.place d c.requires.within c.entries.result.now c.index-entries-place.result _ c.in-Some.entry c.entries.ensures.value
    c.in-Some.is
