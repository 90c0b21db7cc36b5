use Rattle.std.proofs.Common.{arith, subst}
use Rattle.object_calls.specs.OpeningFiles.{files_of}
use Rattle.object_calls.specs.FinishedPhase.{GivesBack, HaveCounted, LeavesStore}
use Rattle.object_calls.specs.Services.{ServiceValue}
use Rattle.object_calls.proofs.LeftStores.{gives_back}
use Rattle.object_calls.proofs.service.Service.finish.Goals as goal

pub close_slots-requires-clause-objects : goal.close_slots-requires-clause-objects
close_slots-requires-clause-objects g c = λ i d within.
    let are = c.self.invariant.0.slots_are in
    let number = are.numbered i d within in
    (omega (arith, number), omega (arith, number, within, are.many))

pub returns-clause-counted : goal.returns-clause-counted
returns-clause-counted g c =
    subst (λ (v : ServiceValue g.row.F.Denot g.row.R.Denot). HaveCounted {E = g.row.E.Denot} v.gate.journal.knows c.args.sessions.items) c.self.view_is c.close_slots.ensures.counted

pub returns-clause-gives : goal.returns-clause-gives
returns-clause-gives g c =
    let state = g.F.StoreFile.state in
    let i = c.self.inside in
    let s : ServiceValue g.row.F.Denot g.row.R.Denot = record { gate = i.gate; slots = i.slots.items; storage_key = i.storage_key; spare = i.spare } in
    let closed = c.close_slots in
    subst (λ (v : ServiceValue g.row.F.Denot g.row.R.Denot). GivesBack state v closed.result.bench.files.items closed.result.bench.card) c.self.view_is
    (gives_back state g.L.StoreName.store i.gate.journal.knows s closed.result.bench.files.items closed.result.bench.card c.self.invariant.0.slots_are closed.ensures.dir closed.ensures.spare closed.ensures.card
    closed.ensures.placed)

pub returns-clause-leaves : goal.returns-clause-leaves
returns-clause-leaves g c =
    let closed = c.close_slots.result in
    subst
    (λ (v : ServiceValue g.row.F.Denot g.row.R.Denot). LeavesStore g.L.StoreName.store v.gate.journal.knows (files_of g.F.StoreFile.state closed.bench.files.items) (g.R.RpmbPort.state closed.bench.card)
    closed.doubt)
    c.self.view_is c.close_slots.ensures.leaves
