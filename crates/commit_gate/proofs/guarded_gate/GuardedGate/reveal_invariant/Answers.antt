-- The gate's directory tells that its entries are 256 without a double.
use Rattle.std.proofs.Common.{subst}
use Rattle.crash_core.specs.DirectoryLaws.{AreEntries}
use Rattle.store_commit.specs.Gates.{gate_sides}
use Rattle.commit_gate.specs.KnownMachine.{KnowsMachine}
use Rattle.commit_gate.specs.GuardedGates.{GuardedGateValue}
use Rattle.commit_gate.proofs.Knowing.{gate-entries, guarded_know}
use Rattle.commit_gate.proofs.guarded_gate.GuardedGate.reveal_invariant.Goals as goal

pub returns-clause-entries : goal.returns-clause-entries
returns-clause-entries g c =
    let gate = c.self.inside.gate in
    subst (λ (v : GuardedGateValue g.row.F.Denot g.row.R.Denot). AreEntries v.gate.dir.dir.entries) c.self.view_is
    (gate-entries (gate_sides g.F.StoreFile.state g.R.RpmbPort.state gate) gate.doubt c.reveal_invariant.ensures.stands)

pub returns-clause-machine : goal.returns-clause-machine
returns-clause-machine g c =
    let store = g.L.StoreName.store in
    let inside = c.self.inside in
    let entries = gate-entries (gate_sides g.F.StoreFile.state g.R.RpmbPort.state inside.gate) inside.gate.doubt c.reveal_invariant.ensures.stands in
    subst (λ (v : GuardedGateValue g.row.F.Denot g.row.R.Denot). KnowsMachine store v.journal.knows v.gate.dir.dir.entries v.gate.open_handles) c.self.view_is
    (guarded_know g.row.F.Denot g.row.R.Denot store inside.gate inside.journal.knows inside.closing c.self.invariant entries.distinct)
