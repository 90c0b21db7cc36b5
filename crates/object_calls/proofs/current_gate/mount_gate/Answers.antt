use Rattle.std.proofs.Common.{◌≡◌, ◌∙◌, ℕ, inr, refl, sym, ap, subst}
use Rattle.store_commit.specs.Causes.{counts}
use Rattle.store_commit.specs.Counts.{NoneRose}
use Rattle.store_commit.specs.Gates.{gate_sides}
use Rattle.store_commit.specs.Mounts.{LeavesDevices}
use Rattle.object_calls.specs.OldStores.{HearsOldEntry, NamesOldEntry}
use Rattle.object_calls.proofs.OldGates.{entries_current, entries_old, gate_not_current, heard_not_current}
use Rattle.object_calls.proofs.current_gate.mount_gate.Goals as goal

pub returns-in-Err-clause-refused : goal.returns-in-Err-clause-refused
returns-in-Err-clause-refused g c =
    let state = g.F.StoreFile.state in
    let port = g.R.RpmbPort.state in
    let b = c.in-Err.broken in
    gate_not_current (state c.args.dir) (state b.dir) (port c.args.card) (port b.card) c.args.keys.now (g.E.Entropy.faults c.args.entropy.now) (g.E.Entropy.faults c.mount.new.entropy)
    b.fault c.in-Err.ensures.refused

pub returns-in_default-clause-current : goal.returns-in_default-clause-current
returns-in_default-clause-current g c =
    let state = g.F.StoreFile.state in
    let port = g.R.RpmbPort.state in
    let m = c.in-Ok.ensures in (
      m.current,
      entries_current (state c.args.dir) (port c.args.card) c.args.keys.now (gate_sides state port c.in-Ok.gate) m.opens m.current (sym c.first_old.ensures ∙ c.in_default.is),
    )

pub returns-clause-refused : goal.returns-clause-refused
returns-clause-refused g c =
    let state = g.F.StoreFile.state in
    let port = g.R.RpmbPort.state in
    let m = c.in-Ok.ensures in
    let dir_is : c.close-dir.result.0 ≡ c.in-Ok.gate.dir.file = ap (λ p. p.0) c.close-dir.ensures.gives in
    inr (subst (λ (f : g.row.F.Denot). NamesOldEntry (state c.args.dir) (state f) (port c.args.card) c.args.keys.now c.in-Some.file) (sym dir_is)
    (entries_old (state c.args.dir) (port c.args.card) c.args.keys.now (gate_sides state port c.in-Ok.gate) m.opens m.current c.in-Some.file (sym c.in-Some.ensures)))

pub returns-in-Err-clause-heard : goal.returns-in-Err-clause-heard
returns-in-Err-clause-heard g c =
    let state = g.F.StoreFile.state in
    let port = g.R.RpmbPort.state in
    let b = c.in-Err.broken in
    heard_not_current (state c.args.dir) (state b.dir) (port c.args.card) (port b.card) c.args.keys.now (g.E.Entropy.faults c.args.entropy.now) (g.E.Entropy.faults c.mount.new.entropy)
    b.fault c.in-Err.ensures.heard

pub returns-clause-heard : goal.returns-clause-heard
returns-clause-heard g c =
    let state = g.F.StoreFile.state in
    let port = g.R.RpmbPort.state in
    let gate = c.in-Ok.gate in
    let m = c.in-Ok.ensures in
    let keys = c.args.keys.now in
    let heard : HearsOldEntry (state c.args.dir) (state gate.dir.file) (port c.args.card) (port gate.host.port) keys c.in-Some.file =
    record {
      gate = gate_sides state port gate;
      opens = m.opens;
      left = (refl, refl);
      current = m.current;
      first = sym c.in-Some.ensures;
    } in
    inr (subst (λ (p : g.row.F.Denot × g.row.R.Denot). HearsOldEntry (state c.args.dir) (state p.0) (port c.args.card) (port p.1) keys c.in-Some.file) (sym c.close-dir.ensures.gives) heard)

pub returns-clause-leaves : goal.returns-clause-leaves
returns-clause-leaves g c =
    let state = g.F.StoreFile.state in
    let port = g.R.RpmbPort.state in
    subst (λ (p : g.row.F.Denot × g.row.R.Denot). LeavesDevices (state c.args.dir) (state p.0) (port c.args.card) (port p.1)) (sym c.close-dir.ensures.gives) c.in-Ok.ensures.opens.devices

pub returns-clause-counts : goal.returns-clause-counts
returns-clause-counts g c =
    let state = g.F.StoreFile.state in
    let port = g.R.RpmbPort.state in
    let drew : ℕ = g.E.Entropy.faults c.args.entropy.now in
    let draws : ℕ = g.E.Entropy.faults c.mount.new.entropy in
    subst (λ (p : g.row.F.Denot × g.row.R.Denot). NoneRose (counts (state c.args.dir) (port c.args.card) drew) (counts (state p.0) (port p.1) draws)) (sym c.close-dir.ensures.gives)
    c.in-Ok.ensures.passed
