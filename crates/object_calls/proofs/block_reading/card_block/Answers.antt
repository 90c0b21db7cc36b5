use Rattle.std.proofs.Common.{ℕ, sym, ap, subst}
use Rattle.disk_model.specs.State.{FileState}
use Rattle.rpmb_host.specs.Calls.{HostState}
use Rattle.store_commit.specs.Causes.{counts}
use Rattle.store_commit.specs.Counts.{RefusalCounts}
use Rattle.object_calls.proofs.block_reading.card_block.Goals as goal

pub returns-in-Err-clause-counts : goal.returns-in-Err-clause-counts
returns-in-Err-clause-counts g c = λ (file : FileState).
    let port = g.R.RpmbPort.state in
    let drew : ℕ = g.E.Entropy.faults c.args.entropy.now in
    let draws : ℕ = g.E.Entropy.faults c.read_block.new.entropy in
    subst (λ (r : g.row.R.Denot). RefusalCounts (counts file (port c.args.bench.card) drew) (counts file (port r) draws) c.in-Err.fault) (sym c.into_port-card-in-Err.ensures)
    (subst (λ (r : g.row.R.Denot). RefusalCounts (counts file (port r) drew) (counts file (port c.read_block.new.host.port) draws) c.in-Err.fault)
    (ap (λ (h : HostState g.row.R.Denot). h.port) c.new-host.ensures) (c.in-Err.ensures.counts file))
