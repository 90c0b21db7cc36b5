use Rattle.std.proofs.Common.{refl}
use Rattle.store_commit.specs.Causes.{counts}
use Rattle.store_commit.proofs.Cards.{has_still, refused_then}
use Rattle.store_commit.proofs.Counting.{counts_after}
use Rattle.store_commit.proofs.Leavings.{port_then}
use Rattle.store_commit.proofs.reading.read_card.Goals as goal

pub returns-in-Err-clause-fault : goal.returns-in-Err-clause-fault
returns-in-Err-clause-fault g c =
    refused_then (g.R.RpmbPort.state c.args.host.now.port) (g.R.RpmbPort.state c.read_counter.new.host.port) (g.R.RpmbPort.state c.read_block.new.host.port)
    c.args.host.now.key c.read_counter.new.host.key (g.E.Entropy.faults c.args.entropy.now) (g.E.Entropy.faults c.read_counter.new.entropy) (g.E.Entropy.faults c.read_block.new.entropy)
    c.in-Err.fault c.in_ok-counter.ensures.passed.0 c.in_ok-counter.ensures.stays c.in_ok-counter.ensures.key c.in_ok-counter.ensures.passed.1 c.in-Err.ensures.fault

pub returns-in-Err-clause-counts : goal.returns-in-Err-clause-counts
returns-in-Err-clause-counts g c file =
    counts_after (counts file (g.R.RpmbPort.state c.args.host.now.port) (g.E.Entropy.faults c.args.entropy.now))
    (counts file (g.R.RpmbPort.state c.read_counter.new.host.port) (g.E.Entropy.faults c.read_counter.new.entropy))
    (counts file (g.R.RpmbPort.state c.read_block.new.host.port) (g.E.Entropy.faults c.read_block.new.entropy))
    refl c.in_ok-counter.ensures.passed.0 c.in_ok-counter.ensures.passed.1 c.in-Err.fault (c.in-Err.ensures.counts file)

pub returns-in-Ok-clause-told : goal.returns-in-Ok-clause-told
returns-in-Ok-clause-told g c card has = record {
  counted = c.in_ok-counter.ensures.told card has;
  stands = c.in-Ok.ensures.told card
      (has_still (g.R.RpmbPort.state c.args.host.now.port) (g.R.RpmbPort.state c.read_counter.new.host.port) c.args.host.now.key c.read_counter.new.host.key card
      c.in_ok-counter.ensures.stays c.in_ok-counter.ensures.key has);
}

pub returns-in-Ok-clause-goes_on : goal.returns-in-Ok-clause-goes_on
returns-in-Ok-clause-goes_on g c =
    let port = g.R.RpmbPort.state in
    port_then (port c.args.host.now.port) (port c.read_counter.new.host.port) (port c.read_block.new.host.port) c.in_ok-counter.ensures.goes_on c.in-Ok.ensures.goes_on

pub returns-in-Err-clause-goes_on : goal.returns-in-Err-clause-goes_on
returns-in-Err-clause-goes_on g c =
    let port = g.R.RpmbPort.state in
    port_then (port c.args.host.now.port) (port c.read_counter.new.host.port) (port c.read_block.new.host.port) c.in_ok-counter.ensures.goes_on c.in-Err.ensures.goes_on
