use Rattle.store_commit.proofs.CardCauses.{asked_fault}
use Rattle.store_commit.proofs.resolve.ask_doubt.Goals as goal

pub returns-in-Err-clause-cause : goal.returns-in-Err-clause-cause
returns-in-Err-clause-cause g c =
    asked_fault c.args.host.now.key c.args.counter (g.R.RpmbPort.state c.args.host.now.port) (g.R.RpmbPort.state c.read_counter.new.self.port)
    c.in-Err.fault c.cause_of.result c.cause_of.result c.cause_of.ensures c.in-Err.ensures.counts c.in-Err.ensures.honest
