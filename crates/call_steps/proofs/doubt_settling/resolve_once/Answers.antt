-- What the read of the counter tells, in one record.
use Rattle.commit_gate.specs.Resolving.{ResolvesHolds}
use Rattle.call_steps.proofs.Resolves.{at-some, if-some}
use Rattle.call_steps.proofs.doubt_settling.resolve_once.Goals as goal

pub returns : goal.returns
returns g c =
    let e = c.resolve.ensures in
    let old = c.args.gate.now in
    let new = c.resolve.new.self in
    let file = g.F.StoreFile.state in
    let port = g.R.RpmbPort.state in
    if-some old.gate.doubt _ _ e.resolves (λ d is resolves. record {
      resolves = resolves;
      doubt = e.doubt;
      holds = at-some old.gate.doubt (λ d. ResolvesHolds d c.resolve.result old.gate.holds new.gate.holds) d is e.holds;
      handles = e.handles;
      closing = e.closing;
      knows = e.knows;
      spare = e.spare;
      names = e.names;
      file = e.file;
      card = e.card;
      counter = e.counter;
      answered = e.answered;
      calm = e.calm;
      passed = e.passed;
      cause = e.cause;
    })
