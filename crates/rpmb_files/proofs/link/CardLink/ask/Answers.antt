use Rattle.rpmb_files.specs.Causes.{NoCard}
use Rattle.rpmb_files.specs.Devices.{devices}
use Rattle.rpmb_files.specs.Links.{NoneOfBoth}
use Rattle.rpmb_files.proofs.Exchanges.{cause_then, goes_same}
use Rattle.rpmb_files.proofs.link.CardLink.ask.Goals as goal

pub returns-in-Err-clause-cause : goal.returns-in-Err-clause-cause
returns-in-Err-clause-cause g c =
    let key = c.args.self.now.host.key in
    let old = devices (g.R.RpmbPort.state c.args.self.now.host.port) (g.E.Entropy.faults c.args.self.now.entropy) in
    let new = devices (g.R.RpmbPort.state c.read_counter.new.self.host.port) (g.E.Entropy.faults c.read_counter.new.self.entropy) in
    cause_then (NoCard key old) (NoneOfBoth key c.args.self.now.counter old) key old old new c.in-Err.cause (goes_same key old)
    (λ none card has both. none card has) c.in-Err.ensures.cause
