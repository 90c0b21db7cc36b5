use Rattle.std.proofs.Common.{Result, Ok, Err, ap}
use Rattle.std.proofs.lemmas.Result.{err_from_is_err_and}
use Rattle.rpmb_frame.specs.declared.frame.Frame.{Frame}
use Rattle.rpmb_host.specs.Calls.{told}
use Rattle.rpmb_host.specs.declared.fault.HostFault.{HostFault}
use Rattle.rpmb_host.proofs.Counting.{exchange_calm, exchange_counts}
use Rattle.rpmb_host.proofs.CardsBefore.{was_left}
use Rattle.rpmb_host.proofs.HonestCalls.{card_stays, counter_honest, counter_stays}
use Rattle.rpmb_host.proofs.host.Host.read_counter.Goals as goal

pub returns-in_err-answer-clause-stays : goal.returns-in_err-answer-clause-stays
returns-in_err-answer-clause-stays g c =
    card_stays (g.R.RpmbPort.state c.args.self.now.port) (g.R.RpmbPort.state c.ask.new.self.port) c.counter_request.result _ c.in_err-answer.ensures.exchanged
    (λ s. rw c.counter_request.ensures (counter_stays c.args.nonce.now c.told-nonce s))

pub returns-in_err-answer-clause-honest : goal.returns-in_err-answer-clause-honest
returns-in_err-answer-clause-honest g c =
    let p = err_from_is_err_and c.from_residual.result c.from_residual.ensures.1 in
    rw (p.1, p.2)
    (counter_honest (g.R.RpmbPort.state c.args.self.now.port) (g.R.RpmbPort.state c.ask.new.self.port) c.args.self.now.key c.args.nonce.now
    (Err c.in_err-answer.field-0.0) c.told-nonce (rw c.counter_request.ensures at c.in_err-answer.ensures.exchanged)
    (ap (told (λ (f : Frame). f.counter)) c.in_err-answer.ensures.judged))

pub returns-clause-stays : goal.returns-clause-stays
returns-clause-stays g c =
    card_stays (g.R.RpmbPort.state c.args.self.now.port) (g.R.RpmbPort.state c.ask.new.self.port) c.counter_request.result _ c.in_ok-answer.ensures.exchanged
    (λ s. rw c.counter_request.ensures (counter_stays c.args.nonce.now c.told-nonce s))

pub returns-clause-honest : goal.returns-clause-honest
returns-clause-honest g c =
    counter_honest (g.R.RpmbPort.state c.args.self.now.port) (g.R.RpmbPort.state c.ask.new.self.port) c.args.self.now.key c.args.nonce.now
    (Ok c.in_ok-answer.answer.counter) c.told-nonce (rw c.counter_request.ensures at c.in_ok-answer.ensures.exchanged)
    (ap (told (λ (f : Frame). f.counter)) c.in_ok-answer.ensures.judged)

pub returns-in_err-answer-clause-counts : goal.returns-in_err-answer-clause-counts
returns-in_err-answer-clause-counts g c =
    let p = err_from_is_err_and c.from_residual.result c.from_residual.ensures.1 in
    rw (p.1, p.2)
    (exchange_counts (g.R.RpmbPort.state c.args.self.now.port) (g.R.RpmbPort.state c.ask.new.self.port) c.counter_request.result (let value : Result Frame HostFault = Err c.in_err-answer.field-0.0 in value) c.in_err-answer.ensures.exchanged)

pub returns-in_err-answer-clause-calm : goal.returns-in_err-answer-clause-calm
returns-in_err-answer-clause-calm g c =
    let p = err_from_is_err_and c.from_residual.result c.from_residual.ensures.1 in
    rw (p.1, p.2)
    (exchange_calm (g.R.RpmbPort.state c.args.self.now.port) (g.R.RpmbPort.state c.ask.new.self.port) c.counter_request.result (let value : Result Frame HostFault = Err c.in_err-answer.field-0.0 in value) c.in_err-answer.ensures.exchanged)

pub returns-clause-counts : goal.returns-clause-counts
returns-clause-counts g c =
    exchange_counts (g.R.RpmbPort.state c.args.self.now.port) (g.R.RpmbPort.state c.ask.new.self.port) c.counter_request.result (let value : Result Frame HostFault = Ok c.in_ok-answer.answer in value) c.in_ok-answer.ensures.exchanged

pub returns-clause-calm : goal.returns-clause-calm
returns-clause-calm g c =
    exchange_calm (g.R.RpmbPort.state c.args.self.now.port) (g.R.RpmbPort.state c.ask.new.self.port) c.counter_request.result (let value : Result Frame HostFault = Ok c.in_ok-answer.answer in value) c.in_ok-answer.ensures.exchanged

pub returns-in_err-answer-clause-was : goal.returns-in_err-answer-clause-was
returns-in_err-answer-clause-was g c card has =
    was_left (g.R.RpmbPort.state c.args.self.now.port) (g.R.RpmbPort.state c.ask.new.self.port) c.args.self.now.key c.ask.new.self.key card
    (returns-in_err-answer-clause-stays g c) c.in_err-answer.ensures.key has

pub returns-clause-was : goal.returns-clause-was
returns-clause-was g c card has =
    was_left (g.R.RpmbPort.state c.args.self.now.port) (g.R.RpmbPort.state c.ask.new.self.port) c.args.self.now.key c.ask.new.self.key card
    (returns-clause-stays g c) c.in_ok-answer.ensures.key has
