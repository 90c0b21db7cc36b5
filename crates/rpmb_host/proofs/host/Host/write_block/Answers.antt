use Rattle.std.proofs.Common.{Result, ◌≡◌, Ok, Err, ap, arith, refl, rules}
use Rattle.std.proofs.lemmas.Result.{err_from_is_err_and}
use Rattle.rpmb_frame.specs.declared.frame.Frame.{Frame}
use Rattle.rpmb_host.specs.Calls.{told}
use Rattle.rpmb_host.specs.Requests.{write_request}
use Rattle.rpmb_host.specs.declared.fault.HostFault.{HostFault}
use Rattle.rpmb_host.proofs.Counting.{write_calm, write_counts}
use Rattle.rpmb_host.proofs.CardsBefore.{was_written}
use Rattle.rpmb_host.proofs.HonestCalls.{write_honest, write_left, write_sound, write_written}
use Rattle.rpmb_host.proofs.host.Host.write_block.Goals as goal

pub returns-in_err-answer-clause-left : goal.returns-in_err-answer-clause-left
returns-in_err-answer-clause-left g c = λ fresh.
    let request : c.write_request-request.result ≡ write_request c.args.self.now.key c.args.address c.args.counter c.args.block.now = search rules in
    write_left (g.R.RpmbPort.state c.args.self.now.port) (g.R.RpmbPort.state c.write.new.self.port) c.args.self.now.key c.args.address c.args.counter c.args.block.now
    _ (omega arith) (omega arith) c.told-block (rw request at c.in_err-answer.ensures.exchanged)

pub returns-in_err-answer-clause-honest : goal.returns-in_err-answer-clause-honest
returns-in_err-answer-clause-honest g c = λ fresh.
    let request : c.write_request-request.result ≡ write_request c.args.self.now.key c.args.address c.args.counter c.args.block.now = search rules in
    let p = err_from_is_err_and c.from_residual.result c.from_residual.ensures.1 in
    rw (p.1, p.2) (write_honest (g.R.RpmbPort.state c.args.self.now.port) (g.R.RpmbPort.state c.write.new.self.port) c.args.self.now.key c.args.address c.args.counter c.args.block.now
    (Err c.in_err-answer.field-0.0) (omega arith) (omega arith) c.told-block (rw request at c.in_err-answer.ensures.exchanged)
    (ap (told (λ (f : Frame). f.counter)) c.in_err-answer.ensures.judged))

pub returns-clause-left : goal.returns-clause-left
returns-clause-left g c = λ fresh.
    let request : c.write_request-request.result ≡ write_request c.args.self.now.key c.args.address c.args.counter c.args.block.now = search rules in
    write_left (g.R.RpmbPort.state c.args.self.now.port) (g.R.RpmbPort.state c.write.new.self.port) c.args.self.now.key c.args.address c.args.counter c.args.block.now
    _ (omega arith) (omega arith) c.told-block (rw request at c.in_ok-answer.ensures.exchanged)

pub returns-clause-honest : goal.returns-clause-honest
returns-clause-honest g c = λ fresh.
    let request : c.write_request-request.result ≡ write_request c.args.self.now.key c.args.address c.args.counter c.args.block.now = search rules in
    write_honest (g.R.RpmbPort.state c.args.self.now.port) (g.R.RpmbPort.state c.write.new.self.port) c.args.self.now.key c.args.address c.args.counter c.args.block.now
    (Ok c.in_ok-answer.answer.counter) (omega arith) (omega arith) c.told-block (rw request at c.in_ok-answer.ensures.exchanged)
    (ap (told (λ (f : Frame). f.counter)) c.in_ok-answer.ensures.judged)

pub returns-clause-written : goal.returns-clause-written
returns-clause-written g c = λ card has.
    let request : c.write_request-request.result ≡ write_request c.args.self.now.key c.args.address c.args.counter c.args.block.now = search rules in
    let facts = returns-clause-honest g c (omega arith) card has refl in
    write_written card (g.R.RpmbPort.state c.write.new.self.port).card c.args.address c.args.counter c.in_ok-answer.answer.counter c.args.block.now
    (write_sound (g.R.RpmbPort.state c.args.self.now.port) (g.R.RpmbPort.state c.write.new.self.port) _ _ card (rw request at c.in_ok-answer.ensures.exchanged) has.told)
    facts.0 facts.1

pub returns-in_err-answer-clause-counts : goal.returns-in_err-answer-clause-counts
returns-in_err-answer-clause-counts g c =
    let p = err_from_is_err_and c.from_residual.result c.from_residual.ensures.1 in
    rw (p.1, p.2)
    (write_counts (g.R.RpmbPort.state c.args.self.now.port) (g.R.RpmbPort.state c.write.new.self.port) c.write_request-request.result (let value : Result Frame HostFault = Err c.in_err-answer.field-0.0 in value) c.in_err-answer.ensures.exchanged)

pub returns-in_err-answer-clause-calm : goal.returns-in_err-answer-clause-calm
returns-in_err-answer-clause-calm g c =
    let p = err_from_is_err_and c.from_residual.result c.from_residual.ensures.1 in
    rw (p.1, p.2)
    (write_calm (g.R.RpmbPort.state c.args.self.now.port) (g.R.RpmbPort.state c.write.new.self.port) c.write_request-request.result (let value : Result Frame HostFault = Err c.in_err-answer.field-0.0 in value) c.in_err-answer.ensures.exchanged)

pub returns-clause-counts : goal.returns-clause-counts
returns-clause-counts g c =
    write_counts (g.R.RpmbPort.state c.args.self.now.port) (g.R.RpmbPort.state c.write.new.self.port) c.write_request-request.result (let value : Result Frame HostFault = Ok c.in_ok-answer.answer in value) c.in_ok-answer.ensures.exchanged

pub returns-clause-calm : goal.returns-clause-calm
returns-clause-calm g c =
    write_calm (g.R.RpmbPort.state c.args.self.now.port) (g.R.RpmbPort.state c.write.new.self.port) c.write_request-request.result (let value : Result Frame HostFault = Ok c.in_ok-answer.answer in value) c.in_ok-answer.ensures.exchanged

pub returns-in_err-answer-clause-was : goal.returns-in_err-answer-clause-was
returns-in_err-answer-clause-was g c card has =
    let request : c.write_request-request.result ≡ write_request c.args.self.now.key c.args.address c.args.counter c.args.block.now = search rules in
    was_written (g.R.RpmbPort.state c.args.self.now.port) (g.R.RpmbPort.state c.write.new.self.port) c.args.self.now.key c.write.new.self.key
    c.args.address c.args.counter c.args.block.now _ card (omega arith) (omega arith) c.told-block
    (rw request at c.in_err-answer.ensures.exchanged) c.in_err-answer.ensures.key has

pub returns-clause-was : goal.returns-clause-was
returns-clause-was g c card has =
    let request : c.write_request-request.result ≡ write_request c.args.self.now.key c.args.address c.args.counter c.args.block.now = search rules in
    was_written (g.R.RpmbPort.state c.args.self.now.port) (g.R.RpmbPort.state c.write.new.self.port) c.args.self.now.key c.write.new.self.key
    c.args.address c.args.counter c.args.block.now _ card (omega arith) (omega arith) c.told-block
    (rw request at c.in_ok-answer.ensures.exchanged) c.in_ok-answer.ensures.key has
