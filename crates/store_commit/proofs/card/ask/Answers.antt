use Rattle.std.proofs.Common.{refl}
use Rattle.store_commit.proofs.CardCauses.{asked_fault, asked_neither, not_failed, same_faults}
use Rattle.store_commit.proofs.Hearing.{last_stays, neither_heard, refused_counter, some_read}
use Rattle.store_commit.proofs.PortArms.{exchanged_arms}
use Rattle.store_commit.proofs.card.ask.Goals as goal

pub returns-else-now-counter-2-clause-cause : goal.returns-else-now-counter-2-clause-cause
returns-else-now-counter-2-clause-cause g c =
    asked_neither c.args.host.now.key c.args.counter c.in-Ok.now (g.R.RpmbPort.state c.args.host.now.port) (g.R.RpmbPort.state c.read_counter.new.self.port) c.args.cause _
    c.if-now-counter.false c.if-now-counter-2.false tt (λ card has. c.in-Ok.ensures.honest card has refl)

pub returns-in-Err-clause-cause : goal.returns-in-Err-clause-cause
returns-in-Err-clause-cause g c =
    asked_fault c.args.host.now.key c.args.counter (g.R.RpmbPort.state c.args.host.now.port) (g.R.RpmbPort.state c.read_counter.new.self.port)
    c.in-Err.fault c.args.cause c.cause_of.result c.cause_of.ensures c.in-Err.ensures.counts c.in-Err.ensures.honest

pub returns-then-now-counter-clause-stays : goal.returns-then-now-counter-clause-stays
returns-then-now-counter-clause-stays g c = last_stays (g.R.RpmbPort.state c.args.host.now.port) (g.R.RpmbPort.state c.read_counter.new.self.port) _ _ c.in-Ok.ensures.exchanged

pub returns-then-now-counter-2-clause-stays : goal.returns-then-now-counter-2-clause-stays
returns-then-now-counter-2-clause-stays g c = last_stays (g.R.RpmbPort.state c.args.host.now.port) (g.R.RpmbPort.state c.read_counter.new.self.port) _ _ c.in-Ok.ensures.exchanged

pub returns-else-now-counter-2-clause-stays : goal.returns-else-now-counter-2-clause-stays
returns-else-now-counter-2-clause-stays g c = last_stays (g.R.RpmbPort.state c.args.host.now.port) (g.R.RpmbPort.state c.read_counter.new.self.port) _ _ c.in-Ok.ensures.exchanged

pub returns-in-Err-clause-stays : goal.returns-in-Err-clause-stays
returns-in-Err-clause-stays g c = last_stays (g.R.RpmbPort.state c.args.host.now.port) (g.R.RpmbPort.state c.read_counter.new.self.port) _ _ c.in-Err.ensures.exchanged

pub returns-else-now-counter-2-clause-heard : goal.returns-else-now-counter-2-clause-heard
returns-else-now-counter-2-clause-heard g c =
    let old = g.R.RpmbPort.state c.args.host.now.port in
    let new = g.R.RpmbPort.state c.read_counter.new.self.port in
    neither_heard c.args.host.now.key c.args.counter c.in-Ok.now c.args.nonce.now new c.if-now-counter.false c.if-now-counter-2.false
    c.in-Ok.ensures.answer (some_read old new _ _ c.in-Ok.ensures.exchanged refl)

pub returns-in-Err-clause-heard : goal.returns-in-Err-clause-heard
returns-in-Err-clause-heard g c =
    let old = g.R.RpmbPort.state c.args.host.now.port in
    let new = g.R.RpmbPort.state c.read_counter.new.self.port in
    refused_counter c.args.host.now.key c.args.counter c.args.nonce.now new c.in-Err.fault c.cause_of.result c.cause_of.ensures
    c.in-Err.ensures.answer (λ is. some_read old new _ _ c.in-Err.ensures.exchanged is)

pub returns-then-now-counter-clause-calm : goal.returns-then-now-counter-clause-calm
returns-then-now-counter-clause-calm g c calm = (record { calm = (c.in-Ok.ensures.calm calm).1; faults = c.in-Ok.ensures.counts }, refl)

pub returns-then-now-counter-2-clause-calm : goal.returns-then-now-counter-2-clause-calm
returns-then-now-counter-2-clause-calm g c calm = (record { calm = (c.in-Ok.ensures.calm calm).1; faults = c.in-Ok.ensures.counts }, tt)

pub returns-else-now-counter-2-clause-calm : goal.returns-else-now-counter-2-clause-calm
returns-else-now-counter-2-clause-calm g c calm = (record { calm = (c.in-Ok.ensures.calm calm).1; faults = c.in-Ok.ensures.counts }, tt)

pub returns-in-Err-clause-calm : goal.returns-in-Err-clause-calm
returns-in-Err-clause-calm g c calm =
    let stays = c.in-Err.ensures.calm calm in (
      record {
        calm = stays.1;
        faults = same_faults (g.R.RpmbPort.state c.args.host.now.port) (g.R.RpmbPort.state c.read_counter.new.self.port) c.in-Err.fault c.in-Err.ensures.counts stays.0;
      },
      not_failed c.in-Err.fault c.cause_of.result c.cause_of.ensures stays.0,
    )

pub returns-then-now-counter-clause-arms : goal.returns-then-now-counter-clause-arms
returns-then-now-counter-clause-arms g c = exchanged_arms (g.R.RpmbPort.state c.args.host.now.port) (g.R.RpmbPort.state c.read_counter.new.self.port) _ _ c.in-Ok.ensures.exchanged

pub returns-then-now-counter-2-clause-arms : goal.returns-then-now-counter-2-clause-arms
returns-then-now-counter-2-clause-arms g c = exchanged_arms (g.R.RpmbPort.state c.args.host.now.port) (g.R.RpmbPort.state c.read_counter.new.self.port) _ _ c.in-Ok.ensures.exchanged

pub returns-else-now-counter-2-clause-arms : goal.returns-else-now-counter-2-clause-arms
returns-else-now-counter-2-clause-arms g c = exchanged_arms (g.R.RpmbPort.state c.args.host.now.port) (g.R.RpmbPort.state c.read_counter.new.self.port) _ _ c.in-Ok.ensures.exchanged

pub returns-in-Err-clause-arms : goal.returns-in-Err-clause-arms
returns-in-Err-clause-arms g c = exchanged_arms (g.R.RpmbPort.state c.args.host.now.port) (g.R.RpmbPort.state c.read_counter.new.self.port) _ _ c.in-Err.ensures.exchanged
