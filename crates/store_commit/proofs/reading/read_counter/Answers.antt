use Rattle.std.proofs.Common.{◌≡◌, ℕ, Ok, Err, refl, sym, subst}
use Rattle.store_commit.specs.Mounts.{CardRefused}
use Rattle.store_commit.specs.Causes.{counts}
use Rattle.store_commit.specs.Counts.{RefusalCounts, RefusalNotDrawn, RefusalNotOfCard}
use Rattle.store_commit.specs.Reads.{AsksCounter, OfHost}
use Rattle.store_commit.proofs.Cards.{host_refused, refused_then}
use Rattle.store_commit.proofs.Counting.{drawn_counts, drawn_not_card, file_same, host_counts, host_not_card, host_not_drawn}
use Rattle.store_commit.proofs.Leavings.{exchange_keeps, port_still}
use Rattle.store_commit.proofs.Readings.{counter_read, counter_refused, of_draw, of_host}
use Rattle.store_commit.proofs.reading.read_counter.Goals as goal

pub returns-in-Ok-read_counter-clause-told : goal.returns-in-Ok-read_counter-clause-told
returns-in-Ok-read_counter-clause-told g c card has =
    let e : c.in-Ok-read_counter.counter ≡ card.counter = cc (c.in-Ok-read_counter.ensures.honest card has refl) in sym e

pub returns-in-Err-read_counter-clause-fault : goal.returns-in-Err-read_counter-clause-fault
returns-in-Err-read_counter-clause-fault g c =
    let old = g.R.RpmbPort.state c.args.host.now.port in
    let new = g.R.RpmbPort.state c.read_counter.new.self.port in
    let key = c.args.host.now.key in
    let drew : ℕ = g.E.Entropy.faults c.args.entropy.now in
    let draws : ℕ = g.E.Entropy.faults c.draw_nonce.new.entropy in
    subst (CardRefused old new key drew draws) (sym c.host_answer.ensures)
    (refused_then old old new key key drew draws draws _ refl refl refl c.in-Ok.ensures.cause
    (host_refused old new key draws draws c.in-Err-read_counter.fault ℕ (λ card. Ok card.counter) (λ card has. (card.counter, refl)) c.in-Err-read_counter.ensures.counts c.in-Err-read_counter.ensures.honest
    (λ is. c.in-Err-read_counter.ensures.unspent (λ i. Err (is i)))))

pub returns-in-Ok-read_counter-clause-heard : goal.returns-in-Ok-read_counter-clause-heard
returns-in-Ok-read_counter-clause-heard g c =
    let old = g.R.RpmbPort.state c.args.host.now.port in
    let new = g.R.RpmbPort.state c.read_counter.new.self.port in
    counter_read c.args.host.now.key c.in-Ok.nonce old new c.in-Ok-read_counter.counter c.in-Ok-read_counter.ensures.exchanged c.in-Ok-read_counter.ensures.answer

pub returns-in-Ok-read_counter-clause-calm : goal.returns-in-Ok-read_counter-clause-calm
returns-in-Ok-read_counter-clause-calm g c calm = ((c.in-Ok-read_counter.ensures.calm calm).1, tt)

pub returns-in-Err-read_counter-clause-refused : goal.returns-in-Err-read_counter-clause-refused
returns-in-Err-read_counter-clause-refused g c =
    let old = g.R.RpmbPort.state c.args.host.now.port in
    let new = g.R.RpmbPort.state c.read_counter.new.self.port in
    let key = c.args.host.now.key in
    subst (OfHost (λ f. AsksCounter key old new (Err f))) (sym c.host_answer.ensures)
    (of_host (λ f. AsksCounter key old new (Err f)) c.in-Err-read_counter.fault (counter_refused key c.in-Ok.nonce old new c.in-Err-read_counter.fault c.in-Err-read_counter.ensures.exchanged c.in-Err-read_counter.ensures.answer))

pub returns-in-Err-read_counter-clause-counts : goal.returns-in-Err-read_counter-clause-counts
returns-in-Err-read_counter-clause-counts g c file =
    let old = counts file (g.R.RpmbPort.state c.args.host.now.port) (g.E.Entropy.faults c.args.entropy.now) in
    let new = counts file (g.R.RpmbPort.state c.read_counter.new.self.port) (g.E.Entropy.faults c.draw_nonce.new.entropy) in
    subst (RefusalCounts old new) (sym c.host_answer.ensures)
    (host_counts old new c.in-Err-read_counter.fault (file_same file) c.in-Ok.ensures.cause c.in-Err-read_counter.ensures.counts)

pub returns-in-Err-read_counter-clause-calm : goal.returns-in-Err-read_counter-clause-calm
returns-in-Err-read_counter-clause-calm g c calm =
    let stays = c.in-Err-read_counter.ensures.calm calm in
    (stays.1, subst RefusalNotOfCard (sym c.host_answer.ensures) (host_not_card c.in-Err-read_counter.fault stays.0))

pub returns-in-Err-read_counter-clause-drawn : goal.returns-in-Err-read_counter-clause-drawn
returns-in-Err-read_counter-clause-drawn g c reliable = subst RefusalNotDrawn (sym c.host_answer.ensures) (host_not_drawn c.in-Err-read_counter.fault)

pub returns-in-Err-clause-refused : goal.returns-in-Err-clause-refused
returns-in-Err-clause-refused g c =
    let old = g.R.RpmbPort.state c.args.host.now.port in
    of_draw (λ f. AsksCounter c.args.host.now.key old old (Err f)) (g.E.Entropy.faults c.draw_nonce.new.entropy) c.in-Err.cause c.in-Err.ensures.cause.1

pub returns-in-Err-clause-counts : goal.returns-in-Err-clause-counts
returns-in-Err-clause-counts g c file =
    drawn_counts file (g.R.RpmbPort.state c.args.host.now.port) (g.E.Entropy.faults c.args.entropy.now) (g.E.Entropy.faults c.draw_nonce.new.entropy) c.in-Err.cause c.in-Err.ensures.cause

pub returns-in-Err-clause-calm : goal.returns-in-Err-clause-calm
returns-in-Err-clause-calm g c calm = (calm, drawn_not_card (g.E.Entropy.faults c.draw_nonce.new.entropy) c.in-Err.cause c.in-Err.ensures.cause.1)

pub returns-in-Err-clause-goes_on : goal.returns-in-Err-clause-goes_on
returns-in-Err-clause-goes_on g c = port_still (g.R.RpmbPort.state c.args.host.now.port)

pub returns-in-Ok-read_counter-clause-goes_on : goal.returns-in-Ok-read_counter-clause-goes_on
returns-in-Ok-read_counter-clause-goes_on g c =
    exchange_keeps (g.R.RpmbPort.state c.args.host.now.port) (g.R.RpmbPort.state c.read_counter.new.self.port) _ _ c.in-Ok-read_counter.ensures.exchanged

pub returns-in-Err-read_counter-clause-goes_on : goal.returns-in-Err-read_counter-clause-goes_on
returns-in-Err-read_counter-clause-goes_on g c =
    exchange_keeps (g.R.RpmbPort.state c.args.host.now.port) (g.R.RpmbPort.state c.read_counter.new.self.port) _ _ c.in-Err-read_counter.ensures.exchanged
