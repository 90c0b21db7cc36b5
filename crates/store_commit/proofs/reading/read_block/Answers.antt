use Rattle.std.proofs.Common.{ℕ, List, [], Err, slice_index_or, refl, sym, subst}
use Rattle.rpmb_host.specs.Honest.{card_block}
use Rattle.store_commit.specs.Mounts.{CardRefused}
use Rattle.store_commit.specs.Causes.{counts}
use Rattle.store_commit.specs.Counts.{RefusalCounts, RefusalNotDrawn, RefusalNotOfCard}
use Rattle.store_commit.specs.Reads.{AsksBlock, OfHost}
use Rattle.store_commit.proofs.Cards.{host_refused, refused_then}
use Rattle.store_commit.proofs.Counting.{drawn_counts, drawn_not_card, file_same, host_counts, host_not_card, host_not_drawn}
use Rattle.store_commit.proofs.Leavings.{exchange_keeps, port_still}
use Rattle.store_commit.proofs.Readings.{block_read, block_refused, of_draw, of_host}
use Rattle.store_commit.proofs.reading.read_block.Goals as goal

pub returns-in-Err-read_block-clause-fault : goal.returns-in-Err-read_block-clause-fault
returns-in-Err-read_block-clause-fault g c =
    let old = g.R.RpmbPort.state c.args.host.now.port in
    let new = g.R.RpmbPort.state c.read_block.new.self.port in
    let key = c.args.host.now.key in
    let drew : ℕ = g.E.Entropy.faults c.args.entropy.now in
    let draws : ℕ = g.E.Entropy.faults c.draw_nonce.new.entropy in
    subst (CardRefused old new key drew draws) (sym c.host_answer.ensures)
    (refused_then old old new key key drew draws draws _ refl refl refl c.in-Ok.ensures.cause
    (host_refused old new key draws draws c.in-Err-read_block.fault (List ℕ) (λ card. card_block card 0) (λ card has. (slice_index_or card.blocks 0 [], refl)) c.in-Err-read_block.ensures.counts c.in-Err-read_block.ensures.honest
    (λ is. c.in-Err-read_block.ensures.unspent (λ i. Err (is i)))))

pub returns-in-Ok-read_block-clause-heard : goal.returns-in-Ok-read_block-clause-heard
returns-in-Ok-read_block-clause-heard g c =
    let old = g.R.RpmbPort.state c.args.host.now.port in
    let new = g.R.RpmbPort.state c.read_block.new.self.port in
    block_read c.args.host.now.key c.in-Ok.nonce old new c.in-Ok-read_block.block c.in-Ok-read_block.ensures.exchanged c.in-Ok-read_block.ensures.answer

pub returns-in-Ok-read_block-clause-calm : goal.returns-in-Ok-read_block-clause-calm
returns-in-Ok-read_block-clause-calm g c calm = ((c.in-Ok-read_block.ensures.calm calm).1, tt)

pub returns-in-Err-read_block-clause-refused : goal.returns-in-Err-read_block-clause-refused
returns-in-Err-read_block-clause-refused g c =
    let old = g.R.RpmbPort.state c.args.host.now.port in
    let new = g.R.RpmbPort.state c.read_block.new.self.port in
    let key = c.args.host.now.key in
    subst (OfHost (λ f. AsksBlock key old new (Err f))) (sym c.host_answer.ensures)
    (of_host (λ f. AsksBlock key old new (Err f)) c.in-Err-read_block.fault (block_refused key c.in-Ok.nonce old new c.in-Err-read_block.fault c.in-Err-read_block.ensures.exchanged c.in-Err-read_block.ensures.answer))

pub returns-in-Err-read_block-clause-counts : goal.returns-in-Err-read_block-clause-counts
returns-in-Err-read_block-clause-counts g c file =
    let old = counts file (g.R.RpmbPort.state c.args.host.now.port) (g.E.Entropy.faults c.args.entropy.now) in
    let new = counts file (g.R.RpmbPort.state c.read_block.new.self.port) (g.E.Entropy.faults c.draw_nonce.new.entropy) in
    subst (RefusalCounts old new) (sym c.host_answer.ensures)
    (host_counts old new c.in-Err-read_block.fault (file_same file) c.in-Ok.ensures.cause c.in-Err-read_block.ensures.counts)

pub returns-in-Err-read_block-clause-calm : goal.returns-in-Err-read_block-clause-calm
returns-in-Err-read_block-clause-calm g c calm =
    let stays = c.in-Err-read_block.ensures.calm calm in
    (stays.1, subst RefusalNotOfCard (sym c.host_answer.ensures) (host_not_card c.in-Err-read_block.fault stays.0))

pub returns-in-Err-read_block-clause-drawn : goal.returns-in-Err-read_block-clause-drawn
returns-in-Err-read_block-clause-drawn g c reliable = subst RefusalNotDrawn (sym c.host_answer.ensures) (host_not_drawn c.in-Err-read_block.fault)

pub returns-in-Err-clause-refused : goal.returns-in-Err-clause-refused
returns-in-Err-clause-refused g c =
    let old = g.R.RpmbPort.state c.args.host.now.port in
    of_draw (λ f. AsksBlock c.args.host.now.key old old (Err f)) (g.E.Entropy.faults c.draw_nonce.new.entropy) c.in-Err.cause c.in-Err.ensures.cause.1

pub returns-in-Err-clause-counts : goal.returns-in-Err-clause-counts
returns-in-Err-clause-counts g c file =
    drawn_counts file (g.R.RpmbPort.state c.args.host.now.port) (g.E.Entropy.faults c.args.entropy.now) (g.E.Entropy.faults c.draw_nonce.new.entropy) c.in-Err.cause c.in-Err.ensures.cause

pub returns-in-Err-clause-calm : goal.returns-in-Err-clause-calm
returns-in-Err-clause-calm g c calm = (calm, drawn_not_card (g.E.Entropy.faults c.draw_nonce.new.entropy) c.in-Err.cause c.in-Err.ensures.cause.1)

pub returns-in-Err-clause-goes_on : goal.returns-in-Err-clause-goes_on
returns-in-Err-clause-goes_on g c = port_still (g.R.RpmbPort.state c.args.host.now.port)

pub returns-in-Ok-read_block-clause-goes_on : goal.returns-in-Ok-read_block-clause-goes_on
returns-in-Ok-read_block-clause-goes_on g c =
    exchange_keeps (g.R.RpmbPort.state c.args.host.now.port) (g.R.RpmbPort.state c.read_block.new.self.port) _ _ c.in-Ok-read_block.ensures.exchanged

pub returns-in-Err-read_block-clause-goes_on : goal.returns-in-Err-read_block-clause-goes_on
returns-in-Err-read_block-clause-goes_on g c =
    exchange_keeps (g.R.RpmbPort.state c.args.host.now.port) (g.R.RpmbPort.state c.read_block.new.self.port) _ _ c.in-Err-read_block.ensures.exchanged
