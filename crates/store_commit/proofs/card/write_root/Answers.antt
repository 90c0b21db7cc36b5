use Rattle.std.proofs.Common.{◌≡◌, ◌⊎◌, ◌∙◌, ℕ, List, Some, refl, subst, sym, ap}
use Rattle.rpmb_host.specs.Honest.{written_card}
use Rattle.crash_core.specs.CardBlock.{root_block}
use Rattle.store_commit.specs.CardEnds.{CardLeft}
use Rattle.store_commit.specs.CardCauses.{AskCause}
use Rattle.store_commit.specs.Heard.{AskHeard}
use Rattle.store_commit.proofs.CardWrites.{asked, next_card}
use Rattle.store_commit.proofs.CardCauses.{calm_end, calm_then, not_failed, same_faults, write_cause, write_counts}
use Rattle.store_commit.proofs.Hearing.{card_heard, refused_write, some_written}
use Rattle.store_commit.proofs.PortArms.{arms_then, written_arms}
use Rattle.store_commit.proofs.card.write_root.Goals as goal

pub returns-in-Ok-clause-card : goal.returns-in-Ok-clause-card
returns-in-Ok-clause-card g c card has current =
    let new = g.R.RpmbPort.state c.write_block.new.self.port in
    let left : new.card ≡ Some (written_card card 0 c.args.counter (root_block c.args.root.now)) =
    subst (λ (b : List ℕ). new.card ≡ Some (written_card card 0 c.args.counter b)) c.root_block-block.ensures (c.in-Ok.ensures.honest c.requires card has refl).1 in
    next_card new c.write_block.new.self.key card c.args.counter c.args.root.now (has.keyed ∙ ap (λ (k : List ℕ). Some k) (sym c.in-Ok.ensures.key)) current c.requires left

pub returns-in-Err-clause-card : goal.returns-in-Err-clause-card
returns-in-Err-clause-card g c card has current =
    let mid = g.R.RpmbPort.state c.write_block.new.self.port in
    let new = g.R.RpmbPort.state c.ask.new.host.port in
    let mid_key : c.write_block.new.self.key ≡ c.args.host.now.key = c.in-Err.ensures.key in
    let new_key : c.ask.new.host.key ≡ c.write_block.new.self.key = c.ask.ensures.key in
    let left : (mid.card ≡ Some card) ⊎ (mid.card ≡ Some (written_card card 0 c.args.counter (root_block c.args.root.now))) =
    subst (λ (b : List ℕ). (mid.card ≡ Some card) ⊎ (mid.card ≡ Some (written_card card 0 c.args.counter b))) c.root_block-block.ensures (c.in-Err.ensures.left c.requires card has) in
    subst (λ (k : List ℕ). CardLeft new k card c.args.root.now c.ask.result) (sym new_key)
    (asked mid new c.write_block.new.self.key card c.args.counter c.args.root.now c.cause_of-cause.result c.ask.result
    (has.keyed ∙ ap (λ (k : List ℕ). Some k) (sym mid_key)) current c.requires left c.ask.ensures.card c.ask.ensures.counter)

pub returns-in-Err-clause-was : goal.returns-in-Err-clause-was
returns-in-Err-clause-was g c card has =
    c.in-Err.ensures.was card (record { told = sym c.ask.ensures.card ∙ has.told; keyed = has.keyed ∙ ap (λ (k : List ℕ). Some k) c.ask.ensures.key })

pub returns-in-Err-clause-cause : goal.returns-in-Err-clause-cause
returns-in-Err-clause-cause g c =
    let old = g.R.RpmbPort.state c.args.host.now.port in
    let mid = g.R.RpmbPort.state c.write_block.new.self.port in
    let new = g.R.RpmbPort.state c.ask.new.host.port in
    let key : c.write_block.new.self.key ≡ c.args.host.now.key = c.in-Err.ensures.key in
    write_cause c.args.host.now.key c.args.counter c.args.root.now old mid new c.in-Err.fault c.cause_of-cause.result c.requires
    c.in-Err.ensures.counted c.cause_of-cause.ensures c.in-Err.ensures.counts
    (λ card has other. (c.in-Err.ensures.honest c.requires card has other).0)
    (λ card has. subst (λ (b : List ℕ). (mid.card ≡ Some card) ⊎ (mid.card ≡ Some (written_card card 0 c.args.counter b))) c.root_block-block.ensures (c.in-Err.ensures.left c.requires card has))
    c.ask.result
    (subst (λ (k : List ℕ). AskCause k c.args.counter mid new c.cause_of-cause.result c.ask.result) key c.ask.ensures.cause)

pub returns-in-Err-clause-heard : goal.returns-in-Err-clause-heard
returns-in-Err-clause-heard g c =
    let old = g.R.RpmbPort.state c.args.host.now.port in
    let mid = g.R.RpmbPort.state c.write_block.new.self.port in
    let new = g.R.RpmbPort.state c.ask.new.host.port in
    let key : c.write_block.new.self.key ≡ c.args.host.now.key = c.in-Err.ensures.key in
    card_heard c.args.host.now.key c.args.counter new c.cause_of-cause.result c.ask.result
    (refused_write c.args.host.now.key c.args.counter mid new c.in-Err.fault c.cause_of-cause.result c.cause_of-cause.ensures
    (c.in-Err.ensures.answer c.requires)
    (λ is. some_written old mid _ _ (c.in-Err.ensures.exchanged c.requires) is) c.ask.ensures.stays)
    (subst (λ (k : List ℕ). AskHeard k c.args.counter new c.cause_of-cause.result c.ask.result) key c.ask.ensures.heard)

pub returns-in-Ok-clause-calm : goal.returns-in-Ok-clause-calm
returns-in-Ok-clause-calm g c calm = (record { calm = (c.in-Ok.ensures.calm calm).1; faults = c.in-Ok.ensures.counts }, tt)

pub returns-in-Err-clause-calm : goal.returns-in-Err-clause-calm
returns-in-Err-clause-calm g c calm =
    let old = g.R.RpmbPort.state c.args.host.now.port in
    let mid = g.R.RpmbPort.state c.write_block.new.self.port in
    let new = g.R.RpmbPort.state c.ask.new.host.port in
    let stays = c.in-Err.ensures.calm calm in
    let asked = c.ask.ensures.calm stays.1 in (
      calm_then old mid new (record { calm = stays.1; faults = same_faults old mid c.in-Err.fault c.in-Err.ensures.counts stays.0 }) asked.0,
      calm_end c.cause_of-cause.result c.ask.result (not_failed c.in-Err.fault c.cause_of-cause.result c.cause_of-cause.ensures stays.0) asked.1,
    )

pub returns-in-Err-clause-counts : goal.returns-in-Err-clause-counts
returns-in-Err-clause-counts g c =
    write_counts c.write_block.new.self.key c.args.counter (g.R.RpmbPort.state c.args.host.now.port) (g.R.RpmbPort.state c.write_block.new.self.port) (g.R.RpmbPort.state c.ask.new.host.port)
    c.in-Err.fault c.cause_of-cause.result c.ask.result c.cause_of-cause.ensures c.in-Err.ensures.counts c.in-Err.ensures.counted c.ask.ensures.counted c.ask.ensures.cause

pub returns-in-Ok-clause-arms : goal.returns-in-Ok-clause-arms
returns-in-Ok-clause-arms g c = written_arms (g.R.RpmbPort.state c.args.host.now.port) (g.R.RpmbPort.state c.write_block.new.self.port) _ _ (c.in-Ok.ensures.exchanged c.requires)

pub returns-in-Err-clause-arms : goal.returns-in-Err-clause-arms
returns-in-Err-clause-arms g c =
    let old = g.R.RpmbPort.state c.args.host.now.port in
    let mid = g.R.RpmbPort.state c.write_block.new.self.port in
    arms_then old mid (g.R.RpmbPort.state c.ask.new.host.port) (written_arms old mid _ _ (c.in-Err.ensures.exchanged c.requires)) c.ask.ensures.arms
