use Rattle.object_slots.specs.SlotStages.{resize_change}
use Rattle.object_slots.specs.GuardedStages.{resize_of}
use Rattle.object_slots.proofs.ChangeAnswers.{resize_is}
use Rattle.object_slots.proofs.CheckAnswers.{checks_answer, checks_rest}
use Rattle.object_slots.proofs.guarded_check.check_truncate.Goals as goal

pub returns-clause-guarded : goal.returns-clause-guarded
returns-clause-guarded g c =
    (checks_answer (Unit {0}) g.L.StoreName.store c.args.slot.now c.check_truncate-answer.new.self c.check_truncate-answer.ensures.same c.requires.calm c.requires.guarded c.number-before.ensures.sound c.number-behind.ensures.sound
    c.check_truncate-answer.result (λ o. resize_change o c.args.size) (λ n. resize_of n c.args.size) (resize_is c.args.size) c.number-before.ensures.holding c.requires.live c.check_truncate-answer.ensures.checks).0

pub returns-clause-version : goal.returns-clause-version
returns-clause-version g c =
    (checks_answer (Unit {0}) g.L.StoreName.store c.args.slot.now c.check_truncate-answer.new.self c.check_truncate-answer.ensures.same c.requires.calm c.requires.guarded c.number-before.ensures.sound c.number-behind.ensures.sound
    c.check_truncate-answer.result (λ o. resize_change o c.args.size) (λ n. resize_of n c.args.size) (resize_is c.args.size) c.number-before.ensures.holding c.requires.live c.check_truncate-answer.ensures.checks).1

pub returns-clause-rests : goal.returns-clause-rests
returns-clause-rests g c =
    (checks_rest (Unit {0}) g.L.StoreName.store c.args.slot.now c.check_truncate-answer.new.self c.check_truncate-answer.ensures.same c.requires.calm c.requires.guarded c.number-before.ensures.sound c.number-behind.ensures.sound
    c.check_truncate-answer.result (λ o. resize_change o c.args.size) (λ n. resize_of n c.args.size) (resize_is c.args.size) c.args.slot.now.holds c.requires.live c.check_truncate-answer.ensures.checks).0

pub returns-clause-cause : goal.returns-clause-cause
returns-clause-cause g c =
    (checks_rest (Unit {0}) g.L.StoreName.store c.args.slot.now c.check_truncate-answer.new.self c.check_truncate-answer.ensures.same c.requires.calm c.requires.guarded c.number-before.ensures.sound c.number-behind.ensures.sound
    c.check_truncate-answer.result (λ o. resize_change o c.args.size) (λ n. resize_of n c.args.size) (resize_is c.args.size) c.args.slot.now.holds c.requires.live c.check_truncate-answer.ensures.checks).1
