use Rattle.std.proofs.Common.{◌≡◌, refl}
use Rattle.object_slots.specs.SlotStages.{write_change}
use Rattle.object_slots.specs.GuardedStages.{write_of}
use Rattle.object_slots.proofs.ChangeAnswers.{changes_answer, write_is}
use Rattle.object_slots.proofs.guarded_stage.stage_write.Goals as goal

pub returns-clause-guarded : goal.returns-clause-guarded
returns-clause-guarded g c =
    (changes_answer g.L.StoreName.store c.args.slot.now c.stage_write.new.self c.stage_write.ensures.same c.requires.calm c.requires.guarded (c.stage_write.new.entropy ≡ c.args.entropy.now) c.stage_write.result
    (λ o. write_change o c.args.at c.args.bytes.now) (λ n. write_of n c.args.at c.args.bytes.now) (write_is c.args.at c.args.bytes.now) c.args.slot.now.holds refl c.requires.live c.stage_write.ensures.stages).0

pub returns-clause-version : goal.returns-clause-version
returns-clause-version g c =
    (changes_answer g.L.StoreName.store c.args.slot.now c.stage_write.new.self c.stage_write.ensures.same c.requires.calm c.requires.guarded (c.stage_write.new.entropy ≡ c.args.entropy.now) c.stage_write.result
    (λ o. write_change o c.args.at c.args.bytes.now) (λ n. write_of n c.args.at c.args.bytes.now) (write_is c.args.at c.args.bytes.now) c.args.slot.now.holds refl c.requires.live c.stage_write.ensures.stages).1
