use Rattle.std.proofs.Common.{◌≡◌, refl}
use Rattle.object_slots.specs.SlotStages.{resize_change}
use Rattle.object_slots.specs.GuardedStages.{resize_of}
use Rattle.object_slots.proofs.ChangeAnswers.{changes_answer, resize_is}
use Rattle.object_slots.proofs.guarded_stage.stage_truncate.Goals as goal

pub returns-clause-guarded : goal.returns-clause-guarded
returns-clause-guarded g c =
    (changes_answer g.L.StoreName.store c.args.slot.now c.stage_truncate.new.self c.stage_truncate.ensures.same c.requires.calm c.requires.guarded (c.stage_truncate.new.entropy ≡ c.args.entropy.now) c.stage_truncate.result
    (λ o. resize_change o c.args.size) (λ n. resize_of n c.args.size) (resize_is c.args.size) c.args.slot.now.holds refl c.requires.live c.stage_truncate.ensures.stages).0

pub returns-clause-version : goal.returns-clause-version
returns-clause-version g c =
    (changes_answer g.L.StoreName.store c.args.slot.now c.stage_truncate.new.self c.stage_truncate.ensures.same c.requires.calm c.requires.guarded (c.stage_truncate.new.entropy ≡ c.args.entropy.now) c.stage_truncate.result
    (λ o. resize_change o c.args.size) (λ n. resize_of n c.args.size) (resize_is c.args.size) c.args.slot.now.holds refl c.requires.live c.stage_truncate.ensures.stages).1
