-- What the stage gave, by its result.
use Rattle.std.proofs.Common.{ap, sym, ℕ, ◌∙◌, ◌≡◌}
use Rattle.serial_calls.proofs.Slots.{stage_goes}
use Rattle.serial_calls.proofs.Checked.{unstaged_passed}
use Rattle.serial_calls.proofs.ChangeStages.{held, staged_base, staged_changes}
use Rattle.serial_calls.proofs.Unstaged.{truncate_by}
use Rattle.serial_calls.proofs.truncate_call.truncate_loaded.Goals as goal
use Rattle.serial_calls.specs.ChangeStaging.{DataCall, staged_of, resizing}
use Rattle.disk_model.specs.Calls.{GoesOn}
use Rattle.call_steps.proofs.ChangeAnswers.{live_slots}
use Rattle.call_steps.specs.SlotStages.{resize_change}
use Rattle.call_steps.specs.SlotValues.{HeldObject, SlotValue}

pub returns-in_default-clause-goes_on : goal.returns-in_default-clause-goes_on
returns-in_default-clause-goes_on g c =
    let old = c.args.slot.now in
    let new = c.stage_truncate-given.new.slot in
    stage_goes old.file new.file (λ (o : HeldObject). resize_change o c.args.size) new.holds (c.stage_truncate-given.new.entropy ≡ c.args.entropy.now) old.holds c.stage_truncate-given.result
    c.requires.live c.stage_truncate-given.ensures.stages

pub returns-clause-base : goal.returns-clause-base
returns-clause-base g c =
    let store = g.L.StoreName.store in
    let old = c.args.slot.now in
    let new = c.stage_truncate-given.new.slot in
    let asked : DataCall = resizing c.args.size in
    let given = live_slots store old c.requires.guarded c.requires.live c.requires.calm in
    staged_base store new asked given.0 (ap (λ (s : SlotValue). s.doubt) c.stage_truncate-given.ensures.same ∙ c.requires.calm) c.stage_truncate-given.result (c.stage_truncate-given.ensures.version given.0 given.1)

pub returns-clause-stages : goal.returns-clause-stages
returns-clause-stages g c = λ v gives.
    let store = g.L.StoreName.store in
    let old = c.args.slot.now in
    let new = c.stage_truncate-given.new.slot in
    let asked : DataCall = resizing c.args.size in
    let goes : GoesOn old.file new.file =
    stage_goes old.file new.file (λ (o : HeldObject). resize_change o c.args.size) new.holds (c.stage_truncate-given.new.entropy ≡ c.args.entropy.now) old.holds c.stage_truncate-given.result
    c.requires.live c.stage_truncate-given.ensures.stages in
    staged_changes store old new asked v c.requires.guarded c.requires.live gives goes.honest
    (λ handle. truncate_by store old new v (held store old new asked v c.requires.guarded c.requires.live gives goes.honest) goes.honest handle c.args.size)
    c.number.ensures.holding c.stage_truncate-given.result (c.stage_truncate-given.ensures.version v gives) c.in-Some.staged
    (sym c.in-Some.is ∙ c.staged_by.ensures ∙ ap (λ (n : ℕ). staged_of n c.stage_truncate-given.result) c.number.ensures.number)

pub returns-in_default-clause-passed : goal.returns-in_default-clause-passed
returns-in_default-clause-passed g c =
    unstaged_passed c.args.slot.now.file c.stage_truncate-given.new.slot.file c.number.result c.stage_truncate-given.result (sym c.in_default.is ∙ c.staged_by.ensures) c.stage_truncate-given.ensures.causes.file
