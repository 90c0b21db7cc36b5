-- The object was described as of the version that the slot gives; its file was let be.
use Rattle.std.proofs.Common.{[], ◌≡◌, IfOk, None, ap, ◌∙◌, refl, subst, sym}
use Rattle.disk_model.proofs.Goings.{rests_none}
use Rattle.serial_calls.proofs.ChangeAnswers.{live_slots}
use Rattle.serial_calls.specs.DeviceCounts.{told_of}
use Rattle.serial_calls.specs.SlotValues.{IsLive, SlotValue}
use Rattle.tee_types.specs.declared.reply.Device.TheVariants.{File}
use Rattle.shared_calls.specs.Kept.{KeepsSlot}
use Rattle.shared_calls.specs.SharedInfo.{HasDescribed}
use Rattle.shared_calls.proofs.DescribedObjects.{described-of}
use Rattle.shared_calls.proofs.KeptAnswers.{info-cause, keeps-given}
use Rattle.shared_calls.proofs.info_call.describe_loaded.Goals as goal

pub returns : goal.returns
returns g c =
    let store = g.L.StoreName.store in
    let devices = g.L.DevicesName.devices in
    let slot = c.slot.inside.slot in
    let result = c.describe_live.result in
    let is_live = subst (λ (s : SlotValue). IsLive s.holds) (sym c.slot.view_is) c.requires.live in
    let settled : slot.doubt ≡ None = ap (λ (s : SlotValue). s.doubt) c.slot.view_is ∙ c.requires.settled in
    let given = live_slots store slot c.slot.invariant is_live settled in
    let kept = subst (λ (s : SlotValue). KeepsSlot devices s []) (sym c.slot.view_is) c.requires.kept in
    let described = c.describe_live.ensures given.0 given.1 in
    record {
      described = subst (λ (s : SlotValue). IfOk result (HasDescribed store s c.args.by.now)) c.slot.view_is (described-of store slot given.0 c.args.by.now given.1 result described);
      kept = subst (λ (s : SlotValue). IfOk result (λ reply. KeepsSlot devices s (told_of (File s.number) reply))) c.slot.view_is
          (keeps-given devices slot slot refl (rests_none slot.file) kept result (info-cause store slot slot given.0 c.args.by.now result described));
    }
