-- The object was read as of the version that the slot gives.
use Rattle.std.proofs.Common.{[], ◌≡◌, None, ap, ◌∙◌, subst, sym}
use Rattle.serial_calls.proofs.ChangeAnswers.{live_slots}
use Rattle.serial_calls.proofs.Meetings.{file-moved}
use Rattle.serial_calls.specs.SlotValues.{IsLive, SlotValue}
use Rattle.shared_calls.proofs.ReadObjects.{has-read-of}
use Rattle.shared_calls.specs.Kept.{KeepsSlot}
use Rattle.shared_calls.proofs.KeptAnswers.{keeps-read, read-cause}
use Rattle.shared_calls.proofs.read_call.read_loaded.Goals as goal

pub returns : goal.returns
returns g c =
    let store = g.L.StoreName.store in
    let old = c.slot.inside.slot in
    let new = c.read_live.new.slot in
    let is_live = subst (λ (s : SlotValue). IsLive s.holds) (sym c.slot.view_is) c.requires.live in
    let settled : old.doubt ≡ None = ap (λ (s : SlotValue). s.doubt) c.slot.view_is ∙ c.requires.settled in
    let given = live_slots store old c.slot.invariant is_live settled in
    let same = file-moved old new c.read_live.ensures.same in
    let kept = subst (λ (s : SlotValue). KeepsSlot g.L.DevicesName.devices s []) (sym c.slot.view_is) c.requires.kept in
    record {
      read = has-read-of store old new given.0 c.args.at c.args.size given.1 same c.read_live.result (c.read_live.ensures.reads given.0 given.1);
      kept =
          keeps-read g.L.DevicesName.devices old new same c.read_live.ensures.rests kept _ c.read_live.result
          (read-cause store old new given.0 c.args.at c.args.size c.read_live.result (c.read_live.ensures.reads given.0 given.1));
    }
