-- The object was described as of the version that the slot gives.
use Rattle.std.proofs.Common.{[], subst, sym}
use Rattle.serial_calls.specs.SlotValues.{SlotValue}
use Rattle.serial_calls.specs.Fills.{GivesEntry}
use Rattle.shared_calls.proofs.DescribedObjects.{has-described}
use Rattle.shared_calls.specs.Kept.{KeepsSlot}
use Rattle.shared_calls.proofs.KeptAnswers.{info-cause, keeps-read}
use Rattle.shared_calls.proofs.info_call.describe_slot.Goals as goal

pub returns : goal.returns
returns g c =
    let found = c.args.found.now in
    let given = subst (λ (s : SlotValue). GivesEntry s found.held.entry) (sym c.slot.view_is) c.requires.loads.given in
    let kept = subst (λ (s : SlotValue). KeepsSlot g.L.DevicesName.devices s []) (sym c.slot.view_is) c.requires.kept in
    record {
      described =
          has-described g.L.StoreName.store c.slot.inside.slot c.describe_object.new.slot found.held.entry found.handle given c.describe_object.ensures.same c.describe_object.result
          c.describe_object.ensures.describes;
      kept =
          keeps-read g.L.DevicesName.devices c.slot.inside.slot c.describe_object.new.slot c.describe_object.ensures.same c.describe_object.ensures.rests kept _ c.describe_object.result
          (info-cause g.L.StoreName.store c.slot.inside.slot c.describe_object.new.slot given.version found.handle c.describe_object.result (c.describe_object.ensures.describes given.version given.gives));
    }
