-- The object was read as of the version that the slot gives.
use Rattle.std.proofs.Common.{[], subst, sym}
use Rattle.serial_calls.specs.SlotValues.{SlotValue}
use Rattle.serial_calls.specs.Fills.{GivesEntry}
use Rattle.shared_calls.proofs.ReadObjects.{has-read}
use Rattle.shared_calls.specs.Kept.{KeepsSlot}
use Rattle.shared_calls.proofs.KeptAnswers.{keeps-read, read-cause}
use Rattle.shared_calls.proofs.read_call.read_slot.Goals as goal

pub returns : goal.returns
returns g c =
    let found = c.args.found.now in
    let given = subst (λ (s : SlotValue). GivesEntry s found.held.entry) (sym c.slot.view_is) c.requires.loads.given in
    let kept = subst (λ (s : SlotValue). KeepsSlot g.L.DevicesName.devices s []) (sym c.slot.view_is) c.requires.kept in
    record {
      read =
          has-read g.L.StoreName.store c.slot.inside.slot c.read_object.new.slot found.held.entry found.handle.position c.args.size given c.read_object.ensures.same c.read_object.result
          c.read_object.ensures.reads;
      kept =
          keeps-read g.L.DevicesName.devices c.slot.inside.slot c.read_object.new.slot c.read_object.ensures.same c.read_object.ensures.rests kept _ c.read_object.result
          (read-cause g.L.StoreName.store c.slot.inside.slot c.read_object.new.slot given.version found.handle.position c.args.size c.read_object.result (c.read_object.ensures.reads given.version given.gives));
    }
