-- The object was loaded as of the version that the slot gives.
use Rattle.std.proofs.Common.{[], subst, sym}
use Rattle.serial_calls.specs.SlotValues.{SlotValue}
use Rattle.serial_calls.specs.Fills.{GivesEntry}
use Rattle.shared_calls.proofs.OpenedObjects.{has-loaded}
use Rattle.shared_calls.specs.Kept.{KeepsSlot}
use Rattle.shared_calls.proofs.KeptAnswers.{keeps-loaded}
use Rattle.shared_calls.proofs.open_call.load_slot.Goals as goal

pub returns : goal.returns
returns g c =
    let e = c.args.held.now.entry in
    let given = subst (λ (s : SlotValue). GivesEntry s e) (sym c.slot.view_is) c.requires.loads.given in
    let kept = subst (λ (s : SlotValue). KeepsSlot g.L.DevicesName.devices s []) (sym c.slot.view_is) c.requires.kept in
    record {
      loaded =
          has-loaded g.L.StoreName.store c.slot.inside.slot c.load_or_reply.new.slot e given c.load_or_reply.ensures.same c.load_or_reply.result c.load_or_reply.ensures.ready;
      kept =
          keeps-loaded g.L.DevicesName.devices c.slot.inside.slot c.load_or_reply.new.slot c.load_or_reply.ensures.same c.load_or_reply.ensures.rests kept _ g.L.StoreName.store given.version
          c.load_or_reply.result (c.load_or_reply.ensures.ready given.version given.gives);
    }
