-- What the slot gave it gives still, and its counts are those that it saw.
use Rattle.std.proofs.Common.{subst, sym}
use Rattle.history_seats.specs.Records.{Version}
use Rattle.serial_calls.specs.GuardedReads.{GivesVersion}
use Rattle.serial_calls.specs.SlotCatchUp.{StillGives}
use Rattle.serial_calls.specs.SlotValues.{SlotValue}
use Rattle.shared_calls.specs.Kept.{KeepsSlot}
use Rattle.shared_calls.proofs.KeptSlots.{keeps-shown, own-file}
use Rattle.shared_calls.proofs.slot_catch_up.catch_up_held.Goals as goal

pub returns-clause-still : goal.returns-clause-still
returns-clause-still g c =
    subst (λ (x : SlotValue). (v : Version) → GivesVersion x v → StillGives x c.catch_up_entry.new.slot v) c.slot.view_is c.catch_up_entry.ensures.still

pub returns-clause-kept : goal.returns-clause-kept
returns-clause-kept g c = λ then kept.
    let old : SlotValue = c.slot.inside.slot in
    let new : SlotValue = c.catch_up_entry.new.slot in
    let met = c.catch_up_entry.ensures in
    keeps-shown g.L.DevicesName.devices old new met.number met.file c.gate.inside.gate.journal.knows then met.agreed (own-file g.L.StoreName.store old c.slot.invariant) met.at.1.sees
    (subst (λ (s : SlotValue). KeepsSlot g.L.DevicesName.devices s then) (sym c.slot.view_is) kept)
