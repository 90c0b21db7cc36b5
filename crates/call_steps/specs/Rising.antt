-- A store while it serves a call: the gate, the slots of the objects' files, and the caller's session.
use Rattle.std.specs.Prelude.{List, ℕ}
use Rattle.commit_gate.specs.CallerSessions.{CallerSession}
use Rattle.disk_model.specs.State.{FileState}
use Rattle.commit_gate.specs.GuardedGates.{GuardedGateValue}
use Rattle.object_slots.specs.SlotValues.{SlotValue}
use Rattle.rpmb_card.specs.Port.{PortState}
use Rattle.call_steps.specs.Devices.{Devices, devices_of}

pub record Serving (F R E : Type 0) : Type 0 where
  pub gate : GuardedGateValue F R
  pub slots : List SlotValue
  pub session : CallerSession E

-- its devices
abbrev pub devices_in : {F R E : Type 0} → (F → FileState) → (R → PortState) → (draws : E → ℕ) → Serving F R E → Devices
devices_in of_file of_port draws s = devices_of of_file of_port s.gate.gate s.slots (draws s.session.entropy)
