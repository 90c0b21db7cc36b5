-- What is said of devices where memory ran out.
use Rattle.std.specs.Prelude.{◌≡◌}
use Rattle.call_steps.specs.Devices.{Devices, faults_of}
use Rattle.tee_types.specs.declared.reply.Device.{Device}

-- no device counted a fault
abbrev pub NoneFailed : (old new : Devices) → Type 0
NoneFailed old new = (device : Device) → faults_of new device ≡ faults_of old device
