-- What names the devices of a store, where nothing picks them.
use Rattle.std.specs.Prelude.{[], None, false}
use Rattle.disk_model.specs.State.{no_file}
use Rattle.rpmb_card.specs.Arms.{no_arms}
use Rattle.rpmb_card.specs.Port.{PortState}
use Rattle.serial_calls.specs.Devices.{Devices}

-- a port behind which there is no card
abbrev pub no_port : PortState
no_port = record { faults = 0; starved = 0; card = None; heard = []; calm = false; tells_arms = false; arms = no_arms }

abbrev pub no_devices : Devices
no_devices = record { dir = no_file; file = λ number. no_file; card = no_port; draws = 0 }
