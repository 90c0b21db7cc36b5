-- What is known of a port to a card on the heap.
use Rattle.std.specs.Prelude.{box_value}
use Rattle.rpmb_card.specs.Port.{PortState}
use Rattle.rpmb_card.specs.SimPort.{port_state}
use Rattle.script_runner.specs.declared.card_port.CardPort.{CardPort}

-- it is what is known of the port there
abbrev pub card_port_state : CardPort → PortState
card_port_state port = port_state (box_value port.port)
