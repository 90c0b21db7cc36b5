-- A port to a simulated card, as what is known of a port.
use Rattle.std.specs.Prelude.{Some, true, refl}
use Rattle.rpmb_card.specs.Arms.{is_unarmed}
use Rattle.rpmb_card.specs.Port.{PortState, Sound}
use Rattle.rpmb_card.specs.declared.sim_port.SimPort.{SimPort}

-- it tells everything, and is calm where nothing is armed
abbrev pub port_state : SimPort → PortState
port_state port = record {
  faults = port.faults;
  starved = 0;
  card = Some port.card;
  heard = port.heard;
  calm = is_unarmed port.arms;
  tells_arms = true;
  arms = port.arms;
}

-- what holds of every port holds of a port to a simulated card
pub port_sound : (port : SimPort) → Sound (port_state port)
port_sound port = record {
  card = port.card_sound;
  faults = port.faults_fit;
  starved = refl;
  heard = port.heard_few;
  calm = λ tells unarmed. unarmed;
}
