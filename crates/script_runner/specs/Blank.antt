-- The simulator's devices as they are made.
use Rattle.std.specs.Prelude.{[], ◌∷◌, replicate}
use Rattle.hmac_keys.specs.declared.Keys.{Keys}
use Rattle.hmac_keys.specs.KeyTable.{rpmb_key}
use Rattle.rpmb_card.specs.Card.{CardState, blank, programmed}

-- the simulator's keys: the HUK is 16 bytes from 0 on, and the chip's number is zero
abbrev pub simulator_keys : Keys
simulator_keys = record { huk = 0 ∷ 1 ∷ 2 ∷ 3 ∷ 4 ∷ 5 ∷ 6 ∷ 7 ∷ 8 ∷ 9 ∷ 10 ∷ 11 ∷ 12 ∷ 13 ∷ 14 ∷ 15 ∷ []; chip = replicate 32 0 }

-- a card of which no block was written, with its key
abbrev pub keyed_card : CardState
keyed_card = programmed blank (rpmb_key simulator_keys.huk)
