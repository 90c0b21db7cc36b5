use Rattle.std.proofs.Common.{◌≡◌, map, take}
use Rattle.rpmb_card.specs.Card.{CardState}
use Rattle.rpmb_host.specs.Honest.{HasCard}
use Rattle.card_maps.specs.CardMaps.{blocks_of, joined}
use Rattle.rpmb_files.specs.Devices.{GoesOn, devices}
use Rattle.rpmb_files.proofs.read.read_object.Given as goal

abbrev pub invariant-loop-number : goal.invariant-loop-number
invariant-loop-number g l =
    (l.link.counter ≡ l.initial.link.counter)
    × (l.link.host.key ≡ l.initial.link.host.key)
    × ((g.R.RpmbPort.state l.link.host.port).card ≡ (g.R.RpmbPort.state l.initial.link.host.port).card)
    × GoesOn l.initial.link.host.key (devices (g.R.RpmbPort.state l.initial.link.host.port) (g.E.Entropy.faults l.initial.link.entropy))
    (devices (g.R.RpmbPort.state l.link.host.port) (g.E.Entropy.faults l.link.entropy))
    × (g.E.Entropy.is_reliable l.initial.link.entropy → g.E.Entropy.is_reliable l.link.entropy)
    × ((card : CardState) → HasCard (g.R.RpmbPort.state l.initial.link.host.port) l.initial.link.host.key card
    → l.bytes.items ≡ take l.size (joined (map (blocks_of card) (take l.number-index l.number-items))))
