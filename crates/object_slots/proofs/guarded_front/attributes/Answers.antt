use Rattle.std.proofs.Common.{◌≡◌, refl}
use Rattle.object_slots.proofs.ToldFronts.{attributes_shown, if_live, live_committed}
use Rattle.object_slots.proofs.guarded_front.attributes.Goals as goal

pub attributes-requires : goal.attributes-requires
attributes-requires g c = live_committed c.args.slot.now.holds c.requires.live

pub returns-clause-attributes : goal.returns-clause-attributes
returns-clause-attributes g c = if_live c.args.slot.now.holds (λ o. c.attributes.result.now ≡ o.attributes) c.attributes.ensures.attributes

pub returns-clause-version : goal.returns-clause-version
returns-clause-version g c = λ v given.
    attributes_shown g.L.StoreName.store c.args.slot.now c.requires.guarded v given c.attributes.result.now c.attributes.ensures.few c.args.slot.now.holds refl c.requires.live c.attributes.ensures.attributes
