use Rattle.std.proofs.Common.{refl}
use Rattle.object_slots.proofs.ToldFronts.{live_committed, size_live, size_shown}
use Rattle.object_slots.proofs.guarded_front.size.Goals as goal

pub size-requires : goal.size-requires
size-requires g c = live_committed c.args.slot.now.holds c.requires.live

pub returns-clause-size : goal.returns-clause-size
returns-clause-size g c = size_live c.size.result c.args.slot.now.holds c.size.ensures.size

pub returns-clause-version : goal.returns-clause-version
returns-clause-version g c = λ v given.
    size_shown g.L.StoreName.store c.args.slot.now c.requires.guarded v given c.size.result c.args.slot.now.holds refl c.requires.live c.size.ensures.size
