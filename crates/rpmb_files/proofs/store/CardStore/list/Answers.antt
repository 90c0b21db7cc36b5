use Rattle.std.proofs.Common.{subst}
use Rattle.rpmb_files.specs.Stores.{ShowsNames, StoreValue, store_state}
use Rattle.rpmb_files.proofs.Mounting.{shows}
use Rattle.rpmb_files.proofs.store.CardStore.list.Goals as goal

pub returns-in-Ok-clause-names : goal.returns-in-Ok-clause-names
returns-in-Ok-clause-names g c =
    subst (λ (s : StoreValue _ _). ShowsNames (store_state g.R.RpmbPort.state g.E.Entropy.faults s)) c.self.view_is
    (shows (g.R.RpmbPort.state c.self.inside.link.host.port) c.self.inside.link.host.key (g.E.Entropy.faults c.self.inside.link.entropy) c.self.inside.link.counter c.self.inside.table c.self.inside.doubt
    (g.met.R.RpmbPort.sound c.self.inside.link.host.port) c.self.invariant)

pub returns-in-Err-clause-names : goal.returns-in-Err-clause-names
returns-in-Err-clause-names g c =
    subst (λ (s : StoreValue _ _). ShowsNames (store_state g.R.RpmbPort.state g.E.Entropy.faults s)) c.self.view_is
    (shows (g.R.RpmbPort.state c.self.inside.link.host.port) c.self.inside.link.host.key (g.E.Entropy.faults c.self.inside.link.entropy) c.self.inside.link.counter c.self.inside.table c.self.inside.doubt
    (g.met.R.RpmbPort.sound c.self.inside.link.host.port) c.self.invariant)
