use Rattle.store_commit.proofs.Rearming.{rearmed_gate}
use Rattle.store_commit.proofs.gate.Gate.stop_after.Goals as goal

pub invariant_of-self : goal.invariant_of-self
invariant_of-self g c =
    let i = c.self.inside in
    let n = c.stop_device.new in
    let e = c.stop_device.ensures in
    rearmed_gate (g.F.StoreFile.state i.dir.file) (g.F.StoreFile.state n.dir.file) i.dir.dir n.dir.dir (g.R.RpmbPort.state i.host.port) (g.R.RpmbPort.state n.host.port)
    i.host.key n.host.key i.counter i.doubt i.index i.holds e.file e.dir e.port e.key c.self.invariant
