use Rattle.std.proofs.Common.{◌≡◌}
use Rattle.rpmb_files.specs.Devices.{devices}
use Rattle.rpmb_files.proofs.Mounting.{IsReadBelow}
use Rattle.rpmb_files.proofs.mount.read_entries.Given as goal

abbrev pub invariant-loop-b : goal.invariant-loop-b
invariant-loop-b g l =
    (l.link.counter ≡ l.initial.link.counter)
    × (l.link.host.key ≡ l.initial.link.host.key)
    × (g.E.Entropy.is_reliable l.initial.link.entropy → g.E.Entropy.is_reliable l.link.entropy)
    × IsReadBelow l.initial.link.host.key (devices (g.R.RpmbPort.state l.initial.link.host.port) (g.E.Entropy.faults l.initial.link.entropy))
    (devices (g.R.RpmbPort.state l.link.host.port) (g.E.Entropy.faults l.link.entropy)) l.map l.b l.table
