use Rattle.rpmb_files.proofs.Mounting.{is_store, mounted}
use Rattle.rpmb_files.proofs.store.CardStore.mount.Goals as goal

pub invariant_of-result : goal.invariant_of-result
invariant_of-result g c =
    is_store c.args.host.key c.read_table.new.link.host.key (g.R.RpmbPort.state c.args.host.port) (g.R.RpmbPort.state c.read_table.new.link.host.port) c.in-Ok.ensures.key c.in-Ok.ensures.card
    c.read_table.new.link.counter c.in-Ok.table c.in-Ok.ensures.read

pub returns-in-Ok-clause-mounts : goal.returns-in-Ok-clause-mounts
returns-in-Ok-clause-mounts g c =
    mounted c.args.host.key c.read_table.new.link.host.key (g.R.RpmbPort.state c.args.host.port) (g.R.RpmbPort.state c.read_table.new.link.host.port) c.in-Ok.ensures.key c.in-Ok.ensures.card
    c.read_table.new.link.counter c.in-Ok.table c.in-Ok.ensures.read (g.E.Entropy.faults c.args.entropy) (g.E.Entropy.faults c.read_table.new.link.entropy)
    (g.met.R.RpmbPort.sound c.args.host.port)
