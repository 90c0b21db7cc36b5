use Rattle.object_calls.proofs.DirectoryNamings.{left_or_sealed}
use Rattle.object_calls.proofs.directory_moving.name_directory.Goals as goal

pub returns-in-Lost-clause-card : goal.returns-in-Lost-clause-card
returns-in-Lost-clause-card g c = λ card has counted.
    left_or_sealed (g.R.RpmbPort.state c.write_root.new.host.port) c.write_root.new.host.key card c.args.root.now c.write_root.result (c.write_root.ensures.card card has counted)
