use Rattle.std.proofs.Common.{length, refl}
use Rattle.htree_file.proofs.Transfers.{padded_read}
use Rattle.htree_file.proofs.device.read_padded.Goals as goal

pub returns-clause-bytes : goal.returns-clause-bytes
returns-clause-bytes g c = λ tells.
    let read = c.in_ok-count.ensures.told tells in
    padded_read (g.F.StoreFile.state c.read_at.new.self).reads c.args.into.now c.read_at.new.into c.clear_from.new.bytes c.args.at c.in_ok-count.count (length c.args.into.now) refl read.0 read.1 c.clear_from.ensures
