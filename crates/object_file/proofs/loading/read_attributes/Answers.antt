use Rattle.std.proofs.Common.{arith}
use Rattle.object_file.proofs.FirstBlock.{bytes_front, first_read}
use Rattle.object_file.proofs.loading.read_attributes.Goals as goal

pub returns-clause-first : goal.returns-clause-first
returns-clause-first g c =
    first_read c.args.file.now.key c.args.file.now.tree (g.F.StoreFile.state c.args.file.now.file) (g.F.StoreFile.state c.read_first.new.file.file)
    c.read_first.new.page c.in_ok-attributes.attributes.items c.args.entry.now.attributes (omega (arith, c.requires.attributes)) c.in_ok-read_first.ensures.bytes c.in_ok-attributes.ensures

pub returns-clause-bytes : goal.returns-clause-bytes
returns-clause-bytes g c =
    bytes_front c.args.file.now.key c.args.file.now.tree (g.F.StoreFile.state c.args.file.now.file) (g.F.StoreFile.state c.read_first.new.file.file)
    c.read_first.new.page c.in_ok-attributes.attributes.items c.args.entry.now.attributes (omega (arith, c.requires.attributes)) c.in_ok-read_first.ensures.bytes c.in_ok-attributes.ensures
