use Rattle.kept_store.proofs.Taking.{not_found, taken_at_end, waited, written_stays}
use Rattle.kept_store.proofs.taking_over.take_over.Goals as goal

pub returns-then-counter-gt0-clause-takes : goal.returns-then-counter-gt0-clause-takes
returns-then-counter-gt0-clause-takes g c =
    written_stays (g.R.RpmbPort.state c.args.host.now.port) (g.R.RpmbPort.state c.read_card.new.host.port) c.args.host.now.key
    (g.G.StoreFile.state c.args.exported.now) c.in-Ok.field-0.counter c.in-Ok.field-0.block c.in-Ok.ensures.told c.in-Ok.ensures.stays c.if-counter-gt0.true

pub returns-else-is_blank-clause-takes : goal.returns-else-is_blank-clause-takes
returns-else-is_blank-clause-takes g c =
    taken_at_end (g.R.RpmbPort.state c.args.host.now.port) (g.R.RpmbPort.state c.read_card.new.host.port) (g.R.RpmbPort.state c.take_block.new.host.port)
    c.read_card.new.host.key c.args.host.now.key (g.G.StoreFile.state c.args.exported.now) (g.G.StoreFile.state c.read_block.new.file)
    (g.G.StoreFile.state c.take_block.new.exported) c.in-Ok.field-0.counter c.in-Ok.field-0.block
    c.in-Ok-read_block.block c.in-Ok.ensures.told c.in-Ok.ensures.stays c.in-Ok.ensures.key c.if-counter-gt0.false c.in-Ok-read_block.ensures.rests
    c.in-Ok-read_block.ensures.block (not_found _ c.is_blank.result c.if-is_blank.false c.is_blank.ensures.1) c.take_block.ensures.goes_on
    c.take_block.result c.take_block.ensures.writes c.take_block.ensures.emptied

pub returns-else-is_blank-clause-alone : goal.returns-else-is_blank-clause-alone
returns-else-is_blank-clause-alone g c =
    waited (g.R.RpmbPort.state c.args.host.now.port) (g.R.RpmbPort.state c.read_card.new.host.port) (g.R.RpmbPort.state c.take_block.new.host.port)
    c.read_card.new.host.key c.args.host.now.key (g.G.StoreFile.state c.args.exported.now) (g.G.StoreFile.state c.read_block.new.file)
    (g.G.StoreFile.state c.take_block.new.exported) c.in-Ok.field-0.counter c.in-Ok.field-0.block
    c.in-Ok-read_block.block c.in-Ok.ensures.told c.in-Ok.ensures.stays c.in-Ok.ensures.key c.if-counter-gt0.false c.in-Ok-read_block.ensures.rests
    c.in-Ok-read_block.ensures.block (not_found _ c.is_blank.result c.if-is_blank.false c.is_blank.ensures.1) c.take_block.ensures.goes_on
