use Rattle.std.proofs.Common.{sym}
use Rattle.card_maps.proofs.Faults.{front_size}
use Rattle.card_maps.proofs.form.shape_fault.Goals as goal

pub numbers_fault-requires : goal.numbers_fault-requires
numbers_fault-requires c = front_size c.args.block.now (sym c.in-None.ensures)
