use Rattle.std.proofs.Common.{arith}
use Rattle.card_maps.proofs.Faults.{front_size}
use Rattle.card_maps.proofs.entry.CardEntry.size.Goals as goal

pub returns-clause-small : goal.returns-clause-small
returns-clause-small c = omega (arith, front_size c.self.inside.block c.self.invariant, c.size_in.ensures)
