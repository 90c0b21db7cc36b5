use Rattle.std.proofs.Common.{ap, sym, ◌∙◌, arith}
use Rattle.history_seats.specs.Views.{gate_of}
use Rattle.history_seats.specs.Steps.{retired}
use Rattle.history_seats.proofs.WordSteps.{retire_keeps}
use Rattle.history_seats.proofs.Moves.{moves}
use Rattle.history_seats.proofs.steps.keep_joined.Goals as goal

pub load-requires : goal.load-requires
load-requires c =
    let seat = c.args.seat.now in
    let joined = gate_of seat.me.0 in (
      c.requires.table ∙ sym c.table.view_is,
      omega (arith, c.table.invariant.0),
      moves retired (λ n. n) _ seat.id seat.me joined (ap (λ m. m.0) c.requires.gate) (retire_keeps seat.id joined c.requires.whole),
    )
