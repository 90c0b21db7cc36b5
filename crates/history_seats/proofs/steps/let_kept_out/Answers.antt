use Rattle.std.proofs.Common.{ap, sym, ◌∙◌, arith}
use Rattle.history_seats.specs.Views.{gate_of}
use Rattle.history_seats.proofs.Moves.{lets_kept_out}
use Rattle.history_seats.proofs.steps.let_kept_out.Goals as goal

pub split_seat-seat-requires : goal.split_seat-seat-requires
split_seat-seat-requires c = (
  c.requires.table ∙ sym c.table.view_is,
  omega (arith, c.table.invariant.0),
  lets_kept_out c.args.seat.now.id c.args.seat.now.me.0 (gate_of c.args.seat.now.me.0) c.requires.kept.0 (ap (λ m. m.0) c.requires.gate) c.requires.kept.1,
)
