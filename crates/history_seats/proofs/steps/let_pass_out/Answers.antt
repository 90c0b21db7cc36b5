use Rattle.std.proofs.Common.{ap, sym, ◌∙◌, arith}
use Rattle.history_seats.specs.Views.{gate_of}
use Rattle.history_seats.proofs.Moves.{lets_pass_out}
use Rattle.history_seats.proofs.steps.let_pass_out.Goals as goal

pub split_seat-seat-requires : goal.split_seat-seat-requires
split_seat-seat-requires c = (
  c.requires.table ∙ sym c.table.view_is,
  omega (arith, c.table.invariant.0),
  lets_pass_out c.args.seat.now.id c.args.seat.now.me.0 (gate_of c.args.seat.now.me.0) c.requires.pass.0 (ap (λ m. m.0) c.requires.gate) c.requires.pass.1,
)
