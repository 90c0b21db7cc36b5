use Rattle.std.proofs.Common.{ap, sym, ◌∙◌, arith}
use Rattle.history_seats.specs.Views.{Sight, PassView, gate_of, pass_of}
use Rattle.history_seats.proofs.Moves.{takes_pass}
use Rattle.history_seats.proofs.steps.take_pass.Goals as goal

pub join_seat-requires : goal.join_seat-requires
join_seat-requires c =
    let other = c.pass.inside.seat in
    let mine = c.args.seat.now in (
      c.requires.table.0 ∙ sym c.table.view_is,
      ap (λ (s : Sight PassView). s.table) c.pass.view_is ∙ c.requires.table.1 ∙ sym c.table.view_is,
      ap (λ m. m.1) c.pass.invariant.0,
      omega (arith, c.table.invariant.0),
      takes_pass mine.id other.id mine.me.0 other.me.0 (gate_of mine.me.0) (pass_of other.me.0) (ap (λ m. m.0) c.requires.gate) (ap (λ m. m.0) c.pass.invariant.0) c.requires.free,
    )
