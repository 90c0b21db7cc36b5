use Rattle.std.proofs.Common.{ap, sym, ◌∙◌, arith}
use Rattle.history_seats.specs.Views.{Sight, PassView, pass_of}
use Rattle.history_seats.proofs.Moves.{cuts_pass}
use Rattle.history_seats.proofs.seats.GateSeat.halve.Goals as goal

pub split_seat-other-requires : goal.split_seat-other-requires
split_seat-other-requires c =
    let seat = c.pass.inside.seat in (
      ap (λ (s : Sight PassView). s.table) c.pass.view_is ∙ c.requires.1 ∙ sym c.table.view_is,
      omega (arith, c.table.invariant.0),
      cuts_pass seat.id seat.me.0 (pass_of seat.me.0) (ap (λ m. m.0) c.pass.invariant.0),
    )
