use Rattle.std.proofs.Common.{ap, ◌∙◌, length}
use Rattle.history_seats.specs.Views.{Sight, GateView, gate_of, alone}
use Rattle.history_seats.proofs.Moves.{closes}
use Rattle.history_seats.proofs.seats.GateSeat.close.Goals as goal

pub returns : goal.returns
returns c =
    let seat = c.self.inside.seat in
    closes seat.id seat.me.0 (alone (gate_of seat.me.0).gate) _ _ c.word-length.result (ap (λ m. m.0) c.self.invariant) c.close_with-closed.ensures.values.2 c.word-length.ensures
    ∙ ap (λ (s : Sight GateView). length s.knows.all) c.self.view_is
