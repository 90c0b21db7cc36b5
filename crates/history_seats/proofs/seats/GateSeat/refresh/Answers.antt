use Rattle.std.proofs.Common.{ℕ, List, ap, sym, ◌∙◌}
use Rattle.history_seats.specs.Views.{SeatView, gate_of}
use Rattle.history_seats.specs.Changes.{pass_renewed}
use Rattle.history_seats.specs.Steps.{passes_renewed}
use Rattle.history_seats.proofs.seats.GateSeat.refresh.Goals as goal

pub let_pass_out-pass-requires-clause-pass : goal.let_pass_out-pass-requires-clause-pass
let_pass_out-pass-requires-clause-pass c =
    let gate = (gate_of c.take_pass.new.seat.me.0).gate in (
      pass_renewed gate c.args.pass.knows,
      ap (λ (m : SeatView × List (ℕ × Unit {0})). (gate_of m.0).pass) c.look.ensures.seat.1
          ∙ ap (passes_renewed gate) (ap (λ (m : SeatView × List (ℕ × Unit {0})). (gate_of m.0).pass) c.take_pass.ensures.1),
      sym c.session-session.ensures,
    )
