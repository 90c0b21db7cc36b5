use Rattle.std.proofs.Common.{ℕ, List, ap, sym, ◌∙◌}
use Rattle.history_seats.specs.Views.{SeatView, gate_of}
use Rattle.history_seats.specs.Changes.{pass_renewed}
use Rattle.history_seats.specs.Steps.{passes_renewed}
use Rattle.history_seats.proofs.seats.GateSeat.show_kept.Goals as goal

pub let_kept_out-requires-clause-kept : goal.let_kept_out-requires-clause-kept
let_kept_out-requires-clause-kept c =
    let gate = (gate_of c.take_kept.new.seat.me.0).gate in (
      pass_renewed gate c.args.kept.knows,
      ap (λ (m : SeatView × List (ℕ × Unit {0})). (gate_of m.0).kept) c.look.ensures.seat.1
          ∙ ap (passes_renewed gate) (ap (λ (m : SeatView × List (ℕ × Unit {0})). (gate_of m.0).kept) c.take_kept.ensures.1),
      sym c.session-session.ensures,
    )
