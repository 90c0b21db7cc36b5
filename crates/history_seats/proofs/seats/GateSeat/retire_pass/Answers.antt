use Rattle.std.proofs.Common.{◌≡◌, ℕ, List, ap, ◌∙◌}
use Rattle.history_seats.specs.Views.{SeatView, gate_of}
use Rattle.history_seats.specs.Numbers.{is_in, without}
use Rattle.history_seats.specs.Steps.{sessions_left}
use Rattle.history_seats.proofs.Numbers.{gone}
use Rattle.history_seats.proofs.seats.GateSeat.retire_pass.Goals as goal

pub returns-clause-gone : goal.returns-clause-gone
returns-clause-gone c =
    let session = c.args.pass.knows.session in
    let sessions = (gate_of c.take_pass.new.seat.me.0).gate.sessions in
    let left : (gate_of c.keep_joined.new.seat.me.0).gate.sessions ≡ without session sessions =
    ap (λ (m : SeatView × List (ℕ × Unit {0})). (gate_of m.0).gate.sessions) c.keep_joined.ensures.seat.1
    ∙ ap (sessions_left sessions) (ap (λ (m : SeatView × List (ℕ × Unit {0})). (gate_of m.0).pass) c.take_pass.ensures.1) in
    ap (is_in session) left ∙ gone session sessions c.keep_joined.ensures.agrees.gate.sessions_distinct
