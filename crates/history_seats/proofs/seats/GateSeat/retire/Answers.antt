use Rattle.std.proofs.Common.{◌≡◌, ℕ, List, ap, ◌∙◌}
use Rattle.history_seats.specs.Views.{SeatView, gate_of}
use Rattle.history_seats.specs.Numbers.{is_in, without}
use Rattle.history_seats.specs.Steps.{files_left}
use Rattle.history_seats.proofs.Numbers.{gone}
use Rattle.history_seats.proofs.seats.GateSeat.retire.Goals as goal

pub returns-clause-gone : goal.returns-clause-gone
returns-clause-gone c =
    let file = c.args.slot.knows.file in
    let files = (gate_of c.take_slot.new.seat.me.0).gate.files in
    let left : (gate_of c.keep_joined.new.seat.me.0).gate.files ≡ without file files =
    ap (λ (m : SeatView × List (ℕ × Unit {0})). (gate_of m.0).gate.files) c.keep_joined.ensures.seat.1
    ∙ ap (files_left files) (ap (λ (m : SeatView × List (ℕ × Unit {0})). (gate_of m.0).slot) c.take_slot.ensures.1) in
    ap (is_in file) left ∙ gone file files c.keep_joined.ensures.agrees.gate.files_distinct
