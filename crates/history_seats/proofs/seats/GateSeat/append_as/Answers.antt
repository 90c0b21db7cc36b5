use Rattle.std.proofs.Common.{ℕ, List, ap, sym, ◌∙◌, subst}
use Rattle.store_model.specs.declared.event.Event.{Event}
use Rattle.history_seats.specs.Views.{SeatView, gate_of}
use Rattle.history_seats.specs.Changes.{IsNextOf, with_record, pass_renewed}
use Rattle.history_seats.specs.Steps.{passes_renewed}
use Rattle.history_seats.proofs.seats.GateSeat.append_as.Goals as goal

pub add_record-place-requires-clause-event : goal.add_record-place-requires-clause-event
add_record-place-requires-clause-event g c = (
  c.args.pass.knows,
  ap (λ (m : SeatView × List (ℕ × Unit {0})). (gate_of m.0).pass) c.take_pass.ensures.1,
  subst (λ (e : Event). IsNextOf c.args.pass.knows e) (sym c.requires.next.0) c.requires.next.1,
)

pub let_pass_out-pass-requires-clause-pass : goal.let_pass_out-pass-requires-clause-pass
let_pass_out-pass-requires-clause-pass g c =
    let gate = with_record g.N.RecordName.entry (gate_of c.take_pass.new.seat.me.0).gate in (
      pass_renewed gate c.args.pass.knows,
      ap (λ (m : SeatView × List (ℕ × Unit {0})). (gate_of m.0).pass) c.add_record-place.ensures.seat.1
          ∙ ap (passes_renewed gate) (ap (λ (m : SeatView × List (ℕ × Unit {0})). (gate_of m.0).pass) c.take_pass.ensures.1),
      sym c.session-session.ensures,
    )
