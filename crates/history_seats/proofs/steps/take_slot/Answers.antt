use Rattle.std.proofs.Common.{◌≡◌, ap, sym, ◌∙◌, arith, subst}
use Rattle.history_seats.specs.Views.{Sight, SlotView, gate_of, slot_of}
use Rattle.history_seats.specs.Changes.{IsOf}
use Rattle.history_seats.proofs.Moves.{takes_slot}
use Rattle.history_seats.proofs.steps.take_slot.Goals as goal

pub join_seat-requires : goal.join_seat-requires
join_seat-requires c =
    let other = c.slot.inside.seat in
    let mine = c.args.seat.now in
    let same : c.in-Some.slot.table ≡ c.args.table.now = subst (IsOf c.args.table.now) c.in-Some.is c.requires.table.1 in (
      c.requires.table.0 ∙ sym c.table.view_is,
      ap (λ (s : Sight SlotView). s.table) c.slot.view_is ∙ same ∙ sym c.table.view_is,
      ap (λ m. m.1) c.slot.invariant.0,
      omega (arith, c.table.invariant.0),
      takes_slot mine.id other.id mine.me.0 other.me.0 (gate_of mine.me.0) (slot_of other.me.0) (ap (λ m. m.0) c.requires.gate) (ap (λ m. m.0) c.slot.invariant.0) c.requires.free,
    )
