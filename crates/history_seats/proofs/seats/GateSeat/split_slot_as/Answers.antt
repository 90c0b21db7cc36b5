use Rattle.std.proofs.Common.{◌≡◌, ℕ, ap, sym, ◌∙◌, false, arith}
use Rattle.history_seats.specs.Views.{Sight, GateView, gate_of, alone}
use Rattle.history_seats.specs.Numbers.{is_in}
use Rattle.history_seats.proofs.Moves.{splits_slot}
use Rattle.history_seats.proofs.seats.GateSeat.split_slot_as.Goals as goal

pub split_seat-seat-requires : goal.split_seat-seat-requires
split_seat-seat-requires g c =
    let seat = c.self.inside.seat in
    let files = (gate_of seat.me.0).gate.files in
    let new : is_in c.args.file files ≡ false = ap (λ (s : Sight GateView). is_in c.args.file s.knows.files) c.self.view_is ∙ c.requires.new in (
      ap (λ (s : Sight GateView). s.table) c.self.view_is ∙ c.requires.table ∙ sym c.table.view_is,
      omega (arith, c.table.invariant.0),
      splits_slot g.N.SlotName.mounted g.N.SlotName.file g.N.SlotName.generation seat.id seat.me.0 (alone (gate_of seat.me.0).gate) (ap (λ m. m.0) c.self.invariant)
          (ap (λ (n : ℕ). is_in n files) c.requires.name.0 ∙ new),
    )
