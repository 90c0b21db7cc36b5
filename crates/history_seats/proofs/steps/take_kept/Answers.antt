use Rattle.std.proofs.Common.{ap, sym, ◌∙◌, arith}
use Rattle.history_seats.specs.Views.{Sight, PassView, gate_of, kept_of}
use Rattle.history_seats.proofs.Moves.{takes_kept}
use Rattle.history_seats.proofs.steps.take_kept.Goals as goal

pub join_seat-requires : goal.join_seat-requires
join_seat-requires c =
    let other = c.kept.inside.seat in
    let mine = c.args.seat.now in (
      c.requires.table.0 ∙ sym c.table.view_is,
      ap (λ (s : Sight PassView). s.table) c.kept.view_is ∙ c.requires.table.1 ∙ sym c.table.view_is,
      ap (λ m. m.1) c.kept.invariant.0,
      omega (arith, c.table.invariant.0),
      takes_kept mine.id other.id mine.me.0 other.me.0 (gate_of mine.me.0) (kept_of other.me.0) (ap (λ m. m.0) c.requires.gate) (ap (λ m. m.0) c.kept.invariant.0) c.requires.free,
    )
