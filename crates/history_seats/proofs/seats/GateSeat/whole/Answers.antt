use Rattle.std.proofs.Common.{ap, sym, ◌∙◌, arith}
use Rattle.history_seats.specs.Views.{Sight, PassView, half_of, kept_of}
use Rattle.history_seats.proofs.Moves.{makes_whole}
use Rattle.history_seats.proofs.seats.GateSeat.whole.Goals as goal

pub join_seat-requires : goal.join_seat-requires
join_seat-requires c =
    let one = c.one.inside.seat in
    let other = c.other.inside.seat in (
      ap (λ (s : Sight PassView). s.table) c.one.view_is ∙ c.requires.table.1 ∙ sym c.table.view_is,
      ap (λ (s : Sight PassView). s.table) c.other.view_is ∙ c.requires.table.2 ∙ sym c.table.view_is,
      ap (λ m. m.1) c.other.invariant.0,
      omega (arith, c.table.invariant.0),
      makes_whole one.id other.id one.me.0 other.me.0 (half_of one.me.0) (kept_of other.me.0) (ap (λ m. m.0) c.one.invariant.0) (ap (λ m. m.0) c.other.invariant.0)
          (ap (λ (s : Sight PassView). s.knows.session) c.other.view_is ∙ c.requires.session ∙ sym (ap (λ (s : Sight PassView). s.knows.session) c.one.view_is)),
    )
