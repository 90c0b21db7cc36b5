use Rattle.std.proofs.Common.{◌+◌, ◌%◌, ◌^◌, ap, sym, ◌∙◌, arith, subst}
use Rattle.history_seats.specs.Records.{HistoryRecord}
use Rattle.history_seats.specs.Views.{gate_of}
use Rattle.history_seats.specs.Steps.{landing_appended}
use Rattle.history_seats.proofs.WordSteps.{Keeps, landing_keeps}
use Rattle.history_seats.proofs.Moves.{moves}
use Rattle.history_seats.proofs.steps.add_landing.Goals as goal

pub fetch_add-requires : goal.fetch_add-requires
fetch_add-requires g c =
    let seat = c.args.seat.now in
    let joined = gate_of seat.me.0 in (
      c.requires.table ∙ sym c.table.view_is,
      omega (arith, c.table.invariant.0),
      moves (landing_appended g.N.RecordName.entry) (λ n. (n + 1) % 2 ^ 64) _ seat.id seat.me joined (ap (λ m. m.0) c.requires.gate)
          (subst (λ (r : HistoryRecord). Keeps (landing_appended r) (λ n. (n + 1) % 2 ^ 64) seat.id joined) (sym c.requires.name)
          (landing_keeps c.args.commit seat.id joined c.requires.room c.requires.alone.0 c.requires.alone.1 c.requires.alone.2 c.requires.doubt)),
    )
