use Rattle.std.proofs.Common.{◌+◌, ◌%◌, ◌^◌, ap, sym, ◌∙◌, arith}
use Rattle.history_seats.specs.Views.{gate_of}
use Rattle.history_seats.specs.Steps.{appended}
use Rattle.history_seats.proofs.WordSteps.{append_keeps}
use Rattle.history_seats.proofs.Moves.{moves}
use Rattle.history_seats.proofs.steps.add_record.Goals as goal

pub fetch_add-requires : goal.fetch_add-requires
fetch_add-requires g c =
    let seat = c.args.seat.now in
    let joined = gate_of seat.me.0 in
    let entry = g.N.RecordName.entry in (
      c.requires.table ∙ sym c.table.view_is,
      omega (arith, c.table.invariant.0),
      moves (appended entry) (λ n. (n + 1) % 2 ^ 64) _ seat.id seat.me joined (ap (λ m. m.0) c.requires.gate)
          (append_keeps entry seat.id joined c.requires.room c.requires.whole c.requires.tag c.requires.event c.requires.fitting),
    )
