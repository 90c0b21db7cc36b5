use Rattle.std.proofs.Common.{◌≡◌}
use Rattle.object_calls.specs.Seats.{HasTold}
use Rattle.object_calls.proofs.SeatSplitting.{AreSeatedBelow}
use Rattle.object_calls.proofs.seat_splitting.split_passes.Given as goal

abbrev pub ghost-split_pass : goal.ghost-split_pass
ghost-split_pass g a = (g.L.StoreName.store).mounted

abbrev pub invariant-loop-index : goal.invariant-loop-index
invariant-loop-index g l = record {
  table : l.seat.table ≡ (g.L.StoreName.store).table;
  told : HasTold g.L.StoreName.store l.seat.knows l.index;
  seated : AreSeatedBelow g.L.StoreName.store l.initial.sessions l.index l.sessions;
}
