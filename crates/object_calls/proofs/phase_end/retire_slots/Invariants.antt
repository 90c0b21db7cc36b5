use Rattle.std.proofs.Common.{◌≡◌, vec_len}
use Rattle.object_calls.proofs.Placings.{AreLastPlaced}
use Rattle.object_calls.proofs.phase_end.retire_slots.Given as goal

abbrev pub invariant-loop-slot : goal.invariant-loop-slot
invariant-loop-slot g l = record {
  journal : l.journal ≡ record l.initial.journal { knows = record l.initial.journal.knows { files = l.journal.knows.files } };
  placed : AreLastPlaced g.L.StoreName.store g.F.StoreFile.state l.fn.slots.items l.initial.journal.knows l.journal.knows l.left.items l.places.items;
}

abbrev pub decreases-loop-slot : goal.decreases-loop-slot
decreases-loop-slot g l = vec_len l.left
