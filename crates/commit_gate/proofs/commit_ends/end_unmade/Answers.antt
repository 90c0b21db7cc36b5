-- The session is as it was.
use Rattle.commit_gate.proofs.commit_ends.end_unmade.Goals as goal

pub returns-clause-appended : goal.returns-clause-appended
returns-clause-appended g c =
    let ends = c.append_call.ensures in
    record {
      place = ends.place;
      knows = ends.knows;
      kept = ends.kept;
      seat = ends.slot;
      session = ends.session;
      agreed = ends.agreed;
      whole = ends.whole;
      extends = ends.extends;
    }
