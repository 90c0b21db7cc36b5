use Rattle.object_calls.proofs.Files.{files_sound}
use Rattle.run_acts.proofs.first_opening.form_bench.Goals as goal

pub returns-in-Ok-clause-answer : goal.returns-in-Ok-clause-answer
returns-in-Ok-clause-answer g c = record {
  formed = c.in-Ok.ensures.made;
  empty = c.in-Ok.ensures.mounts;
  written = c.in-Ok.ensures.written;
  goes_on = c.in-Ok.ensures.goes_on;
  others = c.in-Ok.ensures.others;
  dir_passed = c.in-Ok.ensures.passed.file;
  card_passed = c.in-Ok.ensures.passed.card;
  sound = files_sound g.F.StoreFile.state g.met.F.StoreFile.sound c.in-Ok.bench.files.items;
}

pub returns-in-Err-clause-answer : goal.returns-in-Err-clause-answer
returns-in-Err-clause-answer g c = record {
  refused = c.in-Err.ensures.refused;
  heard = c.in-Err.ensures.heard;
  counted = c.in-Err.ensures.counts;
  left = c.in-Err.ensures.left;
  goes_on = c.in-Err.ensures.goes_on_err;
  others = c.in-Err.ensures.others_err;
}
