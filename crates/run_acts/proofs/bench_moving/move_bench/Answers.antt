use Rattle.object_calls.proofs.Files.{files_sound}
use Rattle.run_acts.proofs.bench_moving.move_bench.Goals as goal

pub returns-in-Ok-clause-answer : goal.returns-in-Ok-clause-answer
returns-in-Ok-clause-answer g c = record {
  migrates = c.in-Ok.ensures.migrates;
  current = c.in-Ok.ensures.current;
  moves = c.in-Ok.ensures.moves;
  writes = c.in-Ok.ensures.writes;
  few = c.in-Ok.ensures.few;
  passed = c.in-Ok.ensures.passed;
  counted = c.in-Ok.ensures.counted;
  goes_on = c.in-Ok.ensures.goes_on;
  sound = files_sound g.F.StoreFile.state g.met.F.StoreFile.sound c.args.bench.files.items;
}

pub returns-in-Err-clause-answer : goal.returns-in-Err-clause-answer
returns-in-Err-clause-answer g c = record {
  migrates = c.in-Err.ensures.migrates_err;
  refused = c.in-Err.ensures.refused;
  short = c.in-Err.ensures.short;
  goes_on = c.in-Err.ensures.goes_on_err;
  sound = files_sound g.F.StoreFile.state g.met.F.StoreFile.sound c.args.bench.files.items;
  sound_left = files_sound g.F.StoreFile.state g.met.F.StoreFile.sound c.in-Err.halted.bench.files.items;
}
