use Rattle.std.proofs.Common.{sym, subst}
use Rattle.disk_model.specs.State.{FileState}
use Rattle.htree_file.specs.Answers.{FilePassed}
use Rattle.tee_types.specs.Limits.{directory_file}
use Rattle.store_commit.specs.Mounts.{LeavesDevices}
use Rattle.object_calls.proofs.Files.{directory_here, files_sound}
use Rattle.run_acts.specs.Benches.{bench_state, opening_state}
use Rattle.run_acts.proofs.MountedBenches.{each_file, mounted_keeps, refused_keeps, stops_mounting}
use Rattle.run_acts.proofs.mounting.mount_bench.Goals as goal

pub returns-in-Ok-clause-mounts : goal.returns-in-Ok-clause-mounts
returns-in-Ok-clause-mounts g c = record {
  gate = c.in-Ok.ensures.gate;
  files = c.in-Ok.ensures.files;
  keyed = c.in-Ok.ensures.keyed;
  current = c.in-Ok.ensures.current;
  mounted = c.in-Ok.ensures.mounted;
  opens = c.in-Ok.ensures.opens;
  calm = c.in-Ok.ensures.calm;
}

pub returns-in-Ok-clause-keeps : goal.returns-in-Ok-clause-keeps
returns-in-Ok-clause-keeps g c =
    let state = g.F.StoreFile.state in
    let o = c.in-Ok.opening in
    let old = bench_state state g.R.RpmbPort.state c.args.bench in
    let new = opening_state state g.R.RpmbPort.state o in
    mounted_keeps old new
    (subst (λ (s : FileState). LeavesDevices (old.files directory_file) s old.card new.card) (sym (directory_here state o.spare o.gate.dir.file o.files)) c.in-Ok.ensures.gate.devices)
    c.in-Ok.ensures.files.each

pub returns-in-Ok-clause-passed : goal.returns-in-Ok-clause-passed
returns-in-Ok-clause-passed g c =
    let old = bench_state g.F.StoreFile.state g.R.RpmbPort.state c.args.bench in
    let new = opening_state g.F.StoreFile.state g.R.RpmbPort.state c.in-Ok.opening in
    record {
      files = each_file (λ file. FilePassed (old.files file) (new.files file)) c.in-Ok.ensures.dir_passed c.in-Ok.ensures.files.passed;
      card = c.in-Ok.ensures.card_passed;
    }

pub returns-in-Err-clause-refused : goal.returns-in-Err-clause-refused
returns-in-Err-clause-refused g c = record {
  refused = stops_mounting g.F.StoreFile.state c.args.keys.now c.args.bench.files.items c.in-Err.halted.bench.files.items (g.R.RpmbPort.state c.args.bench.card) (g.R.RpmbPort.state c.in-Err.halted.bench.card)
      (g.E.Entropy.faults c.args.entropy.now) (g.E.Entropy.faults c.mount.new.entropy) c.in-Err.halted.fault c.in-Err.ensures.refused;
  only = c.in-Err.ensures.only;
  told = c.in-Err.ensures.told;
  sound = files_sound g.F.StoreFile.state g.met.F.StoreFile.sound c.args.bench.files.items;
  heard = c.in-Err.ensures.heard;
  counted = c.in-Err.ensures.counts;
  leaves = c.in-Err.ensures.leaves;
  calm = c.in-Err.ensures.calm_err;
}

pub returns-in-Err-clause-keeps_err : goal.returns-in-Err-clause-keeps_err
returns-in-Err-clause-keeps_err g c =
    refused_keeps c.args.keys.now (bench_state g.F.StoreFile.state g.R.RpmbPort.state c.args.bench) (bench_state g.F.StoreFile.state g.R.RpmbPort.state c.in-Err.halted.bench)
    (g.E.Entropy.faults c.args.entropy.now) (g.E.Entropy.faults c.mount.new.entropy) c.in-Err.halted.fault
    (stops_mounting g.F.StoreFile.state c.args.keys.now c.args.bench.files.items c.in-Err.halted.bench.files.items (g.R.RpmbPort.state c.args.bench.card) (g.R.RpmbPort.state c.in-Err.halted.bench.card)
    (g.E.Entropy.faults c.args.entropy.now) (g.E.Entropy.faults c.mount.new.entropy) c.in-Err.halted.fault c.in-Err.ensures.refused)
    c.in-Err.ensures.leaves

pub returns-in-Ok-clause-sound : goal.returns-in-Ok-clause-sound
returns-in-Ok-clause-sound g c = files_sound g.F.StoreFile.state g.met.F.StoreFile.sound c.args.bench.files.items

pub returns-in-Err-clause-sound : goal.returns-in-Err-clause-sound
returns-in-Err-clause-sound g c = files_sound g.F.StoreFile.state g.met.F.StoreFile.sound c.args.bench.files.items
