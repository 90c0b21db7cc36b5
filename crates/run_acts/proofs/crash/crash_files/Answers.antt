use Rattle.std.proofs.Common.{◌≡◌, ◌∙◌, ◌≤◌, ℕ, List, ◌++◌, drop, length, refl, sym, subst, take}
use Rattle.tee_types.specs.Limits.{file_count}
use Rattle.object_calls.specs.OpeningFiles.{files_of}
use Rattle.object_calls.proofs.Files.{refilled}
use Rattle.object_calls.proofs.Rearming.{on_err}
use Rattle.run_acts.specs.Benches.{BenchState, bench_state}
use Rattle.run_acts.specs.Crashes.{CrashesBelow, CrashesInPart}
use Rattle.run_acts.proofs.crash.crash_files.Goals as goal

pub returns-clause-in_part : goal.returns-clause-in_part
returns-clause-in_part g c =
    let state = g.F.StoreFile.state in
    let image = g.F.FileRig.crash_image in
    let seed = c.args.seed in
    let bench = c.args.bench.now in
    let was : List g.row.F.Denot = c.deref_mut.result.now in
    let new : List g.row.F.Denot = c.crash_all.new.files in
    let long : length bench.files.items ≡ bench.files.len = sym bench.files.ok.0 in
    let many : length new ≡ bench.files.len = c.crash_all.auto.files ∙ c.deref_mut.ensures.len in
    let left : List g.row.F.Denot = take bench.files.len (new ++ drop (length new) bench.files.items) in
    let behind : BenchState = record { files = files_of state left; card = g.R.RpmbPort.state bench.card } in
    on_err c.crash_all.result ((count : ℕ) × (count ≤ file_count) × CrashesBelow image seed count (files_of state was) (files_of state new))
    (CrashesInPart image seed (bench_state state g.R.RpmbPort.state bench) behind)
    (λ some. record {
      count = some.0;
      within = some.1;
      files = subst (λ (l : List g.row.F.Denot). CrashesBelow image seed some.0 (files_of state l) (files_of state left)) c.deref_mut.ensures.value
          (subst (λ (l : List g.row.F.Denot). CrashesBelow image seed some.0 (files_of state was) (files_of state l)) (sym (refilled bench.files.len bench.files.items new long many)) some.2);
      card = refl;
    })
    c.crash_all.ensures.some
