use Rattle.std.proofs.Common.{◌∙◌, ℕ, sym, subst, arith}
use Rattle.disk_model.specs.State.{FileState}
use Rattle.object_calls.specs.Opening.{bench_files, entries_in}
use Rattle.object_calls.proofs.Files.{files_sound, numbered_sound}
use Rattle.run_acts.specs.Benches.{bench_state}
use Rattle.run_acts.specs.ListedBenches.{unmounted}
use Rattle.run_acts.specs.ListedObjects.{IsCutOff, IsListed}
use Rattle.run_acts.proofs.ListedBenches.{closed_card, cut_bench, cut_keeps, cut_not_drawn, listed_bench}
use Rattle.run_acts.proofs.PhaseChains.{files_none}
use Rattle.run_acts.proofs.object_list.list_mounted.Goals as goal

pub returns-in-Ok-list_opening-clause-answer : goal.returns-in-Ok-list_opening-clause-answer
returns-in-Ok-list_opening-clause-answer g c =
    let state = g.F.StoreFile.state in
    let port = g.R.RpmbPort.state in
    let o = c.in-Ok.mounted in
    let o1 = c.list_opening.new.opening in
    let listed = listed_bench state port c.args.keys.now (bench_state state port c.args.bench) (bench_state state port c.close-bench.result) o c.in-Ok.ensures.mounts c.in-Ok.ensures.keeps c.in-Ok.ensures.passed
    (numbered_sound state g.met.F.StoreFile.sound o.spare o.gate.dir.file o.files)
    (closed_card port o c.list_opening.new.opening c.close-bench.result.card c.close-bench.ensures.card c.list_opening.ensures.same)
    c.in-Ok-list_opening.lines.items (files_sound state g.met.F.StoreFile.sound c.args.bench.files.items)
    (files_sound state g.met.F.StoreFile.sound c.close-bench.result.files.items)
    (λ file beyond. files_none state c.close-bench.result.files.items file (omega (arith, beyond, c.close-bench.ensures.whole, c.close-bench.result.files.ok.0)))
    (subst (λ (f : ℕ → FileState). IsListed (entries_in o) o.storage_key (bench_files state o) f c.in-Ok-list_opening.lines.items) (sym c.close-bench.ensures.files)
    c.in-Ok-list_opening.ensures.answer) in
    (listed.0, listed.1 ∙ c.objects-objects.ensures.objects c.args.keys.now, listed.2)

pub returns-in-Err-list_opening-clause-answer : goal.returns-in-Err-list_opening-clause-answer
returns-in-Err-list_opening-clause-answer g c =
    let state = g.F.StoreFile.state in
    let port = g.R.RpmbPort.state in
    let o = c.in-Ok.mounted in
    let closed = c.close-bench-in-Err-list_opening in
    cut_bench state port c.args.keys.now (bench_state state port c.args.bench) (bench_state state port closed.result) o c.in-Ok.ensures.mounts c.in-Ok.ensures.keeps c.in-Ok.ensures.passed
    (numbered_sound state g.met.F.StoreFile.sound o.spare o.gate.dir.file o.files)
    (closed_card port o c.list_opening.new.opening closed.result.card closed.ensures.card c.list_opening.ensures.same)
    (g.E.Entropy.faults c.args.entropy.now) (g.E.Entropy.faults c.mount_bench.new.entropy) c.in-Err-list_opening.fault c.in-Ok.ensures.undrawn
    (subst (λ (f : ℕ → FileState). IsCutOff (entries_in o) o.storage_key (bench_files state o) f c.in-Err-list_opening.fault) (sym closed.ensures.files)
    c.in-Err-list_opening.ensures.answer)

pub returns-in-Err-list_opening-clause-drawn : goal.returns-in-Err-list_opening-clause-drawn
returns-in-Err-list_opening-clause-drawn g c = λ reliable.
    let state = g.F.StoreFile.state in
    let port = g.R.RpmbPort.state in
    let o = c.in-Ok.mounted in
    let closed = c.close-bench-in-Err-list_opening in
    cut_not_drawn state port c.args.keys.now (bench_state state port c.args.bench) (bench_state state port closed.result) o c.in-Ok.ensures.mounts c.in-Ok.ensures.keeps c.in-Ok.ensures.passed
    (numbered_sound state g.met.F.StoreFile.sound o.spare o.gate.dir.file o.files)
    (closed_card port o c.list_opening.new.opening closed.result.card closed.ensures.card c.list_opening.ensures.same)
    c.in-Err-list_opening.fault
    (subst (λ (f : ℕ → FileState). IsCutOff (entries_in o) o.storage_key (bench_files state o) f c.in-Err-list_opening.fault) (sym closed.ensures.files)
    c.in-Err-list_opening.ensures.answer)

pub returns-in-Err-list_opening-clause-keeps : goal.returns-in-Err-list_opening-clause-keeps
returns-in-Err-list_opening-clause-keeps g c =
    let state = g.F.StoreFile.state in
    let port = g.R.RpmbPort.state in
    let o = c.in-Ok.mounted in
    let closed = c.close-bench-in-Err-list_opening in
    cut_keeps state port c.args.keys.now (bench_state state port c.args.bench) (bench_state state port closed.result) o c.in-Ok.ensures.mounts c.in-Ok.ensures.keeps c.in-Ok.ensures.passed
    (numbered_sound state g.met.F.StoreFile.sound o.spare o.gate.dir.file o.files)
    (closed_card port o c.list_opening.new.opening closed.result.card closed.ensures.card c.list_opening.ensures.same)
    c.in-Err-list_opening.fault
    (subst (λ (f : ℕ → FileState). IsCutOff (entries_in o) o.storage_key (bench_files state o) f c.in-Err-list_opening.fault) (sym closed.ensures.files)
    c.in-Err-list_opening.ensures.answer)

pub returns-in-Err-clause-answer : goal.returns-in-Err-clause-answer
returns-in-Err-clause-answer g c = unmounted c.in-Err.ensures.refused
