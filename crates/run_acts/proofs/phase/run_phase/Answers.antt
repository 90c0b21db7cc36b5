use Rattle.std.proofs.Common.{◌≡◌, ◌∙◌, ℕ, List, [], IfNone, Option, map, inr, refl, sym, ap, subst, arith}
use Rattle.std.proofs.lemmas.Result.{err_from_is_err_and}
use Rattle.object_calls.specs.OpeningFiles.{files_of}
use Rattle.object_calls.specs.Opening.{OpeningValue}
use Rattle.object_calls.proofs.Files.{numbered_past}
use Rattle.run_acts.specs.Benches.{HasPassed, KeepsDevices, bench_state, opening_state}
use Rattle.run_acts.specs.MountedDevices.{objects_in}
use Rattle.run_acts.specs.QuotaRefusals.{AreRoomFor, admitted}
use Rattle.run_acts.proofs.Closings.{closed_state}
use Rattle.run_acts.proofs.MemoryPhases.{fed_disarmed}
use Rattle.run_acts.proofs.Ready.{serves_where}
use Rattle.run_acts.specs.PhaseRefusals.{uncalled}
use Rattle.run_acts.proofs.PhaseChains.{files_none}
use Rattle.run_acts.proofs.Starved.{given_up_within, served_opened, starved_within}
use Rattle.run_acts.proofs.NotDrawn.{memory_not_drawn}
use Rattle.run_acts.proofs.phase.run_phase.Goals as goal

-- the quotas are over-committed
pub returns-in-Some-clause-ends : goal.returns-in-Some-clause-ends
returns-in-Some-clause-ends g c =
    let of_file = g.F.StoreFile.state in
    let of_port = g.R.RpmbPort.state in
    let opened : OpeningValue g.row.F.Denot g.row.R.Denot = c.in_ok-opening.opening in
    let mounted = c.in_ok-opening.ensures in
    let old = bench_state of_file of_port c.args.bench in
    let closed : bench_state of_file of_port c.close.result ≡ opening_state of_file of_port opened =
    closed_state of_file of_port opened opened c.close.result refl c.close.ensures.files c.close.ensures.card in
    record {
      opened = opened;
      mounts = mounted.mounts;
      sound = c.mount_with_memory.ensures.sound;
      keeps = subst (KeepsDevices old) (sym closed) mounted.keeps;
      passed = subst (HasPassed old) (sym closed) mounted.passed;
      closed = closed;
      some = c.in-Some.ensures.some;
      sum_is = c.in-Some.ensures.sum c.args.keys.now;
      over = c.in-Some.ensures.over;
    }

pub returns-in-Ok-serve_opened-clause-ends : goal.returns-in-Ok-serve_opened-clause-ends
returns-in-Ok-serve_opened-clause-ends g c =
    let of_file = g.F.StoreFile.state in
    let of_port = g.R.RpmbPort.state in
    let keys = c.args.keys.now in
    let opened : OpeningValue g.row.F.Denot g.row.R.Denot = c.in_ok-opening.opening in
    let mounted = c.in_ok-opening.ensures in
    let served = c.in-Ok-serve_opened.served in
    let closed = served.closed in
    let old : List g.row.F.Denot = c.args.bench.files.items in
    let left : List g.row.F.Denot = closed.bench.files.items in
    let counted = c.as_slice-starved.ensures.value ∙ c.in-Ok.ensures ∙ ap (λ (l : List g.row.F.Denot). map (λ f. (of_file f).starved) l) c.deref.ensures.value in
    let with_memory : (file : ℕ) → (files_of of_file left file).starved ≡ (files_of of_file old file).starved =
    λ file. sym (ap (λ (l : List g.row.F.Denot). (files_of of_file l file).starved) c.as_slice.ensures.value) ∙ c.had_memory.ensures.with_memory old counted c.if-had_memory.true file in (
      objects_in of_file of_port keys opened,
      c.objects-objects.ensures.objects keys,
      record {
        opened = opened;
        mounts = mounted.mounts;
        sound = c.mount_with_memory.ensures.sound;
        none = λ file past. numbered_past of_file opened.spare opened.gate.dir.file opened.files file c.objects-objects.ensures.opening.whole past;
        keeps = mounted.keeps;
        passed = mounted.passed;
        objects = refl;
        room = subst (λ (found : Option ℕ). IfNone found (AreRoomFor c.args.phase.now.quotas.now c.args.phase.now.applications.now (objects_in of_file of_port keys opened))) c.in_default-find_excess.is (c.find_excess.ensures.room keys);
        closed = bench_state of_file of_port closed.bench;
        serves = serves_where of_file of_port (g.E.Entropy.is_reliable c.mount_with_memory.new.entropy) (g.E.Entropy.is_reliable c.args.entropy.now) keys c.args.phase.now.applications.now
            c.args.phase.now.quotas.now c.args.phase.now.arms.now c.args.phase.now.mode c.args.phase.now.calls.now opened (bench_state of_file of_port closed.bench) closed.history.events served.refused.items c.mount_with_memory.ensures.reliable
            c.in-Ok-serve_opened.ensures.serves;
        disarms = c.disarm_bench.ensures.disarms;
        with_memory = fed_disarmed (bench_state of_file of_port c.args.bench) (bench_state of_file of_port closed.bench) (bench_state of_file of_port c.disarm_bench.result) with_memory
            c.disarm_bench.ensures.disarms;
        sound_left = c.disarm_bench.ensures.sound;
        past = λ file beyond. files_none of_file c.disarm_bench.result.files.items file
            (omega (arith, beyond, c.disarm_bench.ensures.whole, c.in-Ok-serve_opened.ensures.whole, c.disarm_bench.result.files.ok.0));
      },
    )

pub returns-in_default-clause-refused : goal.returns-in_default-clause-refused
returns-in_default-clause-refused g c =
    let of_file = g.F.StoreFile.state in
    let of_port = g.R.RpmbPort.state in
    let a = c.args in
    given_up_within of_file of_port a.keys.now a.phase.now.applications.now a.phase.now.quotas.now a.phase.now.arms.now a.phase.now.mode a.phase.now.calls.now (bench_state of_file of_port a.bench) (bench_state of_file of_port c.starved_bench.result.bench)
    c.starved_bench.result.fault _ _
    (inr (record {
      fault_is = c.starved_bench.ensures.fault;
      left = bench_state of_file of_port a.bench;
      leaves = uncalled refl refl;
      disarms = c.starved_bench.ensures.disarms;
    }))

pub returns-in_err-opening-clause-refused : goal.returns-in_err-opening-clause-refused
returns-in_err-opening-clause-refused g c =
    let of_file = g.F.StoreFile.state in
    let of_port = g.R.RpmbPort.state in
    let a = c.args in
    let p = err_from_is_err_and c.from_residual.result c.from_residual.ensures.1 in
    rw (p.1, p.2)
    (given_up_within of_file of_port a.keys.now a.phase.now.applications.now a.phase.now.quotas.now a.phase.now.arms.now a.phase.now.mode a.phase.now.calls.now (bench_state of_file of_port a.bench) _ _ _ _
    (c.in_err-opening.ensures.refused a.phase.now.applications.now a.phase.now.arms.now a.phase.now.mode (admitted [] a.phase.now.calls.now)))

pub returns-in-Ok-2-clause-refused : goal.returns-in-Ok-2-clause-refused
returns-in-Ok-2-clause-refused g c =
    let of_file = g.F.StoreFile.state in
    let of_port = g.R.RpmbPort.state in
    let a = c.args in
    let opened : OpeningValue g.row.F.Denot g.row.R.Denot = c.in_ok-opening.opening in
    let mounted = c.in_ok-opening.ensures in
    let served = c.in-Ok-serve_opened.served in
    let left = bench_state of_file of_port served.closed.bench in
    let halted = c.starved_bench-in-Ok-2.result in
    starved_within of_file of_port a.keys.now a.phase.now.applications.now a.phase.now.quotas.now a.phase.now.arms.now a.phase.now.mode a.phase.now.calls.now (bench_state of_file of_port a.bench) (bench_state of_file of_port halted.bench) halted.fault _ _ opened left
    c.starved_bench-in-Ok-2.ensures.fault mounted.mounts mounted.keeps mounted.undrawn
    (served_opened of_file of_port a.keys.now a.phase.now.applications.now a.phase.now.arms.now a.phase.now.mode a.phase.now.calls.now a.phase.now.quotas.now (g.E.Entropy.is_reliable c.mount_with_memory.new.entropy) opened left served.closed.history.events
    served.refused.items c.in-Ok-serve_opened.ensures.serves)
    c.starved_bench-in-Ok-2.ensures.disarms

pub returns-clause-refused : goal.returns-clause-refused
returns-clause-refused g c =
    let of_file = g.F.StoreFile.state in
    let of_port = g.R.RpmbPort.state in
    let a = c.args in
    let opened : OpeningValue g.row.F.Denot g.row.R.Denot = c.in_ok-opening.opening in
    let mounted = c.in_ok-opening.ensures in
    let halted = c.starved_bench-in-Err.result in
    starved_within of_file of_port a.keys.now a.phase.now.applications.now a.phase.now.quotas.now a.phase.now.arms.now a.phase.now.mode a.phase.now.calls.now (bench_state of_file of_port a.bench) (bench_state of_file of_port halted.bench) halted.fault _ _ opened
    (bench_state of_file of_port c.in-Err.bench) c.starved_bench-in-Err.ensures.fault mounted.mounts mounted.keeps mounted.undrawn c.in-Err.ensures.early c.starved_bench-in-Err.ensures.disarms

pub returns-in_default-clause-drawn : goal.returns-in_default-clause-drawn
returns-in_default-clause-drawn g c = λ reliable. memory_not_drawn c.starved_bench.result.fault c.starved_bench.ensures.fault

pub returns-in_err-opening-clause-drawn : goal.returns-in_err-opening-clause-drawn
returns-in_err-opening-clause-drawn g c = λ reliable.
    let p = err_from_is_err_and c.from_residual.result c.from_residual.ensures.1 in
    rw (p.1, p.2) (c.in_err-opening.ensures.drawn reliable)

pub returns-in-Ok-2-clause-drawn : goal.returns-in-Ok-2-clause-drawn
returns-in-Ok-2-clause-drawn g c = λ reliable. memory_not_drawn c.starved_bench-in-Ok-2.result.fault c.starved_bench-in-Ok-2.ensures.fault

pub returns-clause-drawn : goal.returns-clause-drawn
returns-clause-drawn g c = λ reliable. memory_not_drawn c.starved_bench-in-Err.result.fault c.starved_bench-in-Err.ensures.fault
