use Rattle.std.proofs.Common.{◌≡◌, ◌∙◌, List, drop, length, take, sym, ap, subst, take-append-drop}
use Rattle.script_text.specs.declared.script.Step.{Step}
use Rattle.quota_store.specs.CallerSessions.{CallerSession}
use Rattle.object_calls.specs.OpeningSessions.{AreCallers}
use Rattle.object_calls.proofs.Files.{refilled}
use Rattle.run_acts.specs.Reliable.{AreFresh, AreReliable}
use Rattle.run_acts.specs.ServedSteps.{AreCalls}
use Rattle.run_acts.specs.Benches.{bench_state}
use Rattle.run_acts.specs.Closing.{ClosesStore}
use Rattle.run_acts.proofs.Closings.{closes_early, closes_store, ends_devices}
use Rattle.run_acts.proofs.serial_phase.make_and_close.Goals as goal

pub make_calls-made-requires-clause-calls : goal.make_calls-made-requires-clause-calls
make_calls-made-requires-clause-calls g c =
    subst (λ (l : List (CallerSession g.row.E.Denot)). AreCalls (length l) c.args.calls.now) (sym c.deref_mut.ensures.value) c.requires.calls

pub finish-closed-requires : goal.finish-closed-requires
finish-closed-requires g c =
    let sessions = c.args.sessions in
    let new : List (CallerSession g.row.E.Denot) = c.make_calls-made.new.sessions in
    let long : length sessions.items ≡ sessions.len = sym sessions.ok.0 in
    let many : length new ≡ sessions.len = c.make_calls-made.auto.sessions ∙ c.deref_mut.ensures.len in
    subst (λ (l : List (CallerSession g.row.E.Denot)). AreCallers g.L.StoreName.store l) (sym (refilled sessions.len sessions.items new long many)) c.make_calls-made.ensures.sessions.each

pub returns-in-Ok-clause-closed : goal.returns-in-Ok-clause-closed
returns-in-Ok-clause-closed g c = λ mode before has.
    let of_file = g.F.StoreFile.state in
    let of_port = g.R.RpmbPort.state in
    let store = g.L.StoreName.store in
    let was : List (CallerSession g.row.E.Denot) = c.deref_mut.result.now in
    let same : was ≡ c.args.sessions.items = c.deref_mut.ensures.value in
    let made = c.make_calls-made in
    let closed = c.finish-closed in
    subst
    (λ (l : List (CallerSession g.row.E.Denot)). ClosesStore (AreReliable g.E.Entropy.is_reliable l) store before mode c.args.calls.now (bench_state of_file of_port closed.result.bench) closed.result.history.events)
    same
    (closes_store of_file of_port g.E.Entropy.faults g.E.Entropy.is_reliable store c.args.service made.new.service before (bench_state of_file of_port closed.result.bench) was made.new.sessions
    c.args.calls.now has (ends_devices of_file of_port made.new.service closed.result.bench.files.items closed.result.bench.card closed.ensures.gives) c.in-Ok.ensures.made mode closed.result.doubt
    closed.result.history.events (ap (λ (l : List (CallerSession g.row.E.Denot)). length l) same ∙ c.requires.sessions.many)
    (subst (λ (l : List (CallerSession g.row.E.Denot)). AreFresh g.E.Entropy.faults l) (sym same) c.requires.fresh) made.ensures.reliable c.requires.begins c.in-Ok.ensures.serves
    closed.ensures.events closed.ensures.leaves)

pub returns-in-Err-clause-early : goal.returns-in-Err-clause-early
returns-in-Err-clause-early g c = λ before has.
    let of_file = g.F.StoreFile.state in
    let of_port = g.R.RpmbPort.state in
    let was : List (CallerSession g.row.E.Denot) = c.deref_mut.result.now in
    let made = c.make_calls-made in
    let closed = c.finish-closed in
    let front = c.in-Err.ensures.stopped in
    let calls : List Step = c.args.calls.now in
    closes_early of_file of_port g.E.Entropy.faults g.E.Entropy.is_reliable g.L.StoreName.store c.args.service made.new.service before (bench_state of_file of_port closed.result.bench) was made.new.sessions
    (take front.0 calls) has (ends_devices of_file of_port made.new.service closed.result.bench.files.items closed.result.bench.card closed.ensures.gives) front.2 calls (drop front.0 calls) closed.result.doubt
    c.requires.begins (sym (take-append-drop front.0 calls)) closed.ensures.leaves
