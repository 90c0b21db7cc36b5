use Rattle.std.proofs.Common.{◌≡◌, ◌∙◌, ◌++◌, ℕ, List, drop, length, take, sym, ap, subst}
use Rattle.store_model.specs.Record.{events_of}
use Rattle.history_seats.specs.Records.{HistoryRecord}
use Rattle.core_laws.specs.Stores.{Store}
use Rattle.quota_store.specs.CallerSessions.{CallerSession}
use Rattle.object_calls.specs.OpeningSessions.{AreSeated, DrawAlike}
use Rattle.object_calls.proofs.Files.{refilled}
use Rattle.run_acts.specs.Reliable.{AreFresh, AreReliable}
use Rattle.run_acts.specs.ServedSteps.{AreCalls}
use Rattle.object_calls.specs.Services.{ServiceValue}
use Rattle.run_acts.specs.Benches.{bench_state, opening_state}
use Rattle.run_acts.specs.Closing.{ClosesStore, unserved}
use Rattle.std.proofs.lemmas.Result.{IfOk-weaker}
use Rattle.run_acts.proofs.Closings.{begins_devices, closed_state, closes_where}
use Rattle.run_acts.proofs.DrawnAlike.{fresh_alike, reliable_alike}
use Rattle.run_acts.proofs.serial_phase.serve_calls.Goals as goal

pub make_and_close-requires-clause-begins : goal.make_and_close-requires-clause-begins
make_and_close-requires-clause-begins g c = ap (λ (l : List HistoryRecord). events_of l) c.in-Ok.ensures.served.view.empty

pub make_and_close-requires-clause-sessions : goal.make_and_close-requires-clause-sessions
make_and_close-requires-clause-sessions g c =
    let sessions = c.args.sessions in
    let new : List (CallerSession g.row.E.Denot) = c.serve.new.sessions in
    let long : length sessions.items ≡ sessions.len = sym sessions.ok.0 in
    let many : length new ≡ sessions.len = c.serve.auto.sessions ∙ c.deref_mut.ensures.len in
    subst (λ (l : List (CallerSession g.row.E.Denot)). AreSeated g.L.StoreName.store l) (sym (refilled sessions.len sessions.items new long many)) c.in-Ok.ensures.seated

pub make_and_close-requires-clause-calls : goal.make_and_close-requires-clause-calls
make_and_close-requires-clause-calls g c =
    let sessions = c.args.sessions in
    let new : List (CallerSession g.row.E.Denot) = c.serve.new.sessions in
    let long : length sessions.items ≡ sessions.len = sym sessions.ok.0 in
    let many : length new ≡ sessions.len = c.serve.auto.sessions ∙ c.deref_mut.ensures.len in
    let applications : length new ≡ length c.args.opening.applications =
    c.in-Ok.ensures.seated.many ∙ ap (λ (s : Store). length s.mounted.applications) c.requires.store.is in
    subst (λ (n : ℕ). AreCalls n c.args.calls.now)
    (sym (ap (λ (l : List (CallerSession g.row.E.Denot)). length l) (refilled sessions.len sessions.items new long many) ∙ applications)) c.requires.calls

pub make_and_close-requires-clause-fresh : goal.make_and_close-requires-clause-fresh
make_and_close-requires-clause-fresh g c =
    let sessions = c.args.sessions in
    let new : List (CallerSession g.row.E.Denot) = c.serve.new.sessions in
    let long : length sessions.items ≡ sessions.len = sym sessions.ok.0 in
    let many : length new ≡ sessions.len = c.serve.auto.sessions ∙ c.deref_mut.ensures.len in
    let same : c.deref_mut.result.now ≡ sessions.items = c.deref_mut.ensures.value in
    subst (λ (l : List (CallerSession g.row.E.Denot)). AreFresh g.E.Entropy.faults l) (sym (refilled sessions.len sessions.items new long many))
    (fresh_alike g.E.Entropy.faults sessions.items new (many ∙ sym long) (subst (λ (l : List (CallerSession g.row.E.Denot)). DrawAlike l new) same c.in-Ok.ensures.draw) c.requires.fresh)

pub returns-in-Ok-clause-closed : goal.returns-in-Ok-clause-closed
returns-in-Ok-clause-closed g c = λ mode.
    let of_file = g.F.StoreFile.state in
    let of_port = g.R.RpmbPort.state in
    let store = g.L.StoreName.store in
    let is_reliable = g.E.Entropy.is_reliable in
    let sessions = c.args.sessions in
    let new : List (CallerSession g.row.E.Denot) = c.serve.new.sessions in
    let long : length sessions.items ≡ sessions.len = sym sessions.ok.0 in
    let many : length new ≡ sessions.len = c.serve.auto.sessions ∙ c.deref_mut.ensures.len in
    let same : c.deref_mut.result.now ≡ sessions.items = c.deref_mut.ensures.value in
    let service : ServiceValue g.row.F.Denot g.row.R.Denot = c.in-Ok.service in
    let before = opening_state of_file of_port c.args.opening in
    let after : List (CallerSession g.row.E.Denot) = take sessions.len (new ++ drop (length new) sessions.items) in
    IfOk-weaker c.make_and_close.result
    (λ x. ClosesStore (AreReliable is_reliable after) store before mode c.args.calls.now (bench_state of_file of_port x.bench) x.history.events)
    (λ x. ClosesStore (AreReliable is_reliable sessions.items) store before mode c.args.calls.now (bench_state of_file of_port x.bench) x.history.events)
    (λ x closes. closes_where (AreReliable is_reliable after) (AreReliable is_reliable sessions.items) store before mode c.args.calls.now (bench_state of_file of_port x.bench) x.history.events
    (λ reliable. subst (λ (l : List (CallerSession g.row.E.Denot)). AreReliable is_reliable l) (sym (refilled sessions.len sessions.items new long many))
    (reliable_alike is_reliable sessions.items new (many ∙ sym long) (subst (λ (l : List (CallerSession g.row.E.Denot)). DrawAlike l new) same c.in-Ok.ensures.draw) reliable))
    closes)
    (c.make_and_close.ensures.closed mode before (begins_devices of_file of_port store c.args.opening service c.in-Ok.ensures.served))

pub returns-in-Ok-clause-early : goal.returns-in-Ok-clause-early
returns-in-Ok-clause-early g c =
    let of_file = g.F.StoreFile.state in
    let of_port = g.R.RpmbPort.state in
    c.make_and_close.ensures.early (opening_state of_file of_port c.args.opening) (begins_devices of_file of_port g.L.StoreName.store c.args.opening c.in-Ok.service c.in-Ok.ensures.served)

pub returns-in-Err-clause-early : goal.returns-in-Err-clause-early
returns-in-Err-clause-early g c =
    unserved (closed_state g.F.StoreFile.state g.R.RpmbPort.state c.args.opening c.in-Err.opening c.close.result c.in-Err.ensures.refused c.close.ensures.files c.close.ensures.card)
