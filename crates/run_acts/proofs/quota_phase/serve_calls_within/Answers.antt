use Rattle.std.proofs.Common.{◌≡◌, ◌∙◌, ◌++◌, ℕ, List, [], drop, length, replicate, take, refl, sym, ap, subst}
use Rattle.store_model.specs.Record.{events_of}
use Rattle.history_seats.specs.Records.{HistoryRecord}
use Rattle.core_laws.specs.Stores.{Store}
use Rattle.quota_store.specs.CallerSessions.{CallerSession}
use Rattle.object_calls.specs.OpeningSessions.{AreSeated, DrawAlike, HaveNoEvents}
use Rattle.object_calls.proofs.Files.{refilled}
use Rattle.run_acts.specs.Reliable.{AreFresh, AreReliable}
use Rattle.run_acts.specs.ServedSteps.{AreCalls}
use Rattle.object_calls.specs.Services.{ServiceValue}
use Rattle.run_acts.specs.Benches.{bench_state, opening_state}
use Rattle.script_text.specs.declared.script.Mode.TheVariants.{Serial}
use Rattle.run_acts.specs.Closing.{ClosesEarly, unserved}
use Rattle.run_acts.specs.QuotaClosing.{ClosesWithin}
use Rattle.run_acts.proofs.Admissions.{holds-all}
use Rattle.std.proofs.lemmas.Result.{IfOk-weaker}
use Rattle.run_acts.proofs.Closings.{begins_devices, closed_state, closes_within_where}
use Rattle.run_acts.proofs.DrawnAlike.{fresh_alike, reliable_alike}
use Rattle.run_acts.proofs.quota_phase.serve_calls_within.Goals as goal

pub make_and_close_within-requires-clause-begins : goal.make_and_close_within-requires-clause-begins
make_and_close_within-requires-clause-begins g c = ap (λ (l : List HistoryRecord). events_of l) c.in-Ok-serve.ensures.served.view.empty

pub make_and_close_within-requires-clause-sessions : goal.make_and_close_within-requires-clause-sessions
make_and_close_within-requires-clause-sessions g c =
    let sessions = c.args.sessions in
    let new : List (CallerSession g.row.E.Denot) = c.serve.new.sessions in
    let long : length sessions.items ≡ sessions.len = sym sessions.ok.0 in
    let many : length new ≡ sessions.len = c.serve.auto.sessions ∙ c.deref_mut.ensures.len in
    subst (λ (l : List (CallerSession g.row.E.Denot)). AreSeated g.L.StoreName.store l) (sym (refilled sessions.len sessions.items new long many)) c.in-Ok-serve.ensures.seated

pub make_and_close_within-requires-clause-calls : goal.make_and_close_within-requires-clause-calls
make_and_close_within-requires-clause-calls g c =
    let sessions = c.args.sessions in
    let new : List (CallerSession g.row.E.Denot) = c.serve.new.sessions in
    let long : length sessions.items ≡ sessions.len = sym sessions.ok.0 in
    let many : length new ≡ sessions.len = c.serve.auto.sessions ∙ c.deref_mut.ensures.len in
    let applications : length new ≡ length c.args.opening.applications =
    c.in-Ok-serve.ensures.seated.many ∙ ap (λ (s : Store). length s.mounted.applications) c.requires.store.is in
    subst (λ (n : ℕ). AreCalls n c.args.calls.now)
    (sym (ap (λ (l : List (CallerSession g.row.E.Denot)). length l) (refilled sessions.len sessions.items new long many) ∙ applications)) c.requires.calls

pub make_and_close_within-requires-clause-fresh : goal.make_and_close_within-requires-clause-fresh
make_and_close_within-requires-clause-fresh g c =
    let sessions = c.args.sessions in
    let new : List (CallerSession g.row.E.Denot) = c.serve.new.sessions in
    let long : length sessions.items ≡ sessions.len = sym sessions.ok.0 in
    let many : length new ≡ sessions.len = c.serve.auto.sessions ∙ c.deref_mut.ensures.len in
    let same : c.deref_mut.result.now ≡ sessions.items = c.deref_mut.ensures.value in
    subst (λ (l : List (CallerSession g.row.E.Denot)). AreFresh g.E.Entropy.faults l) (sym (refilled sessions.len sessions.items new long many))
    (fresh_alike g.E.Entropy.faults sessions.items new (many ∙ sym long) (subst (λ (l : List (CallerSession g.row.E.Denot)). DrawAlike l new) same c.in-Ok-serve.ensures.draw) c.requires.fresh)

-- the sessions once they have their seats
pub make_and_close_within-requires-clause-unmade : goal.make_and_close_within-requires-clause-unmade
make_and_close_within-requires-clause-unmade g c =
    let sessions = c.args.sessions in
    let new : List (CallerSession g.row.E.Denot) = c.serve.new.sessions in
    let long : length sessions.items ≡ sessions.len = sym sessions.ok.0 in
    let many : length new ≡ sessions.len = c.serve.auto.sessions ∙ c.deref_mut.ensures.len in
    subst (λ (l : List (CallerSession g.row.E.Denot)). HaveNoEvents l) (sym (refilled sessions.len sessions.items new long many)) c.in-Ok-serve.ensures.unmade

pub make_and_close_within-requires-clause-none : goal.make_and_close_within-requires-clause-none
make_and_close_within-requires-clause-none g c =
    let sessions = c.args.sessions in
    let new : List (CallerSession g.row.E.Denot) = c.serve.new.sessions in
    let long : length sessions.items ≡ sessions.len = sym sessions.ok.0 in
    let many : length new ≡ sessions.len = c.serve.auto.sessions ∙ c.deref_mut.ensures.len in
    let length_is : length (take sessions.len (new ++ drop (length new) sessions.items)) ≡ sessions.len = ap (λ (l : List (CallerSession g.row.E.Denot)). length l) (refilled sessions.len sessions.items new long many) ∙ many in
    c.in-Ok.ensures ∙ ap (λ (n : ℕ). replicate n []) (c.len.ensures ∙ sym length_is)

pub returns-in-Ok-serve-clause-closed : goal.returns-in-Ok-serve-clause-closed
returns-in-Ok-serve-clause-closed g c =
    let of_file = g.F.StoreFile.state in
    let of_port = g.R.RpmbPort.state in
    let store = g.L.StoreName.store in
    let is_reliable = g.E.Entropy.is_reliable in
    let quotas = c.args.quotas.now in
    let sessions = c.args.sessions in
    let new : List (CallerSession g.row.E.Denot) = c.serve.new.sessions in
    let long : length sessions.items ≡ sessions.len = sym sessions.ok.0 in
    let many : length new ≡ sessions.len = c.serve.auto.sessions ∙ c.deref_mut.ensures.len in
    let same : c.deref_mut.result.now ≡ sessions.items = c.deref_mut.ensures.value in
    let service : ServiceValue g.row.F.Denot g.row.R.Denot = c.in-Ok-serve.service in
    let before = opening_state of_file of_port c.args.opening in
    let after : List (CallerSession g.row.E.Denot) = take sessions.len (new ++ drop (length new) sessions.items) in
    IfOk-weaker c.make_and_close_within.result
    (λ x. ClosesWithin (AreReliable is_reliable after) store quotas before Serial c.args.calls.now (bench_state of_file of_port x.closed.bench) x.closed.history.events x.refused.items)
    (λ x. ClosesWithin (AreReliable is_reliable sessions.items) store quotas before Serial c.args.calls.now (bench_state of_file of_port x.closed.bench) x.closed.history.events x.refused.items)
    (λ x closes. closes_within_where (AreReliable is_reliable after) (AreReliable is_reliable sessions.items) store quotas before Serial c.args.calls.now (bench_state of_file of_port x.closed.bench)
    x.closed.history.events x.refused.items
    (λ reliable. subst (λ (l : List (CallerSession g.row.E.Denot)). AreReliable is_reliable l) (sym (refilled sessions.len sessions.items new long many))
    (reliable_alike is_reliable sessions.items new (many ∙ sym long) (subst (λ (l : List (CallerSession g.row.E.Denot)). DrawAlike l new) same c.in-Ok-serve.ensures.draw) reliable))
    closes)
    (c.make_and_close_within.ensures.closed before (begins_devices of_file of_port store c.args.opening service c.in-Ok-serve.ensures.served))

pub returns-in-Ok-serve-clause-early : goal.returns-in-Ok-serve-clause-early
returns-in-Ok-serve-clause-early g c =
    let of_file = g.F.StoreFile.state in
    let of_port = g.R.RpmbPort.state in
    c.make_and_close_within.ensures.early (opening_state of_file of_port c.args.opening) (begins_devices of_file of_port g.L.StoreName.store c.args.opening c.in-Ok-serve.service c.in-Ok-serve.ensures.served)

pub returns-in-Err-clause-early : goal.returns-in-Err-clause-early
returns-in-Err-clause-early g c =
    let of_file = g.F.StoreFile.state in
    let of_port = g.R.RpmbPort.state in
    holds-all c.args.quotas.now c.args.calls.now (λ steps. ClosesEarly g.L.StoreName.store (opening_state of_file of_port c.args.opening) Serial steps (bench_state of_file of_port c.close-in-Err.result))
    (unserved (closed_state of_file of_port c.args.opening c.in-Err.opening c.close-in-Err.result c.in-Err.ensures.refused c.close-in-Err.ensures.files c.close-in-Err.ensures.card))

pub returns-in_default-clause-early : goal.returns-in_default-clause-early
returns-in_default-clause-early g c =
    let of_file = g.F.StoreFile.state in
    let of_port = g.R.RpmbPort.state in
    holds-all c.args.quotas.now c.args.calls.now (λ steps. ClosesEarly g.L.StoreName.store (opening_state of_file of_port c.args.opening) Serial steps (bench_state of_file of_port c.close.result))
    (unserved (closed_state of_file of_port c.args.opening c.args.opening c.close.result refl c.close.ensures.files c.close.ensures.card))
