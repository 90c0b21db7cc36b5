use Rattle.std.proofs.Common.{◌≡◌, ◌∙◌, ◌++◌, ℕ, List, ap, drop, length, refl, sym, subst, take}
use Rattle.tee_types.specs.Limits.{last_file, old_directory_file}
use Rattle.core_laws.specs.Stores.{Store}
use Rattle.quota_store.specs.CallerSessions.{CallerSession}
use Rattle.quota_store.specs.Devices.{Devices}
use Rattle.object_calls.specs.OpeningFiles.{files_of}
use Rattle.object_calls.specs.OpeningSessions.{AreSeated, DrawAlike, HaveNoEvents}
use Rattle.object_calls.proofs.Files.{directory_here, refilled, spare_here}
use Rattle.quota_store.specs.Kept.{KeepsGate}
use Rattle.run_acts.specs.Sharing.{AreKept, IsBenchOf}
use Rattle.run_acts.proofs.Sharings.{first_gate_kept, first_slots_kept}
use Rattle.run_acts.specs.Reliable.{AreFresh, AreReliable}
use Rattle.run_acts.specs.ServedSteps.{AreCalls}
use Rattle.run_acts.proofs.DrawnAlike.{fresh_alike, reliable_alike}
use Rattle.run_acts.specs.SharedClosing.{ClosesShared}
use Rattle.std.proofs.lemmas.Result.{IfOk-weaker}
use Rattle.run_acts.specs.Benches.{opening_state}
use Rattle.run_acts.specs.Closing.{unserved}
use Rattle.run_acts.proofs.Closings.{closed_state}
use Rattle.run_acts.proofs.ThreadClosings.{closes_where}
use Rattle.run_acts.proofs.threads_phase.serve_shared.Goals as goal

pub share_and_close-requires-clause-gate : goal.share_and_close-requires-clause-gate
share_and_close-requires-clause-gate g c κs within =
    let of_file = g.F.StoreFile.state in
    let of_port = g.R.RpmbPort.state in
    subst (λ (before : Devices). KeepsGate of_file of_port g.L.StoreName.store before c.in-Ok-serve.service.gate) (sym c.requires.devices)
    (first_gate_kept of_file of_port g.L.StoreName.store c.args.opening c.in-Ok-serve.service c.in-Ok-serve.ensures.served)

pub share_and_close-requires-clause-slots : goal.share_and_close-requires-clause-slots
share_and_close-requires-clause-slots g c κs within =
    subst (λ (before : Devices). AreKept before last_file c.in-Ok-serve.service.slots) (sym c.requires.devices)
    (first_slots_kept g.F.StoreFile.state g.R.RpmbPort.state g.L.StoreName.store c.args.opening c.in-Ok-serve.service c.in-Ok-serve.ensures.served)

pub share_and_close-requires-clause-spare : goal.share_and_close-requires-clause-spare
share_and_close-requires-clause-spare g c κs within =
    let of_file = g.F.StoreFile.state in
    let o = c.args.opening in
    ap of_file c.in-Ok-serve.ensures.served.spare ∙ sym (spare_here of_file o.spare o.gate.dir.file o.files)
    ∙ ap (λ (d : Devices). d.file old_directory_file) (sym c.requires.devices)

pub share_and_close-requires-clause-sessions : goal.share_and_close-requires-clause-sessions
share_and_close-requires-clause-sessions g c κs within =
    let sessions = c.args.sessions in
    let new : List (CallerSession g.row.E.Denot) = c.serve.new.sessions in
    let long : length sessions.items ≡ sessions.len = sym sessions.ok.0 in
    let many : length new ≡ sessions.len = c.serve.auto.sessions ∙ c.deref_mut.ensures.len in
    subst (λ (l : List (CallerSession g.row.E.Denot)). AreSeated g.L.StoreName.store l) (sym (refilled sessions.len sessions.items new long many)) c.in-Ok-serve.ensures.seated

pub share_and_close-requires-clause-unmade : goal.share_and_close-requires-clause-unmade
share_and_close-requires-clause-unmade g c κs within =
    let sessions = c.args.sessions in
    let new : List (CallerSession g.row.E.Denot) = c.serve.new.sessions in
    let long : length sessions.items ≡ sessions.len = sym sessions.ok.0 in
    let many : length new ≡ sessions.len = c.serve.auto.sessions ∙ c.deref_mut.ensures.len in
    subst (λ (l : List (CallerSession g.row.E.Denot)). HaveNoEvents l) (sym (refilled sessions.len sessions.items new long many)) c.in-Ok-serve.ensures.unmade

pub share_and_close-requires-clause-calls : goal.share_and_close-requires-clause-calls
share_and_close-requires-clause-calls g c κs within =
    let sessions = c.args.sessions in
    let new : List (CallerSession g.row.E.Denot) = c.serve.new.sessions in
    let long : length sessions.items ≡ sessions.len = sym sessions.ok.0 in
    let many : length new ≡ sessions.len = c.serve.auto.sessions ∙ c.deref_mut.ensures.len in
    let applications : length new ≡ length c.args.opening.applications =
    c.in-Ok-serve.ensures.seated.many ∙ ap (λ (s : Store). length s.mounted.applications) c.requires.store.is in
    subst (λ (n : ℕ). AreCalls n c.args.calls.now)
    (sym (ap (λ (l : List (CallerSession g.row.E.Denot)). length l) (refilled sessions.len sessions.items new long many) ∙ applications)) c.requires.calls

pub share_and_close-requires-clause-fresh : goal.share_and_close-requires-clause-fresh
share_and_close-requires-clause-fresh g c κs within =
    let sessions = c.args.sessions in
    let new : List (CallerSession g.row.E.Denot) = c.serve.new.sessions in
    let long : length sessions.items ≡ sessions.len = sym sessions.ok.0 in
    let many : length new ≡ sessions.len = c.serve.auto.sessions ∙ c.deref_mut.ensures.len in
    let same : c.deref_mut.result.now ≡ sessions.items = c.deref_mut.ensures.value in
    subst (λ (l : List (CallerSession g.row.E.Denot)). AreFresh g.E.Entropy.faults l) (sym (refilled sessions.len sessions.items new long many))
    (fresh_alike g.E.Entropy.faults sessions.items new (many ∙ sym long) (subst (λ (l : List (CallerSession g.row.E.Denot)). DrawAlike l new) same c.in-Ok-serve.ensures.draw) c.requires.fresh)

pub returns-in-Ok-serve-clause-closed : goal.returns-in-Ok-serve-clause-closed
returns-in-Ok-serve-clause-closed g c =
    let of_file = g.F.StoreFile.state in
    let of_port = g.R.RpmbPort.state in
    let store = g.L.StoreName.store in
    let before = g.L.DevicesName.devices in
    let is_reliable = g.E.Entropy.is_reliable in
    let calls = c.args.calls.now in
    let sessions = c.args.sessions in
    let new : List (CallerSession g.row.E.Denot) = c.serve.new.sessions in
    let long : length sessions.items ≡ sessions.len = sym sessions.ok.0 in
    let many : length new ≡ sessions.len = c.serve.auto.sessions ∙ c.deref_mut.ensures.len in
    let same : c.deref_mut.result.now ≡ sessions.items = c.deref_mut.ensures.value in
    let after : List (CallerSession g.row.E.Denot) = take sessions.len (new ++ drop (length new) sessions.items) in
    IfOk-weaker c.share_and_close.result
    (λ x. ClosesShared (AreReliable is_reliable after) store before calls (files_of of_file x.bench.files.items) (of_port x.bench.card) x.history.events)
    (λ x. ClosesShared (AreReliable is_reliable sessions.items) store before calls (files_of of_file x.bench.files.items) (of_port x.bench.card) x.history.events)
    (λ x closes. closes_where (AreReliable is_reliable after) (AreReliable is_reliable sessions.items) store before calls (files_of of_file x.bench.files.items) (of_port x.bench.card) x.history.events
    (λ reliable. subst (λ (l : List (CallerSession g.row.E.Denot)). AreReliable is_reliable l) (sym (refilled sessions.len sessions.items new long many))
    (reliable_alike is_reliable sessions.items new (many ∙ sym long) (subst (λ (l : List (CallerSession g.row.E.Denot)). DrawAlike l new) same c.in-Ok-serve.ensures.draw) reliable))
    closes)
    c.share_and_close.ensures.closed

pub returns-in_default-clause-early : goal.returns-in_default-clause-early
returns-in_default-clause-early g c =
    unserved (closed_state g.F.StoreFile.state g.R.RpmbPort.state c.args.opening c.args.opening c.close.result refl c.close.ensures.files c.close.ensures.card)

pub returns-in-Ok-serve-clause-early : goal.returns-in-Ok-serve-clause-early
returns-in-Ok-serve-clause-early g c =
    let of_file = g.F.StoreFile.state in
    let of_port = g.R.RpmbPort.state in
    let before = opening_state of_file of_port c.args.opening in
    c.share_and_close.ensures.early before
    (subst (λ (d : Devices). IsBenchOf d before) (sym c.requires.devices)
    (record { dir = directory_here of_file c.args.opening.spare c.args.opening.gate.dir.file c.args.opening.files; each = λ file other. refl; card = refl }))

pub returns-in-Err-clause-early : goal.returns-in-Err-clause-early
returns-in-Err-clause-early g c =
    unserved (closed_state g.F.StoreFile.state g.R.RpmbPort.state c.args.opening c.in-Err.opening c.close-in-Err.result c.in-Err.ensures.refused c.close-in-Err.ensures.files c.close-in-Err.ensures.card)
