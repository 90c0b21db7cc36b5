-- The calls were made or refused, each session's on a thread of its own, and the store was closed; or memory ran out.
use Rattle.std.proofs.Common.{◌≡◌, ◌∙◌, ℕ, All, Bool, Global, IfOk, List, Vec, length, vec_len, sym, ap, subst, arith}
use Rattle.std.proofs.lemmas.Result.{IfErr-weaker, IfOk-weaker}
use Rattle.tee_types.specs.Limits.{file_count, last_file}
use Rattle.app_quota.specs.Quotas.{limit_of}
use Rattle.quota_store.specs.Callers.{QuotaCaller}
use Rattle.quota_store.specs.Sharing.{callers_of}
use Rattle.quota_store.specs.CallerSessions.{CallerSession}
use Rattle.quota_store.specs.SlotValues.{SlotValue}
use Rattle.object_calls.specs.FinishedPhase.{HaveCounted}
use Rattle.object_calls.specs.OpeningFiles.{files_of}
use Rattle.object_calls.specs.OpeningSessions.{AreCallers as AreSessions, AreSeated, HaveNoEvents}
use Rattle.script_text.specs.declared.script.Mode.TheVariants.{Threads}
use Rattle.run_acts.specs.Benches.{bench_state}
use Rattle.run_acts.specs.Closing.{ClosesEarly, served}
use Rattle.run_acts.specs.OwnQuotas.{all_in, lists_in}
use Rattle.run_acts.specs.QuotaClosing.{ClosesSharedWithin}
use Rattle.run_acts.specs.QuotaRefusals.{HoldsOfAdmitted, admitted}
use Rattle.run_acts.specs.QuotaWork.{HaveWorkedTo, IsLimited, LeaveWork}
use Rattle.run_acts.specs.Reliable.{AreFresh, AreReliable}
use Rattle.run_acts.specs.ServedSteps.{AreCalls}
use Rattle.run_acts.specs.Sharing.{AreKept}
use Rattle.run_acts.specs.declared.refused_call.RefusedCall.{RefusedCall}
use Rattle.run_acts.proofs.Admissions.{calls-admitted, quotas-for}
use Rattle.run_acts.proofs.QuotaClosings.{IfOk-both, match-both}
use Rattle.run_acts.proofs.QuotaSharing.{callers-all, length-callers, limited-all, many-shared, past-none, seated-shared, shared-callers}
use Rattle.run_acts.proofs.QuotaThreads.{all-done, all-keep, left-worked}
use Rattle.run_acts.proofs.QuotasKept.{quotas-kept}
use Rattle.run_acts.proofs.ThreadClosings.{all_drawn, all_serve, all_undrawn, bench_shared, closes_shared_within, front_serves, worked_callers}
use Rattle.run_acts.proofs.quota_threads.share_and_close_within.Goals as goal

pub share_slots-slots-requires-clause-keep : goal.share_slots-slots-requires-clause-keep
share_slots-slots-requires-clause-keep g c =
    subst (λ (l : List SlotValue). AreKept g.L.DevicesName.devices last_file l) (sym c.into_parts-gate.ensures.slots) c.requires.slots

pub share_sessions-locks-requires-clause-seated : goal.share_sessions-locks-requires-clause-seated
share_sessions-locks-requires-clause-seated g c = seated-shared g.L.StoreName.store c.args.sessions.items c.requires.sessions

pub make_beside_within-sessions-requires-clause-few : goal.make_beside_within-sessions-requires-clause-few
make_beside_within-sessions-requires-clause-few g c κs within =
    let shared = c.share_sessions-locks.result.sessions in
    omega (
      arith,
      shared.ok.0,
      many-shared c.args.quotas.now c.args.sessions.items shared.items c.share_sessions-locks.ensures.sessions,
      c.requires.sessions.many,
      c.into_parts-gate.ensures.service.few,
    )

pub make_beside_within-sessions-requires-clause-callers : goal.make_beside_within-sessions-requires-clause-callers
make_beside_within-sessions-requires-clause-callers g c κs within =
    shared-callers g.L.StoreName.store c.args.quotas.now c.args.sessions.items c.share_sessions-locks.result.sessions.items c.share_sessions-locks.ensures.sessions c.requires.sessions.each

pub close_slots-closed-requires-clause-objects : goal.close_slots-closed-requires-clause-objects
close_slots-closed-requires-clause-objects g c i d within =
    let slots = c.unshare_slots-slots.result in
    (c.unshare_slots-slots.ensures.keep i d (omega (arith, within, slots.ok.0, c.unshare_slots-slots.ensures.many))).object

pub join_sessions-sessions-requires-clause-callers : goal.join_sessions-sessions-requires-clause-callers
join_sessions-sessions-requires-clause-callers g c =
    let is_reliable = g.E.Entropy.is_reliable in
    let draws = g.E.Entropy.faults in
    let store = g.L.StoreName.store in
    let quotas = c.args.quotas.now in
    let calls = c.args.calls.now in
    let shared : List (QuotaCaller g.row.E.Denot) = c.share_sessions-locks.result.sessions.items in
    let finished = c.make_beside_within-sessions.result in
    let was : List (CallerSession g.row.E.Denot) = callers_of shared in
    let new : List (CallerSession g.row.E.Denot) = callers_of finished.sessions.items in
    let lists = lists_in finished.lists.items in
    let begun : was ≡ c.args.sessions.items = c.share_sessions-locks.ensures.callers in
    let left : LeaveWork is_reliable draws store (limit_of quotas) calls finished.done was new lists =
    c.make_beside_within-sessions.ensures (limit_of quotas)
    (subst (λ (l : List (QuotaCaller g.row.E.Denot)). All (IsLimited (limit_of quotas)) l) (sym c.share_sessions-locks.ensures.sessions) (limited-all quotas c.args.sessions.items)) in
    let seated = subst (λ (l : List (CallerSession g.row.E.Denot)). AreSeated store l) (sym begun) c.requires.sessions in
    let made = admitted (all_in lists) calls in
    let worked = left-worked is_reliable draws store (limit_of quotas) calls finished.done was new lists seated left in
    callers-all store finished.sessions.items (worked_callers is_reliable draws store made was new left.many worked)

pub join_sessions-sessions-requires-clause-few : goal.join_sessions-sessions-requires-clause-few
join_sessions-sessions-requires-clause-few g c =
    let is_reliable = g.E.Entropy.is_reliable in
    let draws = g.E.Entropy.faults in
    let store = g.L.StoreName.store in
    let quotas = c.args.quotas.now in
    let calls = c.args.calls.now in
    let shared : List (QuotaCaller g.row.E.Denot) = c.share_sessions-locks.result.sessions.items in
    let finished = c.make_beside_within-sessions.result in
    let was : List (CallerSession g.row.E.Denot) = callers_of shared in
    let new : List (CallerSession g.row.E.Denot) = callers_of finished.sessions.items in
    let lists = lists_in finished.lists.items in
    let begun : was ≡ c.args.sessions.items = c.share_sessions-locks.ensures.callers in
    let left : LeaveWork is_reliable draws store (limit_of quotas) calls finished.done was new lists =
    c.make_beside_within-sessions.ensures (limit_of quotas)
    (subst (λ (l : List (QuotaCaller g.row.E.Denot)). All (IsLimited (limit_of quotas)) l) (sym c.share_sessions-locks.ensures.sessions) (limited-all quotas c.args.sessions.items)) in
    let seated = subst (λ (l : List (CallerSession g.row.E.Denot)). AreSeated store l) (sym begun) c.requires.sessions in
    omega (arith, finished.sessions.ok.0, length-callers finished.sessions.items, left.many, ap length begun, c.requires.sessions.many, c.into_parts-gate.ensures.service.few)

pub close_slots-closed-requires-clause-sessions : goal.close_slots-closed-requires-clause-sessions
close_slots-closed-requires-clause-sessions g c =
    let is_reliable = g.E.Entropy.is_reliable in
    let draws = g.E.Entropy.faults in
    let store = g.L.StoreName.store in
    let quotas = c.args.quotas.now in
    let calls = c.args.calls.now in
    let shared : List (QuotaCaller g.row.E.Denot) = c.share_sessions-locks.result.sessions.items in
    let finished = c.make_beside_within-sessions.result in
    let was : List (CallerSession g.row.E.Denot) = callers_of shared in
    let new : List (CallerSession g.row.E.Denot) = callers_of finished.sessions.items in
    let lists = lists_in finished.lists.items in
    let begun : was ≡ c.args.sessions.items = c.share_sessions-locks.ensures.callers in
    let left : LeaveWork is_reliable draws store (limit_of quotas) calls finished.done was new lists =
    c.make_beside_within-sessions.ensures (limit_of quotas)
    (subst (λ (l : List (QuotaCaller g.row.E.Denot)). All (IsLimited (limit_of quotas)) l) (sym c.share_sessions-locks.ensures.sessions) (limited-all quotas c.args.sessions.items)) in
    let seated = subst (λ (l : List (CallerSession g.row.E.Denot)). AreSeated store l) (sym begun) c.requires.sessions in
    let made = admitted (all_in lists) calls in
    let worked = left-worked is_reliable draws store (limit_of quotas) calls finished.done was new lists seated left in
    subst (λ (l : List (CallerSession g.row.E.Denot)). AreSessions store l) (sym c.join_sessions-sessions.ensures.sessions) (worked_callers is_reliable draws store made was new left.many worked)

pub returns-then-done-clause-closed : goal.returns-then-done-clause-closed
returns-then-done-clause-closed g c =
    let of_file = g.F.StoreFile.state in
    let of_port = g.R.RpmbPort.state in
    let is_reliable = g.E.Entropy.is_reliable in
    let draws = g.E.Entropy.faults in
    let store = g.L.StoreName.store in
    let before = g.L.DevicesName.devices in
    let quotas = c.args.quotas.now in
    let calls = c.args.calls.now in
    let shared : List (QuotaCaller g.row.E.Denot) = c.share_sessions-locks.result.sessions.items in
    let finished = c.make_beside_within-sessions.result in
    let was : List (CallerSession g.row.E.Denot) = callers_of shared in
    let new : List (CallerSession g.row.E.Denot) = callers_of finished.sessions.items in
    let lists = lists_in finished.lists.items in
    let begun : was ≡ c.args.sessions.items = c.share_sessions-locks.ensures.callers in
    let left : LeaveWork is_reliable draws store (limit_of quotas) calls finished.done was new lists =
    c.make_beside_within-sessions.ensures (limit_of quotas)
    (subst (λ (l : List (QuotaCaller g.row.E.Denot)). All (IsLimited (limit_of quotas)) l) (sym c.share_sessions-locks.ensures.sessions) (limited-all quotas c.args.sessions.items)) in
    let slots = c.unshare_slots-slots.result in
    let place : last_file ≡ length slots.items = sym c.unshare_slots-slots.ensures.many ∙ slots.ok.0 in
    let gate = c.into_gate.result in
    let closed = c.close_slots-closed in
    let seated = subst (λ (l : List (CallerSession g.row.E.Denot)). AreSeated store l) (sym begun) c.requires.sessions in
    let unmade = subst (λ (l : List (CallerSession g.row.E.Denot)). HaveNoEvents l) (sym begun) c.requires.unmade in
    let counted = subst (λ (l : List (CallerSession g.row.E.Denot)). HaveCounted gate.journal.knows l) c.join_sessions-sessions.ensures.sessions closed.ensures.counted in
    let made = admitted (all_in lists) calls in
    let steps = calls-admitted (length was) (all_in lists) calls (subst (λ (l : List (CallerSession g.row.E.Denot)). AreCalls (length l) calls) (sym begun) c.requires.calls) in
    let worked = left-worked is_reliable draws store (limit_of quotas) calls finished.done was new lists seated left in
    let all_made = subst (λ (b : Bool). HaveWorkedTo is_reliable draws store (limit_of quotas) calls b was new lists) c.if-done.true left.worked in
    let fresh = subst (λ (l : List (CallerSession g.row.E.Denot)). AreFresh draws l) (sym begun) c.requires.fresh in
    let done = all-done is_reliable draws store (limit_of quotas) calls was new lists seated unmade left.many left.listed all_made in
    let closes : ClosesSharedWithin (AreReliable is_reliable c.args.sessions.items) store quotas before calls (files_of of_file closed.result.bench.files.items) (of_port closed.result.bench.card)
    closed.result.history.events (all_in lists) =
    closes_shared_within of_file of_port store before gate c.into_gate.ensures.keeps slots.items (subst (λ (n : ℕ). AreKept before n slots.items) place c.unshare_slots-slots.ensures.keep)
    closed.result.bench.files.items closed.result.bench.card closed.ensures.dir (closed.ensures.spare ∙ ap of_file c.into_parts-gate.ensures.spare ∙ c.requires.spare) closed.ensures.placed closed.ensures.tagged
    (AreReliable is_reliable c.args.sessions.items) quotas calls (all_in lists) closed.result.history.events closed.result.doubt closed.ensures.events
    (all_serve is_reliable draws store was new made seated unmade left.many worked gate.journal.knows counted done steps c.into_gate.ensures.keeps.sessions)
    (all_drawn is_reliable draws store was new made seated unmade left.many worked gate.journal.knows counted done fresh)
    (λ reliable. all_undrawn is_reliable draws store was new made seated unmade left.many worked gate.journal.knows counted done fresh
    (subst (λ (l : List (CallerSession g.row.E.Denot)). AreReliable is_reliable l) (sym begun) reliable))
    closed.ensures.card closed.ensures.leaves
    (quotas-for quotas store gate.journal.knows.all calls (all_in lists) c.requires.some
    (quotas-kept quotas store calls was new lists seated unmade left.many left.listed (all-keep is_reliable draws store (limit_of quotas) calls was new lists seated unmade left.many left.listed all_made)
    gate.journal.knows counted (past-none store gate.journal.knows was seated c.into_gate.ensures.keeps.sessions))) in
    IfOk-both c.with_refused.result (λ x. x.closed ≡ closed.result) (λ x. x.refused.items ≡ all_in lists)
    (λ x. ClosesSharedWithin (AreReliable is_reliable c.args.sessions.items) store quotas before calls (files_of of_file x.closed.bench.files.items) (of_port x.closed.bench.card) x.closed.history.events
    x.refused.items)
    (λ x same told. subst
    (λ k. ClosesSharedWithin (AreReliable is_reliable c.args.sessions.items) store quotas before calls (files_of of_file k.bench.files.items) (of_port k.bench.card) k.history.events x.refused.items) (sym same)
    (subst
    (λ (l : List RefusedCall). ClosesSharedWithin (AreReliable is_reliable c.args.sessions.items) store quotas before calls (files_of of_file closed.result.bench.files.items) (of_port closed.result.bench.card)
    closed.result.history.events l) (sym told) closes))
    c.with_refused.ensures.closed (subst (λ (l : List (Vec RefusedCall Global)). IfOk c.with_refused.result (λ x. x.refused.items ≡ all_in (lists_in l))) c.deref.ensures.value c.with_refused.ensures.refused)

pub returns-then-done-clause-early : goal.returns-then-done-clause-early
returns-then-done-clause-early g c = λ bench is.
    let of_file = g.F.StoreFile.state in
    let of_port = g.R.RpmbPort.state in
    let is_reliable = g.E.Entropy.is_reliable in
    let draws = g.E.Entropy.faults in
    let store = g.L.StoreName.store in
    let before = g.L.DevicesName.devices in
    let quotas = c.args.quotas.now in
    let calls = c.args.calls.now in
    let shared : List (QuotaCaller g.row.E.Denot) = c.share_sessions-locks.result.sessions.items in
    let finished = c.make_beside_within-sessions.result in
    let was : List (CallerSession g.row.E.Denot) = callers_of shared in
    let new : List (CallerSession g.row.E.Denot) = callers_of finished.sessions.items in
    let lists = lists_in finished.lists.items in
    let begun : was ≡ c.args.sessions.items = c.share_sessions-locks.ensures.callers in
    let left : LeaveWork is_reliable draws store (limit_of quotas) calls finished.done was new lists =
    c.make_beside_within-sessions.ensures (limit_of quotas)
    (subst (λ (l : List (QuotaCaller g.row.E.Denot)). All (IsLimited (limit_of quotas)) l) (sym c.share_sessions-locks.ensures.sessions) (limited-all quotas c.args.sessions.items)) in
    let slots = c.unshare_slots-slots.result in
    let place : last_file ≡ length slots.items = sym c.unshare_slots-slots.ensures.many ∙ slots.ok.0 in
    let gate = c.into_gate.result in
    let closed = c.close_slots-closed in
    let seated = subst (λ (l : List (CallerSession g.row.E.Denot)). AreSeated store l) (sym begun) c.requires.sessions in
    let unmade = subst (λ (l : List (CallerSession g.row.E.Denot)). HaveNoEvents l) (sym begun) c.requires.unmade in
    let counted = subst (λ (l : List (CallerSession g.row.E.Denot)). HaveCounted gate.journal.knows l) c.join_sessions-sessions.ensures.sessions closed.ensures.counted in
    let made = admitted (all_in lists) calls in
    let steps = calls-admitted (length was) (all_in lists) calls (subst (λ (l : List (CallerSession g.row.E.Denot)). AreCalls (length l) calls) (sym begun) c.requires.calls) in
    let worked = left-worked is_reliable draws store (limit_of quotas) calls finished.done was new lists seated left in
    let early : HoldsOfAdmitted quotas calls (λ l. ClosesEarly store bench Threads l (bench_state of_file of_port closed.result.bench)) = record {
      refused = all_in lists;
      unrefused = λ none. absurd (c.requires.some none);
      holds = served gate.journal.knows closed.result.doubt
          (front_serves is_reliable draws store was new made seated unmade left.many worked gate.journal.knows counted steps c.into_gate.ensures.keeps.sessions)
          closed.ensures.leaves
          (bench_shared of_file of_port store before gate c.into_gate.ensures.keeps slots.items (subst (λ (n : ℕ). AreKept before n slots.items) place c.unshare_slots-slots.ensures.keep)
          closed.result.bench.files.items closed.result.bench.card closed.ensures.dir (closed.ensures.spare ∙ ap of_file c.into_parts-gate.ensures.spare ∙ c.requires.spare) closed.ensures.placed closed.ensures.tagged bench is
          closed.ensures.card);
    } in
    IfErr-weaker c.with_refused.result (λ b. b ≡ closed.result.bench)
    (λ b. HoldsOfAdmitted quotas calls (λ l. ClosesEarly store bench Threads l (bench_state of_file of_port b)))
    (λ b same. subst (λ k. HoldsOfAdmitted quotas calls (λ l. ClosesEarly store bench Threads l (bench_state of_file of_port k))) (sym same) early) c.with_refused.ensures.bench

pub returns-clause-early : goal.returns-clause-early
returns-clause-early g c = λ bench is.
    let of_file = g.F.StoreFile.state in
    let of_port = g.R.RpmbPort.state in
    let is_reliable = g.E.Entropy.is_reliable in
    let draws = g.E.Entropy.faults in
    let store = g.L.StoreName.store in
    let before = g.L.DevicesName.devices in
    let quotas = c.args.quotas.now in
    let calls = c.args.calls.now in
    let shared : List (QuotaCaller g.row.E.Denot) = c.share_sessions-locks.result.sessions.items in
    let finished = c.make_beside_within-sessions.result in
    let was : List (CallerSession g.row.E.Denot) = callers_of shared in
    let new : List (CallerSession g.row.E.Denot) = callers_of finished.sessions.items in
    let lists = lists_in finished.lists.items in
    let begun : was ≡ c.args.sessions.items = c.share_sessions-locks.ensures.callers in
    let left : LeaveWork is_reliable draws store (limit_of quotas) calls finished.done was new lists =
    c.make_beside_within-sessions.ensures (limit_of quotas)
    (subst (λ (l : List (QuotaCaller g.row.E.Denot)). All (IsLimited (limit_of quotas)) l) (sym c.share_sessions-locks.ensures.sessions) (limited-all quotas c.args.sessions.items)) in
    let slots = c.unshare_slots-slots.result in
    let place : last_file ≡ length slots.items = sym c.unshare_slots-slots.ensures.many ∙ slots.ok.0 in
    let gate = c.into_gate.result in
    let closed = c.close_slots-closed in
    let seated = subst (λ (l : List (CallerSession g.row.E.Denot)). AreSeated store l) (sym begun) c.requires.sessions in
    let unmade = subst (λ (l : List (CallerSession g.row.E.Denot)). HaveNoEvents l) (sym begun) c.requires.unmade in
    let counted = subst (λ (l : List (CallerSession g.row.E.Denot)). HaveCounted gate.journal.knows l) c.join_sessions-sessions.ensures.sessions closed.ensures.counted in
    let made = admitted (all_in lists) calls in
    let steps = calls-admitted (length was) (all_in lists) calls (subst (λ (l : List (CallerSession g.row.E.Denot)). AreCalls (length l) calls) (sym begun) c.requires.calls) in
    let worked = left-worked is_reliable draws store (limit_of quotas) calls finished.done was new lists seated left in
    let early : HoldsOfAdmitted quotas calls (λ l. ClosesEarly store bench Threads l (bench_state of_file of_port closed.result.bench)) = record {
      refused = all_in lists;
      unrefused = λ none. absurd (c.requires.some none);
      holds = served gate.journal.knows closed.result.doubt
          (front_serves is_reliable draws store was new made seated unmade left.many worked gate.journal.knows counted steps c.into_gate.ensures.keeps.sessions)
          closed.ensures.leaves
          (bench_shared of_file of_port store before gate c.into_gate.ensures.keeps slots.items (subst (λ (n : ℕ). AreKept before n slots.items) place c.unshare_slots-slots.ensures.keep)
          closed.result.bench.files.items closed.result.bench.card closed.ensures.dir (closed.ensures.spare ∙ ap of_file c.into_parts-gate.ensures.spare ∙ c.requires.spare) closed.ensures.placed closed.ensures.tagged bench is
          closed.ensures.card);
    } in
    early

pub returns-then-done-clause-whole : goal.returns-then-done-clause-whole
returns-then-done-clause-whole g c =
    let closed = c.close_slots-closed in
    match-both c.with_refused.result (λ x. vec_len x.closed.bench.files ≡ file_count) (λ b. vec_len b.files ≡ file_count)
    (IfOk-weaker c.with_refused.result (λ x. x.closed ≡ closed.result) (λ x. vec_len x.closed.bench.files ≡ file_count) (λ x one. ap (λ k. vec_len k.bench.files) one ∙ closed.ensures.whole) c.with_refused.ensures.closed)
    (IfErr-weaker c.with_refused.result (λ b. b ≡ closed.result.bench) (λ b. vec_len b.files ≡ file_count) (λ b is. ap (λ k. vec_len k.files) is ∙ closed.ensures.whole) c.with_refused.ensures.bench)
