use Rattle.std.proofs.Common.{◌≡◌, ◌≤◌, ◌∙◌, ℕ, List, length, sym, ap, subst, arith}
use Rattle.std.specs.List.{sum_by}
use Rattle.tee_types.specs.Limits.{last_file}
use Rattle.quota_store.specs.CallerSessions.{CallerSession}
use Rattle.quota_store.specs.SlotValues.{SlotValue}
use Rattle.object_calls.specs.FinishedPhase.{HaveCounted}
use Rattle.object_calls.specs.OpeningSessions.{AreCallers, AreSeated, HaveNoEvents}
use Rattle.object_calls.proofs.Files.{refilled}
use Rattle.run_acts.specs.Closing.{served}
use Rattle.run_acts.specs.Sharing.{AreKept}
use Rattle.run_acts.specs.Reliable.{AreFresh, AreReliable}
use Rattle.run_acts.specs.ServedSteps.{AreCalls}
use Rattle.run_acts.proofs.DoneCalls.{all-done}
use Rattle.run_acts.proofs.ThreadClosings.{all_drawn, all_serve, all_undrawn, bench_shared, closes_shared, front_serves, worked_callers}
use Rattle.run_acts.proofs.threads_phase.share_and_close.Goals as goal

pub share_slots-slots-requires-clause-keep : goal.share_slots-slots-requires-clause-keep
share_slots-slots-requires-clause-keep g c =
    subst (λ (l : List SlotValue). AreKept g.L.DevicesName.devices last_file l) (sym c.into_parts-gate.ensures.slots) c.requires.slots

pub make_beside-requires-after_bounds : goal.make_beside-requires-after_bounds
make_beside-requires-after_bounds g c κs within =
    subst (λ (l : List (CallerSession g.row.E.Denot)). AreCallers g.L.StoreName.store l) (sym c.deref_mut.ensures.value) c.requires.sessions.each

pub close_slots-closed-requires-clause-objects : goal.close_slots-closed-requires-clause-objects
close_slots-closed-requires-clause-objects g c i d within =
    let slots = c.unshare_slots-slots.result in
    (c.unshare_slots-slots.ensures.keep i d (omega (arith, within, slots.ok.0, c.unshare_slots-slots.ensures.many))).object

pub close_slots-closed-requires-clause-sessions : goal.close_slots-closed-requires-clause-sessions
close_slots-closed-requires-clause-sessions g c =
    let sessions = c.args.sessions in
    let new : List (CallerSession g.row.E.Denot) = c.make_beside.new.sessions in
    let long : length sessions.items ≡ sessions.len = sym sessions.ok.0 in
    let many : length new ≡ sessions.len = c.make_beside.auto.sessions ∙ c.deref_mut.ensures.len in
    subst (λ (l : List (CallerSession g.row.E.Denot)). AreCallers g.L.StoreName.store l) (sym (refilled sessions.len sessions.items new long many))
    (worked_callers g.E.Entropy.is_reliable g.E.Entropy.faults g.L.StoreName.store c.args.calls.now c.deref_mut.result.now new c.make_beside.auto.sessions c.make_beside.ensures)

pub returns-then-done-clause-closed : goal.returns-then-done-clause-closed
returns-then-done-clause-closed g c =
    let store = g.L.StoreName.store in
    let calls = c.args.calls.now in
    let sessions = c.args.sessions in
    let was : List (CallerSession g.row.E.Denot) = c.deref_mut.result.now in
    let new : List (CallerSession g.row.E.Denot) = c.make_beside.new.sessions in
    let begun : was ≡ sessions.items = c.deref_mut.ensures.value in
    let long : length sessions.items ≡ sessions.len = sym sessions.ok.0 in
    let many : length new ≡ sessions.len = c.make_beside.auto.sessions ∙ c.deref_mut.ensures.len in
    let left = refilled sessions.len sessions.items new long many in
    let slots = c.unshare_slots-slots.result in
    let place : last_file ≡ length slots.items = sym c.unshare_slots-slots.ensures.many ∙ slots.ok.0 in
    let gate = c.into_gate.result in
    let closed = c.close_slots-closed in
    let seated = subst (λ (l : List (CallerSession g.row.E.Denot)). AreSeated store l) (sym begun) c.requires.sessions in
    let unmade = subst (λ (l : List (CallerSession g.row.E.Denot)). HaveNoEvents l) (sym begun) c.requires.unmade in
    let counted = subst (λ (l : List (CallerSession g.row.E.Denot)). HaveCounted gate.journal.knows l) left closed.ensures.counted in
    let fresh = subst (λ (l : List (CallerSession g.row.E.Denot)). AreFresh g.E.Entropy.faults l) (sym begun) c.requires.fresh in
    let steps = subst (λ (l : List (CallerSession g.row.E.Denot)). AreCalls (length l) calls) (sym begun) c.requires.calls in
    let many_made = subst (λ (l : List (CallerSession g.row.E.Denot)). length calls ≤ sum_by (λ s. s.made) l) (c.deref.ensures.value ∙ left) (c.have_made-done.ensures.made c.if-done.true) in
    let done = all-done g.E.Entropy.is_reliable g.E.Entropy.faults store was new calls seated unmade c.make_beside.auto.sessions c.make_beside.ensures steps many_made in
    closes_shared g.F.StoreFile.state g.R.RpmbPort.state store g.L.DevicesName.devices gate c.into_gate.ensures.keeps slots.items
    (subst (λ (n : ℕ). AreKept g.L.DevicesName.devices n slots.items) place c.unshare_slots-slots.ensures.keep) closed.result.bench.files.items closed.result.bench.card closed.ensures.dir
    (closed.ensures.spare ∙ ap g.F.StoreFile.state c.into_parts-gate.ensures.spare ∙ c.requires.spare) closed.ensures.placed closed.ensures.tagged (AreReliable g.E.Entropy.is_reliable sessions.items) calls closed.result.history.events closed.result.doubt closed.ensures.events
    (all_serve g.E.Entropy.is_reliable g.E.Entropy.faults store was new calls seated unmade c.make_beside.auto.sessions c.make_beside.ensures gate.journal.knows counted done steps
    c.into_gate.ensures.keeps.sessions)
    (all_drawn g.E.Entropy.is_reliable g.E.Entropy.faults store was new calls seated unmade c.make_beside.auto.sessions c.make_beside.ensures gate.journal.knows counted done fresh)
    (λ reliable.
    all_undrawn g.E.Entropy.is_reliable g.E.Entropy.faults store was new calls seated unmade c.make_beside.auto.sessions c.make_beside.ensures gate.journal.knows counted done fresh
    (subst (λ (l : List (CallerSession g.row.E.Denot)). AreReliable g.E.Entropy.is_reliable l) (sym begun) reliable))
    closed.ensures.card closed.ensures.leaves

pub returns-else-done-clause-early : goal.returns-else-done-clause-early
returns-else-done-clause-early g c = λ before is.
    let store = g.L.StoreName.store in
    let calls = c.args.calls.now in
    let sessions = c.args.sessions in
    let was : List (CallerSession g.row.E.Denot) = c.deref_mut.result.now in
    let new : List (CallerSession g.row.E.Denot) = c.make_beside.new.sessions in
    let begun : was ≡ sessions.items = c.deref_mut.ensures.value in
    let long : length sessions.items ≡ sessions.len = sym sessions.ok.0 in
    let many : length new ≡ sessions.len = c.make_beside.auto.sessions ∙ c.deref_mut.ensures.len in
    let left = refilled sessions.len sessions.items new long many in
    let slots = c.unshare_slots-slots.result in
    let place : last_file ≡ length slots.items = sym c.unshare_slots-slots.ensures.many ∙ slots.ok.0 in
    let gate = c.into_gate.result in
    let closed = c.close_slots-closed in
    let seated = subst (λ (l : List (CallerSession g.row.E.Denot)). AreSeated store l) (sym begun) c.requires.sessions in
    let unmade = subst (λ (l : List (CallerSession g.row.E.Denot)). HaveNoEvents l) (sym begun) c.requires.unmade in
    let counted = subst (λ (l : List (CallerSession g.row.E.Denot)). HaveCounted gate.journal.knows l) left closed.ensures.counted in
    let steps = subst (λ (l : List (CallerSession g.row.E.Denot)). AreCalls (length l) calls) (sym begun) c.requires.calls in
    served gate.journal.knows closed.result.doubt
    (front_serves g.E.Entropy.is_reliable g.E.Entropy.faults store was new calls seated unmade c.make_beside.auto.sessions c.make_beside.ensures gate.journal.knows counted steps
    c.into_gate.ensures.keeps.sessions)
    closed.ensures.leaves
    (bench_shared g.F.StoreFile.state g.R.RpmbPort.state store g.L.DevicesName.devices gate c.into_gate.ensures.keeps slots.items
    (subst (λ (n : ℕ). AreKept g.L.DevicesName.devices n slots.items) place c.unshare_slots-slots.ensures.keep) closed.result.bench.files.items closed.result.bench.card closed.ensures.dir
    (closed.ensures.spare ∙ ap g.F.StoreFile.state c.into_parts-gate.ensures.spare ∙ c.requires.spare) closed.ensures.placed closed.ensures.tagged before is closed.ensures.card)
