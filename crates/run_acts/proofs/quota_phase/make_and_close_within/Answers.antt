use Rattle.std.proofs.Common.{◌≡◌, ◌∙◌, Global, IfOk, List, [], Vec, length, replicate, vec_len, sym, ap, subst}
use Rattle.std.proofs.lemmas.List.{length-map, length-replicate}
use Rattle.std.proofs.lemmas.Result.{IfErr-weaker, IfOk-weaker}
use Rattle.tee_types.specs.Limits.{file_count}
use Rattle.object_calls.specs.FinishedPhase.{HaveCounted}
use Rattle.object_calls.specs.OpeningSessions.{AreCallers, AreSeated, HaveNoEvents}
use Rattle.object_calls.proofs.Files.{refilled}
use Rattle.quota_store.specs.CallerSessions.{CallerSession}
use Rattle.script_text.specs.declared.script.Mode.TheVariants.{Serial}
use Rattle.run_acts.specs.Benches.{bench_state}
use Rattle.run_acts.specs.Closing.{ClosesEarly}
use Rattle.run_acts.specs.OwnQuotas.{all_in, lists_in}
use Rattle.run_acts.specs.QuotaClosing.{ClosesWithin}
use Rattle.run_acts.specs.QuotaRefusals.{HoldsOfAdmitted}
use Rattle.run_acts.specs.declared.refused_call.RefusedCall.{RefusedCall}
use Rattle.run_acts.specs.Reliable.{AreFresh, AreReliable}
use Rattle.run_acts.specs.ServedSteps.{AreCalls}
use Rattle.run_acts.proofs.Closings.{ends_devices}
use Rattle.run_acts.proofs.QuotaClosings.{IfOk-both, match-both, served-early, served-within, stopped-early}
use Rattle.run_acts.proofs.quota_phase.make_and_close_within.Goals as goal

pub make_calls_within-made-requires-clause-calls : goal.make_calls_within-made-requires-clause-calls
make_calls_within-made-requires-clause-calls g c =
    subst (λ (l : List (CallerSession g.row.E.Denot)). AreCalls (length l) c.args.calls.now) (sym c.deref_mut.ensures.value) c.requires.calls

pub finish-closed-requires : goal.finish-closed-requires
finish-closed-requires g c =
    let sessions = c.args.sessions in
    let new : List (CallerSession g.row.E.Denot) = c.make_calls_within-made.new.sessions in
    let long : length sessions.items ≡ sessions.len = sym sessions.ok.0 in
    let many : length new ≡ sessions.len = c.make_calls_within-made.auto.sessions ∙ c.deref_mut.ensures.len in
    subst (λ (l : List (CallerSession g.row.E.Denot)). AreCallers g.L.StoreName.store l) (sym (refilled sessions.len sessions.items new long many)) c.make_calls_within-made.ensures.sessions.each

pub make_calls_within-made-requires-clause-none : goal.make_calls_within-made-requires-clause-none
make_calls_within-made-requires-clause-none g c =
    ap lists_in c.deref_mut-2.ensures.value ∙ c.requires.none ∙ ap (λ (l : List (CallerSession g.row.E.Denot)). replicate (length l) []) (sym c.deref_mut.ensures.value)

pub returns-in-Ok-clause-closed : goal.returns-in-Ok-clause-closed
returns-in-Ok-clause-closed g c = λ before has.
    let of_file = g.F.StoreFile.state in
    let of_port = g.R.RpmbPort.state in
    let is_reliable = g.E.Entropy.is_reliable in
    let draws = g.E.Entropy.faults in
    let store = g.L.StoreName.store in
    let quotas = c.args.quotas.now in
    let calls = c.args.calls.now in
    let sessions = c.args.sessions in
    let was : List (CallerSession g.row.E.Denot) = c.deref_mut.result.now in
    let same : was ≡ sessions.items = c.deref_mut.ensures.value in
    let made = c.make_calls_within-made in
    let new : List (CallerSession g.row.E.Denot) = made.new.sessions in
    let lists = lists_in made.new.refused in
    let closed = c.finish-closed in
    let behind = bench_state of_file of_port closed.result.bench in
    let devices = ends_devices of_file of_port made.new.service closed.result.bench.files.items closed.result.bench.card closed.ensures.gives in
    let long : length sessions.items ≡ sessions.len = sym sessions.ok.0 in
    let many : length new ≡ sessions.len = made.auto.sessions ∙ c.deref_mut.ensures.len in
    let counted = subst (λ (l : List (CallerSession g.row.E.Denot)). HaveCounted made.new.service.gate.journal.knows l) (refilled sessions.len sessions.items new long many) closed.ensures.counted in
    let noted : List (Vec RefusedCall Global) = made.new.refused in
    let places : length c.args.refused.items ≡ c.args.refused.len = sym c.args.refused.ok.0 in
    let still : length noted ≡ c.args.refused.len = made.auto.refused ∙ c.deref_mut-2.ensures.len in
    let told : c.deref.result.now ≡ noted = c.deref.ensures.value ∙ refilled c.args.refused.len c.args.refused.items noted places still in
    let listed : length lists ≡ length was =
    length-map noted (λ (l : Vec RefusedCall Global). l.items) ∙ made.auto.refused ∙ sym (length-map c.deref_mut-2.result.now (λ (l : Vec RefusedCall Global). l.items))
    ∙ ap (λ (l : List (List RefusedCall)). length l) (ap lists_in c.deref_mut-2.ensures.value ∙ c.requires.none) ∙ length-replicate (length sessions.items) []
    ∙ ap (λ (l : List (CallerSession g.row.E.Denot)). length l) (sym same) in
    let closes : ClosesWithin (AreReliable is_reliable was) store quotas before Serial calls behind closed.result.history.events (all_in lists) =
    served-within of_file of_port draws is_reliable store quotas c.requires.some calls c.args.service made.new.service before behind was new lists has devices c.requires.begins closed.result.doubt
    closed.ensures.leaves c.in-Ok.ensures.made
    (subst (λ (l : List (CallerSession g.row.E.Denot)). AreSeated store l) (sym same) c.requires.sessions) (subst (λ (l : List (CallerSession g.row.E.Denot)). HaveNoEvents l) (sym same) c.requires.unmade)
    (subst (λ (l : List (CallerSession g.row.E.Denot)). AreCalls (length l) calls) (sym same) c.requires.calls)
    (subst (λ (l : List (CallerSession g.row.E.Denot)). AreFresh draws l) (sym same) c.requires.fresh) made.ensures.reliable made.auto.sessions listed counted closed.result.history.events
    closed.ensures.events in
    IfOk-both c.with_refused.result (λ x. x.closed ≡ closed.result) (λ x. x.refused.items ≡ all_in lists)
    (λ x. ClosesWithin (AreReliable is_reliable sessions.items) store quotas before Serial calls (bench_state of_file of_port x.closed.bench) x.closed.history.events x.refused.items)
    (λ x one all. subst (λ k. ClosesWithin (AreReliable is_reliable sessions.items) store quotas before Serial calls (bench_state of_file of_port k.bench) k.history.events x.refused.items) (sym one)
    (subst (ClosesWithin (AreReliable is_reliable sessions.items) store quotas before Serial calls behind closed.result.history.events) (sym all)
    (subst (λ (l : List (CallerSession g.row.E.Denot)). ClosesWithin (AreReliable is_reliable l) store quotas before Serial calls behind closed.result.history.events (all_in lists)) same closes)))
    c.with_refused.ensures.closed
    (subst (λ (l : List (Vec RefusedCall Global)). IfOk c.with_refused.result (λ x. x.refused.items ≡ all_in (lists_in l))) told c.with_refused.ensures.refused)

pub returns-in-Ok-clause-early : goal.returns-in-Ok-clause-early
returns-in-Ok-clause-early g c = λ before has.
    let of_file = g.F.StoreFile.state in
    let of_port = g.R.RpmbPort.state in
    let is_reliable = g.E.Entropy.is_reliable in
    let draws = g.E.Entropy.faults in
    let store = g.L.StoreName.store in
    let quotas = c.args.quotas.now in
    let calls = c.args.calls.now in
    let sessions = c.args.sessions in
    let was : List (CallerSession g.row.E.Denot) = c.deref_mut.result.now in
    let same : was ≡ sessions.items = c.deref_mut.ensures.value in
    let made = c.make_calls_within-made in
    let new : List (CallerSession g.row.E.Denot) = made.new.sessions in
    let lists = lists_in made.new.refused in
    let closed = c.finish-closed in
    let behind = bench_state of_file of_port closed.result.bench in
    let devices = ends_devices of_file of_port made.new.service closed.result.bench.files.items closed.result.bench.card closed.ensures.gives in
    IfErr-weaker c.with_refused.result (λ b. b ≡ closed.result.bench)
    (λ b. HoldsOfAdmitted quotas calls (λ steps. ClosesEarly store before Serial steps (bench_state of_file of_port b)))
    (λ b is. subst (λ k. HoldsOfAdmitted quotas calls (λ steps. ClosesEarly store before Serial steps (bench_state of_file of_port k))) (sym is)
    (served-early of_file of_port draws is_reliable store quotas c.requires.some calls c.args.service made.new.service before behind was new lists has devices c.requires.begins closed.result.doubt
    closed.ensures.leaves c.in-Ok.ensures.made))
    c.with_refused.ensures.bench

pub returns-clause-early : goal.returns-clause-early
returns-clause-early g c = λ before has.
    let of_file = g.F.StoreFile.state in
    let of_port = g.R.RpmbPort.state in
    let is_reliable = g.E.Entropy.is_reliable in
    let draws = g.E.Entropy.faults in
    let store = g.L.StoreName.store in
    let quotas = c.args.quotas.now in
    let calls = c.args.calls.now in
    let sessions = c.args.sessions in
    let was : List (CallerSession g.row.E.Denot) = c.deref_mut.result.now in
    let same : was ≡ sessions.items = c.deref_mut.ensures.value in
    let made = c.make_calls_within-made in
    let new : List (CallerSession g.row.E.Denot) = made.new.sessions in
    let lists = lists_in made.new.refused in
    let closed = c.finish-closed in
    let behind = bench_state of_file of_port closed.result.bench in
    let devices = ends_devices of_file of_port made.new.service closed.result.bench.files.items closed.result.bench.card closed.ensures.gives in
    let front = c.in-Err.ensures.stopped in
    stopped-early of_file of_port draws is_reliable store quotas c.requires.some calls c.args.service made.new.service before behind was new lists has devices c.requires.begins closed.result.doubt
    closed.ensures.leaves front.0 front.2

pub returns-in-Ok-clause-whole : goal.returns-in-Ok-clause-whole
returns-in-Ok-clause-whole g c =
    let closed = c.finish-closed in
    match-both c.with_refused.result (λ x. vec_len x.closed.bench.files ≡ file_count) (λ b. vec_len b.files ≡ file_count)
    (IfOk-weaker c.with_refused.result (λ x. x.closed ≡ closed.result) (λ x. vec_len x.closed.bench.files ≡ file_count) (λ x one. ap (λ k. vec_len k.bench.files) one ∙ closed.ensures.whole) c.with_refused.ensures.closed)
    (IfErr-weaker c.with_refused.result (λ b. b ≡ closed.result.bench) (λ b. vec_len b.files ≡ file_count) (λ b is. ap (λ k. vec_len k.files) is ∙ closed.ensures.whole) c.with_refused.ensures.bench)
