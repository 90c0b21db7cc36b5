use Rattle.std.proofs.Common.{ℕ, List, length, refl, sym, subst}
use Rattle.object_calls.specs.OpenedStores.{store_in}
use Rattle.object_calls.specs.Opening.{OpeningValue}
use Rattle.object_calls.specs.OpeningSessions.{AreUnseated}
use Rattle.script_text.specs.declared.script.Step.{Step}
use Rattle.run_acts.specs.Reliable.{AreReliable}
use Rattle.run_acts.specs.ServedSteps.{AreCalls}
use Rattle.run_acts.specs.Benches.{BenchState, bench_state, opening_state}
use Rattle.run_acts.specs.Closing.{ClosesEarly}
use Rattle.run_acts.specs.PhaseArms.{ArmsAll}
use Rattle.run_acts.specs.PhaseRefusals.{ClosesOpened, unready}
use Rattle.run_acts.specs.Phases.{ServesOpened}
use Rattle.run_acts.specs.QuotaClosing.{ClosesWithin}
use Rattle.run_acts.specs.QuotaRefusals.{HoldsOfAdmitted}
use Rattle.run_acts.proofs.Admissions.{holds-all, holds-weaker}
use Rattle.run_acts.proofs.Closings.{closed_state, closes_within_where}
use Rattle.run_acts.proofs.Ready.{ready-applications, ready-keyed, serves_opened}
use Rattle.run_acts.proofs.Starved.{early_opened}
use Rattle.std.proofs.lemmas.Result.{IfErr-weaker, IfOk-weaker}
use Rattle.run_acts.proofs.phase.serve_opened.Goals as goal

pub serve_within-requires-clause-keyed : goal.serve_within-requires-clause-keyed
serve_within-requires-clause-keyed g c = λ κs lives.
    ready-keyed g.F.StoreFile.state g.R.RpmbPort.state c.args.phase.now.applications.now c.args.phase.now.arms.now c.args.opening c.make_ready.new.opening c.in-Ok.ensures.ready c.args.keys.now c.requires.keyed

pub serve_within-requires-clause-sessions : goal.serve_within-requires-clause-sessions
serve_within-requires-clause-sessions g c = λ κs lives.
    let same = ready-applications g.F.StoreFile.state g.R.RpmbPort.state c.args.phase.now.applications.now c.args.phase.now.arms.now c.args.opening c.make_ready.new.opening c.in-Ok.ensures.ready in
    subst (λ (a : List (List ℕ)). AreUnseated {E = g.row.E.Denot} a c.in-Ok.sessions.items) (sym same) c.in-Ok.ensures.sessions

pub serve_within-requires-clause-calls : goal.serve_within-requires-clause-calls
serve_within-requires-clause-calls g c = λ κs lives.
    let same = ready-applications g.F.StoreFile.state g.R.RpmbPort.state c.args.phase.now.applications.now c.args.phase.now.arms.now c.args.opening c.make_ready.new.opening c.in-Ok.ensures.ready in
    subst (λ (a : List (List ℕ)). AreCalls (length a) c.args.phase.now.calls.now) (sym same) c.requires.calls

pub returns-in-Ok-clause-serves : goal.returns-in-Ok-clause-serves
returns-in-Ok-clause-serves g c =
    let of_file = g.F.StoreFile.state in
    let of_port = g.R.RpmbPort.state in
    let a = c.args in
    let keys = a.keys.now in
    let armed : OpeningValue g.row.F.Denot g.row.R.Denot = c.make_ready.new.opening in
    let reliable = g.E.Entropy.is_reliable a.entropy.now in
    let sessions = AreReliable g.E.Entropy.is_reliable c.in-Ok.sessions.items in
    IfOk-weaker c.serve_within.result
    (λ x. ClosesWithin sessions (store_in keys of_file armed) a.phase.now.quotas.now (opening_state of_file of_port armed) a.phase.now.mode a.phase.now.calls.now (bench_state of_file of_port x.closed.bench) x.closed.history.events x.refused.items)
    (λ x. ServesOpened of_file of_port reliable keys a.phase.now.applications.now a.phase.now.quotas.now a.phase.now.arms.now a.phase.now.mode a.phase.now.calls.now a.opening (bench_state of_file of_port x.closed.bench) x.closed.history.events x.refused.items)
    (λ x closes. serves_opened of_file of_port a.phase.now.applications.now a.phase.now.arms.now a.opening armed c.in-Ok.ensures.ready reliable keys a.phase.now.quotas.now a.phase.now.mode a.phase.now.calls.now (bench_state of_file of_port x.closed.bench)
    x.closed.history.events x.refused.items c.requires.keyed
    (closes_within_where sessions reliable (store_in keys of_file armed) a.phase.now.quotas.now (opening_state of_file of_port armed) a.phase.now.mode a.phase.now.calls.now (bench_state of_file of_port x.closed.bench) x.closed.history.events
    x.refused.items c.in-Ok.ensures.reliable closes))
    c.serve_within.ensures.closed

pub returns-in-Ok-clause-early : goal.returns-in-Ok-clause-early
returns-in-Ok-clause-early g c =
    let of_file = g.F.StoreFile.state in
    let of_port = g.R.RpmbPort.state in
    let a = c.args in
    let keys = a.keys.now in
    let armed : OpeningValue g.row.F.Denot g.row.R.Denot = c.make_ready.new.opening in
    IfErr-weaker c.serve_within.result
    (λ b. HoldsOfAdmitted a.phase.now.quotas.now a.phase.now.calls.now (λ (steps : List Step). ClosesEarly (store_in keys of_file armed) (opening_state of_file of_port armed) a.phase.now.mode steps (bench_state of_file of_port b)))
    (λ b. HoldsOfAdmitted a.phase.now.quotas.now a.phase.now.calls.now (λ (steps : List Step). ClosesOpened of_file of_port keys a.phase.now.applications.now a.phase.now.arms.now a.phase.now.mode steps a.opening (bench_state of_file of_port b)))
    (λ b closes. holds-weaker a.phase.now.quotas.now a.phase.now.calls.now (λ steps. ClosesEarly (store_in keys of_file armed) (opening_state of_file of_port armed) a.phase.now.mode steps (bench_state of_file of_port b))
    (λ steps. ClosesOpened of_file of_port keys a.phase.now.applications.now a.phase.now.arms.now a.phase.now.mode steps a.opening (bench_state of_file of_port b))
    (λ steps early. early_opened of_file of_port keys a.phase.now.applications.now a.phase.now.arms.now a.phase.now.mode steps a.opening armed (bench_state of_file of_port b) c.in-Ok.ensures.ready c.requires.keyed early) closes)
    c.serve_within.ensures.early

pub returns-in-Err-clause-early : goal.returns-in-Err-clause-early
returns-in-Err-clause-early g c =
    let of_file = g.F.StoreFile.state in
    let of_port = g.R.RpmbPort.state in
    let a = c.args in
    let state = opening_state of_file of_port in
    let left : OpeningValue g.row.F.Denot g.row.R.Denot = c.make_ready.new.opening in
    let some = c.in-Err.ensures.unready in
    holds-all a.phase.now.quotas.now a.phase.now.calls.now (λ steps. ClosesOpened of_file of_port a.keys.now a.phase.now.applications.now a.phase.now.arms.now a.phase.now.mode steps a.opening (bench_state of_file of_port c.close.result))
    (unready (
      some.0,
      some.1,
      some.2,
      subst (λ (b : BenchState). ArmsAll some.0 (state a.opening) b) (sym (closed_state of_file of_port left left c.close.result refl c.close.ensures.files c.close.ensures.card)) some.3,
    ))
