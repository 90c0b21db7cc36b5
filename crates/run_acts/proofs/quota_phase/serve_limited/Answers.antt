use Rattle.std.proofs.Common.{IfErr, IfOk, subst, sym}
use Rattle.object_calls.specs.OpenedStores.{store_in}
use Rattle.run_acts.specs.Reliable.{AreReliable}
use Rattle.script_text.specs.declared.script.Mode.{Mode}
use Rattle.run_acts.specs.Benches.{bench_state, opening_state}
use Rattle.run_acts.specs.Closing.{ClosesEarly}
use Rattle.run_acts.specs.QuotaClosing.{ClosesWithin}
use Rattle.run_acts.specs.QuotaRefusals.{HoldsOfAdmitted}
use Rattle.run_acts.proofs.quota_phase.serve_limited.Goals as goal

pub returns-in-Serial-clause-closed : goal.returns-in-Serial-clause-closed
returns-in-Serial-clause-closed g c =
    let of_file = g.F.StoreFile.state in
    let of_port = g.R.RpmbPort.state in
    subst
    (λ (mode : Mode). IfOk c.serve_alone_within.result (λ x. ClosesWithin (AreReliable g.E.Entropy.is_reliable c.args.sessions.items) (store_in c.args.keys.now of_file c.args.opening) c.args.quotas.now
    (opening_state of_file of_port c.args.opening) mode c.args.calls.now (bench_state of_file of_port x.closed.bench) x.closed.history.events x.refused.items))
    (sym c.in-Serial.is) c.serve_alone_within.ensures.closed

pub returns-in-Threads-clause-closed : goal.returns-in-Threads-clause-closed
returns-in-Threads-clause-closed g c =
    let of_file = g.F.StoreFile.state in
    let of_port = g.R.RpmbPort.state in
    subst
    (λ (mode : Mode). IfOk c.serve_shared_within_once.result (λ x. ClosesWithin (AreReliable g.E.Entropy.is_reliable c.args.sessions.items) (store_in c.args.keys.now of_file c.args.opening) c.args.quotas.now
    (opening_state of_file of_port c.args.opening) mode c.args.calls.now (bench_state of_file of_port x.closed.bench) x.closed.history.events x.refused.items))
    (sym c.in-Threads.is) c.serve_shared_within_once.ensures.closed

pub returns-in-Serial-clause-early : goal.returns-in-Serial-clause-early
returns-in-Serial-clause-early g c =
    let of_file = g.F.StoreFile.state in
    let of_port = g.R.RpmbPort.state in
    subst
    (λ (mode : Mode). IfErr c.serve_alone_within.result (λ b. HoldsOfAdmitted c.args.quotas.now c.args.calls.now (λ steps. ClosesEarly (store_in c.args.keys.now of_file c.args.opening)
    (opening_state of_file of_port c.args.opening) mode steps (bench_state of_file of_port b))))
    (sym c.in-Serial.is) c.serve_alone_within.ensures.early

pub returns-in-Threads-clause-early : goal.returns-in-Threads-clause-early
returns-in-Threads-clause-early g c =
    let of_file = g.F.StoreFile.state in
    let of_port = g.R.RpmbPort.state in
    subst
    (λ (mode : Mode). IfErr c.serve_shared_within_once.result (λ b. HoldsOfAdmitted c.args.quotas.now c.args.calls.now (λ steps. ClosesEarly (store_in c.args.keys.now of_file c.args.opening)
    (opening_state of_file of_port c.args.opening) mode steps (bench_state of_file of_port b))))
    (sym c.in-Threads.is) c.serve_shared_within_once.ensures.early
