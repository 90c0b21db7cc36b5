use Rattle.std.proofs.Common.{◌∙◌, sym}
use Rattle.object_calls.specs.OpenedStores.{store_in}
use Rattle.run_acts.specs.Benches.{bench_state, opening_state}
use Rattle.run_acts.specs.Closing.{ClosesEarly}
use Rattle.run_acts.specs.Reliable.{AreReliable}
use Rattle.run_acts.proofs.Admissions.{holds-all, no-quota, some-quota}
use Rattle.run_acts.proofs.QuotaClosings.{closes-unlimited}
use Rattle.run_acts.proofs.quota_phase.serve_within.Goals as goal

pub serve_limited-requires-clause-some : goal.serve_limited-requires-clause-some
serve_limited-requires-clause-some g c = λ κs lives. some-quota c.args.quotas.now (sym c.is_empty.ensures ∙ c.if-not-is_empty.true)

pub returns-in-Ok-clause-closed : goal.returns-in-Ok-clause-closed
returns-in-Ok-clause-closed g c =
    let of_file = g.F.StoreFile.state in
    let of_port = g.R.RpmbPort.state in
    let a = c.args in
    closes-unlimited (AreReliable g.E.Entropy.is_reliable a.sessions.items) (store_in a.keys.now of_file a.opening) a.quotas.now (opening_state of_file of_port a.opening) a.mode a.calls.now
    (bench_state of_file of_port c.in-Ok.closed.bench) c.in-Ok.closed.history.events _ (no-quota a.quotas.now (sym c.is_empty.ensures ∙ c.if-not-is_empty.false)) c.new.ensures.items c.in-Ok.ensures.closed

pub returns-in-Err-clause-early : goal.returns-in-Err-clause-early
returns-in-Err-clause-early g c =
    let of_file = g.F.StoreFile.state in
    let of_port = g.R.RpmbPort.state in
    let a = c.args in
    holds-all a.quotas.now a.calls.now (λ steps. ClosesEarly (store_in a.keys.now of_file a.opening) (opening_state of_file of_port a.opening) a.mode steps (bench_state of_file of_port c.in-Err.bench))
    c.in-Err.ensures.early
