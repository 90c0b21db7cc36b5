use Rattle.std.proofs.Common.{IfErr, IfOk, subst}
use Rattle.std.proofs.lemmas.Result.{IfOk-weaker}
use Rattle.script_text.specs.declared.script.Mode.TheVariants.{Serial}
use Rattle.object_calls.specs.OpenedStores.{store_in}
use Rattle.object_calls.specs.Opening.{OpeningValue}
use Rattle.run_acts.specs.Benches.{bench_state, opening_state}
use Rattle.run_acts.specs.Closing.{ClosesEarly, ClosesStore, unserved}
use Rattle.run_acts.specs.Reliable.{AreReliable}
use Rattle.run_acts.proofs.Closings.{closed_state, closes_where}
use Rattle.run_acts.proofs.serial_phase.serve_serially.Goals as goal

pub returns-in-Ok-clause-closed : goal.returns-in-Ok-clause-closed
returns-in-Ok-clause-closed g c =
    let of_file = g.F.StoreFile.state in
    let of_port = g.R.RpmbPort.state in
    let keys = c.args.keys.now in
    let calls = c.args.calls.now in
    let opened : OpeningValue g.row.F.Denot g.row.R.Denot = record c.args.opening { applications = c.args.applications.now } in
    let sessions = AreReliable g.E.Entropy.is_reliable c.in-Ok.sessions.items in
    let closed =
    subst
    (λ (o : OpeningValue g.row.F.Denot g.row.R.Denot). IfOk c.serve_alone.result
    (λ x. ClosesStore sessions (store_in keys of_file o) (opening_state of_file of_port o) Serial calls (bench_state of_file of_port x.bench) x.history.events))
    c.in-Ok.ensures.opened (c.serve_alone.ensures.closed Serial) in
    IfOk-weaker c.serve_alone.result
    (λ x. ClosesStore sessions (store_in keys of_file opened) (opening_state of_file of_port opened) Serial calls (bench_state of_file of_port x.bench) x.history.events)
    (λ x. ClosesStore (g.E.Entropy.is_reliable c.args.entropy.now) (store_in keys of_file opened) (opening_state of_file of_port opened) Serial calls (bench_state of_file of_port x.bench) x.history.events)
    (λ x closes. closes_where sessions (g.E.Entropy.is_reliable c.args.entropy.now) (store_in keys of_file opened) (opening_state of_file of_port opened) Serial calls
    (bench_state of_file of_port x.bench) x.history.events (λ reliable. c.in-Ok.ensures.reliable reliable) closes)
    closed

pub returns-in-Ok-clause-early : goal.returns-in-Ok-clause-early
returns-in-Ok-clause-early g c =
    let of_file = g.F.StoreFile.state in
    let of_port = g.R.RpmbPort.state in
    subst
    (λ (o : OpeningValue g.row.F.Denot g.row.R.Denot). IfErr c.serve_alone.result
    (λ b. ClosesEarly (store_in c.args.keys.now of_file o) (opening_state of_file of_port o) Serial c.args.calls.now (bench_state of_file of_port b)))
    c.in-Ok.ensures.opened c.serve_alone.ensures.early

pub returns-in-Err-clause-early : goal.returns-in-Err-clause-early
returns-in-Err-clause-early g c =
    let found = c.open_sessions.new.opening in
    unserved (closed_state g.F.StoreFile.state g.R.RpmbPort.state (record c.args.opening { applications = found.applications }) found c.close.result c.in-Err.ensures.same c.close.ensures.files c.close.ensures.card)
