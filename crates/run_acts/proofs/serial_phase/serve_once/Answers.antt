use Rattle.std.proofs.Common.{IfErr, IfOk, subst, sym}
use Rattle.object_calls.specs.OpeningFiles.{files_of}
use Rattle.object_calls.specs.OpenedStores.{store_in}
use Rattle.run_acts.specs.Reliable.{AreReliable}
use Rattle.script_text.specs.declared.script.Mode.{Mode}
use Rattle.script_text.specs.declared.script.Mode.TheVariants.{Threads}
use Rattle.run_acts.specs.Benches.{bench_state, opening_state}
use Rattle.run_acts.specs.Closing.{ClosesEarly, ClosesStore}
use Rattle.std.proofs.lemmas.Result.{IfOk-weaker}
use Rattle.run_acts.proofs.SharedClosings.{shared_closes}
use Rattle.run_acts.specs.SharedClosing.{ClosesShared}
use Rattle.run_acts.specs.Sharing.{opening_devices}
use Rattle.run_acts.proofs.serial_phase.serve_once.Goals as goal

pub returns-in-Serial-clause-closed : goal.returns-in-Serial-clause-closed
returns-in-Serial-clause-closed g c = c.serve_alone.ensures.closed c.args.mode

pub returns-in-Threads-clause-closed : goal.returns-in-Threads-clause-closed
returns-in-Threads-clause-closed g c =
    let of_file = g.F.StoreFile.state in
    let of_port = g.R.RpmbPort.state in
    let store = store_in c.args.keys.now of_file c.args.opening in
    let reliable = AreReliable g.E.Entropy.is_reliable c.args.sessions.items in
    let calls = c.args.calls.now in
    subst
    (λ (mode : Mode). IfOk c.serve_shared_once.result (λ x. ClosesStore reliable store (opening_state of_file of_port c.args.opening) mode calls (bench_state of_file of_port x.bench) x.history.events))
    (sym c.in-Threads.is)
    (IfOk-weaker c.serve_shared_once.result
    (λ x. ClosesShared reliable store (opening_devices of_file of_port c.args.opening) calls (files_of of_file x.bench.files.items) (of_port x.bench.card) x.history.events)
    (λ x. ClosesStore reliable store (opening_state of_file of_port c.args.opening) Threads calls (bench_state of_file of_port x.bench) x.history.events)
    (λ x closes. shared_closes of_file of_port reliable store c.args.opening calls (bench_state of_file of_port x.bench) x.history.events closes) c.serve_shared_once.ensures.closed)

pub returns-in-Serial-clause-early : goal.returns-in-Serial-clause-early
returns-in-Serial-clause-early g c =
    let of_file = g.F.StoreFile.state in
    let of_port = g.R.RpmbPort.state in
    let before = opening_state of_file of_port c.args.opening in
    subst (λ (mode : Mode). IfErr c.serve_alone.result (λ b. ClosesEarly (store_in c.args.keys.now of_file c.args.opening) before mode c.args.calls.now (bench_state of_file of_port b)))
    (sym c.in-Serial.is) c.serve_alone.ensures.early

pub returns-in-Threads-clause-early : goal.returns-in-Threads-clause-early
returns-in-Threads-clause-early g c =
    let of_file = g.F.StoreFile.state in
    let of_port = g.R.RpmbPort.state in
    let before = opening_state of_file of_port c.args.opening in
    subst (λ (mode : Mode). IfErr c.serve_shared_once.result (λ b. ClosesEarly (store_in c.args.keys.now of_file c.args.opening) before mode c.args.calls.now (bench_state of_file of_port b)))
    (sym c.in-Threads.is) c.serve_shared_once.ensures.early
