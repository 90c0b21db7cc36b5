use Rattle.std.proofs.Common.{refl}
use Rattle.object_calls.specs.OpeningFiles.{files_of}
use Rattle.object_calls.specs.OpenedStores.{store_in}
use Rattle.script_text.specs.declared.script.Mode.TheVariants.{Threads}
use Rattle.std.proofs.lemmas.Result.{IfOk-weaker}
use Rattle.run_acts.specs.Benches.{bench_state, opening_state}
use Rattle.run_acts.specs.QuotaClosing.{ClosesSharedWithin, ClosesWithin}
use Rattle.run_acts.specs.Reliable.{AreReliable}
use Rattle.run_acts.specs.Sharing.{opening_devices}
use Rattle.run_acts.proofs.SharedClosings.{shared_within}
use Rattle.run_acts.proofs.quota_threads.serve_shared_within_once.Goals as goal

pub serve_shared_within-requires-clause-store : goal.serve_shared_within-requires-clause-store
serve_shared_within-requires-clause-store g c κs within = record { keyed = c.requires.keyed; is = refl }

pub returns-clause-closed : goal.returns-clause-closed
returns-clause-closed g c =
    let of_file = g.F.StoreFile.state in
    let of_port = g.R.RpmbPort.state in
    let store = store_in c.args.keys.now of_file c.args.opening in
    let reliable = AreReliable g.E.Entropy.is_reliable c.args.sessions.items in
    IfOk-weaker c.serve_shared_within.result
    (λ x. ClosesSharedWithin reliable store c.args.quotas.now (opening_devices of_file of_port c.args.opening) c.args.calls.now (files_of of_file x.closed.bench.files.items) (of_port x.closed.bench.card)
    x.closed.history.events x.refused.items)
    (λ x. ClosesWithin reliable store c.args.quotas.now (opening_state of_file of_port c.args.opening) Threads c.args.calls.now (bench_state of_file of_port x.closed.bench) x.closed.history.events x.refused.items)
    (λ x closes. shared_within of_file of_port reliable store c.args.opening c.args.quotas.now c.args.calls.now (bench_state of_file of_port x.closed.bench) x.closed.history.events x.refused.items closes)
    c.serve_shared_within.ensures.closed
