use Rattle.std.proofs.Common.{◌⊎◌, ℕ, List, subst}
use Rattle.tee_ports.specs.Faults.{Rose}
use Rattle.run_acts.specs.Benches.{bench_state}
use Rattle.run_acts.specs.declared.MountFault.{MountFault}
use Rattle.script_runner.specs.Migrations.{PrintsBehind}
use Rattle.script_runner.specs.Prints.{PrintsRefusal}
use Rattle.script_runner.proofs.MigrationTexts.{runs_listed, runs_unlisted}
use Rattle.script_runner.proofs.migration_run.list_migrated.Goals as goal

pub returns-in-Ok-clause-lists : goal.returns-in-Ok-clause-lists
returns-in-Ok-clause-lists g c = λ handed directory moved is moves.
    let state = g.F.StoreFile.state in
    let port = g.R.RpmbPort.state in
    let drew : ℕ = g.E.Entropy.faults c.args.entropy.now in
    let draws : ℕ = g.E.Entropy.faults c.list_objects.new.entropy in
    let sink = c.print_listed-status.new.sink in
    let failed : Type 0 = Rose (g.K.Sink.faults c.args.sink.now) (g.K.Sink.faults sink) ⊎ g.K.Sink.is_full sink in
    let was = g.K.Sink.held c.args.sink.now in
    let now = g.K.Sink.held sink in
    let listed = c.in-Ok.ensures.lists in
    let status = c.print_listed-status.result in
    runs_listed state port c.args.keys.now drew draws failed was now handed (bench_state state port c.in-Ok.field-0.bench) (bench_state state port c.args.bench) directory moved c.args.kept.items is moves
    listed.0 c.in-Ok.field-0.lines.items listed.2 status
    (subst (λ (text : List ℕ). PrintsBehind failed was now c.args.kept.items text status) c.as_slice.ensures.value c.print_listed-status.ensures.prints)

pub returns-in-Err-clause-lists : goal.returns-in-Err-clause-lists
returns-in-Err-clause-lists g c = λ handed directory moved is moves.
    let state = g.F.StoreFile.state in
    let port = g.R.RpmbPort.state in
    let drew : ℕ = g.E.Entropy.faults c.args.entropy.now in
    let draws : ℕ = g.E.Entropy.faults c.list_objects.new.entropy in
    let sink = c.print_mount_refusal-status.new.sink in
    let failed : Type 0 = Rose (g.K.Sink.faults c.args.sink.now) (g.K.Sink.faults sink) ⊎ g.K.Sink.is_full sink in
    let halted = c.in-Err.field-0 in
    runs_unlisted state port c.args.keys.now drew draws failed (g.K.Sink.held c.args.sink.now) (g.K.Sink.held sink) handed (bench_state state port halted.bench) (bench_state state port c.args.bench)
    directory moved c.args.kept.items is moves halted.fault c.in-Err.ensures.refused c.print_mount_refusal-status.result
    (subst (λ (f : MountFault). PrintsRefusal failed (g.K.Sink.held c.args.sink.now) (g.K.Sink.held sink) c.args.kept.items f c.print_mount_refusal-status.result) c.told_behind-told.ensures
    c.print_mount_refusal-status.ensures.prints)
