use Rattle.std.proofs.Common.{◌≡◌, ◌∙◌, ◌⊎◌, ◌++◌, ℕ, List, refl, ap, subst}
use Rattle.tee_ports.specs.Faults.{Rose}
use Rattle.script_text.specs.Text.{migration_line}
use Rattle.run_acts.specs.Benches.{bench_state}
use Rattle.script_runner.specs.Migrations.{RunsMigration}
use Rattle.script_runner.proofs.MigrationTexts.{runs_given_up, runs_starved}
use Rattle.script_runner.proofs.migration_run.run_migration.Goals as goal

pub returns-in-Ok-print_migration-clause-migrates : goal.returns-in-Ok-print_migration-clause-migrates
returns-in-Ok-print_migration-clause-migrates g c =
    let state = g.F.StoreFile.state in
    let port = g.R.RpmbPort.state in
    let draws : ℕ = g.E.Entropy.faults c.list_migrated.new.entropy in
    let sink = c.list_migrated.new.sink in
    let failed : Type 0 = Rose (g.K.Sink.faults c.args.sink.now) (g.K.Sink.faults sink) ⊎ g.K.Sink.is_full sink in
    let handed = bench_state state port c.args.bench in
    let line : List ℕ = migration_line c.in-Ok.field-0.directory c.in-Ok.field-0.objects in
    let kept : c.print_migration.new.out.items ≡ line = c.in-Ok-print_migration.ensures.ok ∙ ap (λ (text : List ℕ). text ++ line) c.new-kept.ensures.items in
    subst (λ (drew : ℕ). RunsMigration state port c.args.keys.now drew draws failed (g.K.Sink.held c.args.sink.now) (g.K.Sink.held sink) handed
    (bench_state state port c.list_migrated.result.bench) c.list_migrated.result.status) c.in-Ok.ensures.undrawn
    (c.list_migrated.ensures.lists handed c.in-Ok.field-0.directory c.in-Ok.field-0.objects kept c.in-Ok.ensures.moves)

pub returns-in-Err-print_migration-clause-migrates : goal.returns-in-Err-print_migration-clause-migrates
returns-in-Err-print_migration-clause-migrates g c =
    let state = g.F.StoreFile.state in
    let port = g.R.RpmbPort.state in
    let sink = c.args.sink.now in
    let held = g.K.Sink.held sink in
    runs_starved state port c.args.keys.now (g.E.Entropy.faults c.args.entropy.now) (g.E.Entropy.faults c.migrate_bench.new.entropy)
    (Rose (g.K.Sink.faults sink) (g.K.Sink.faults sink) ⊎ g.K.Sink.is_full sink) held held (bench_state state port c.args.bench) (bench_state state port c.in-Ok.field-0.bench)
    c.in-Ok.field-0.directory c.in-Ok.field-0.objects c.in-Ok.ensures.moves refl

pub returns-in-Err-clause-migrates : goal.returns-in-Err-clause-migrates
returns-in-Err-clause-migrates g c =
    let state = g.F.StoreFile.state in
    let port = g.R.RpmbPort.state in
    let sink = c.print_mount_refusal-status.new.sink in
    let halted = c.in-Err.field-0 in
    runs_given_up state port c.args.keys.now (g.E.Entropy.faults c.args.entropy.now) (g.E.Entropy.faults c.migrate_bench.new.entropy)
    (Rose (g.K.Sink.faults c.args.sink.now) (g.K.Sink.faults sink) ⊎ g.K.Sink.is_full sink) (g.K.Sink.held c.args.sink.now) (g.K.Sink.held sink)
    (bench_state state port c.args.bench) (bench_state state port halted.bench) c.new.result.items c.new.ensures.items halted.fault c.in-Err.ensures.refused
    c.print_mount_refusal-status.result c.print_mount_refusal-status.ensures.prints
