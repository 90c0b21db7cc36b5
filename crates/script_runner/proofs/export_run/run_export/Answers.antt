use Rattle.std.proofs.Common.{◌⊎◌, refl}
use Rattle.tee_ports.specs.Faults.{Rose}
use Rattle.run_acts.specs.OpeningFiles.{files_of}
use Rattle.run_acts.specs.Benches.{bench_state}
use Rattle.script_runner.specs.Exports.{undone}
use Rattle.script_runner.proofs.Exported.{RunsExport-done}
use Rattle.script_runner.proofs.Loops.{failed-earlier}
use Rattle.script_runner.proofs.export_run.run_export.Goals as goal

pub returns-in-Done-clause-export : goal.returns-in-Done-clause-export
returns-in-Done-clause-export g c =
    let of_file = g.F.StoreFile.state in
    let of_port = g.R.RpmbPort.state in
    let of_folder = g.G.StoreFile.state in
    let counted = g.K.Sink.faults in
    let first = c.args.sink.now in
    let ran = c.run_source-status in
    let exports = c.export_bench in
    RunsExport-done of_file of_port g.F.FileRig.crash_image (g.E.Entropy.is_reliable c.args.entropy.now)
    (g.S.Source.left c.args.source.now) (g.S.Source.left ran.new.source) (g.K.Sink.held first) (g.K.Sink.held ran.new.sink) (g.K.Sink.held exports.new.sink)
    (record {
      source_failed = Rose (g.S.Source.faults c.args.source.now) (g.S.Source.faults ran.new.source);
      source_ended = g.S.Source.has_ended ran.new.source;
      sink_failed = Rose (counted first) (counted ran.new.sink);
      sink_full = g.K.Sink.is_full ran.new.sink;
    })
    (Rose (counted first) (counted exports.new.sink)) (g.K.Sink.is_full exports.new.sink)
    (Rose (counted ran.new.sink) (counted exports.new.sink) ⊎ g.K.Sink.is_full exports.new.sink)
    (g.E.Entropy.faults c.args.entropy.now) (g.E.Entropy.faults ran.new.entropy) (g.E.Entropy.faults exports.new.entropy) c.args.keys.now
    (bench_state of_file of_port c.args.bench) (bench_state of_file of_port ran.result.bench) (bench_state of_file of_port exports.result.bench)
    (files_of of_folder c.args.folder.now) (files_of of_folder exports.new.folder) ran.result.status exports.result.status
    c.in-Done.is ran.ensures.run
    (failed-earlier (counted first) (counted ran.new.sink) (counted exports.new.sink) (g.K.Sink.is_full exports.new.sink) ran.ensures.counted)
    exports.ensures.exports

pub returns-in_default-clause-export : goal.returns-in_default-clause-export
returns-in_default-clause-export g c = undone c.run_source-status.ensures.run c.in_default.not-Done refl
