use Rattle.std.proofs.Common.{◌≡◌, ◌⊎◌, ℕ, List, Option, Some, length, sym, ap, ◌∙◌, subst}
use Rattle.tee_ports.specs.Faults.{Rose}
use Rattle.run_acts.specs.OpeningFiles.{files_of}
use Rattle.run_acts.proofs.Files.{refilled}
use Rattle.run_acts.specs.Benches.{bench_state}
use Rattle.script_runner.specs.Exports.{RunsExport}
use Rattle.script_runner.specs.declared.forms.Form.{Form}
use Rattle.script_runner.specs.declared.forms.Form.TheVariants.{Soak}
use Rattle.script_runner.specs.Soaks.{RunsSoak}
use Rattle.script_runner.proofs.Exported.{export_completed}
use Rattle.script_runner.proofs.Wholes.{completed}
use Rattle.script_runner.proofs.top_call.run.Goals as goal

pub returns-in-Some-Run-clause-complete : goal.returns-in-Some-Run-clause-complete
returns-in-Some-Run-clause-complete g c = λ bytes script form printed short is source sink room.
    let x = c.run_source.ensures.run in
    completed _ _ _ _ _ _ _ c.run_source.result.status x.0 bytes script x.1 (λ ended rest left. (g.met.S.Source.told_end c.run_source.new.source rest left).0 ended) printed short is source sink room

pub returns-in-Some-Soak-clause-soak : goal.returns-in-Some-Soak-clause-soak
returns-in-Some-Soak-clause-soak g c = λ number form.
    let state = g.F.StoreFile.state in
    let port = g.R.RpmbPort.state in
    let e : ◌≡◌ {A = Option Form} (Some (Soak c.in-Some-Soak.number)) (Some (Soak number)) = ap Some (sym c.in-Some-Soak.field-0-is) ∙ sym c.in-Some-Soak.is ∙ c.form_of.ensures ∙ form in
    let same : c.in-Some-Soak.number ≡ number = cc in
    subst (λ (n : ℕ). RunsSoak state port g.F.FileRig.crash_image (g.E.Entropy.is_reliable c.args.entropy.now) c.args.keys.now n
    (g.E.Entropy.faults c.args.entropy.now) (g.E.Entropy.faults c.run_soak.new.entropy)
    (Rose (g.K.Sink.faults c.args.sink.now) (g.K.Sink.faults c.run_soak.new.sink) ⊎ g.K.Sink.is_full c.run_soak.new.sink) (g.K.Sink.held c.args.sink.now) (g.K.Sink.held c.run_soak.new.sink)
    (bench_state state port c.args.bench) (bench_state state port c.run_soak.result.bench) c.run_soak.result.status) same c.run_soak.ensures.soak

pub returns-in-Some-Export-clause-export : goal.returns-in-Some-Export-clause-export
returns-in-Some-Export-clause-export g c = λ form.
    let of_file = g.F.StoreFile.state in
    let of_port = g.R.RpmbPort.state in
    let of_folder = g.G.StoreFile.state in
    let ran = c.run_export in
    let folder = c.args.folder.now in
    let new : List g.row.G.Denot = ran.new.folder in
    let long : length folder.items ≡ folder.len = sym folder.ok.0 in
    let many : length new ≡ folder.len = ran.auto.folder ∙ c.deref_mut.ensures.len in
    let runs = λ (old given : List g.row.G.Denot).
    RunsExport of_file of_port g.F.FileRig.crash_image (g.E.Entropy.is_reliable c.args.entropy.now)
    (g.S.Source.left c.args.source.now) (g.S.Source.left ran.new.source) (g.K.Sink.held c.args.sink.now) (g.K.Sink.held ran.new.sink)
    (record {
      source_failed = Rose (g.S.Source.faults c.args.source.now) (g.S.Source.faults ran.new.source);
      source_ended = g.S.Source.has_ended ran.new.source;
      sink_failed = Rose (g.K.Sink.faults c.args.sink.now) (g.K.Sink.faults ran.new.sink);
      sink_full = g.K.Sink.is_full ran.new.sink;
    })
    (g.E.Entropy.faults c.args.entropy.now) (g.E.Entropy.faults ran.new.entropy) c.args.keys.now
    (bench_state of_file of_port c.args.bench) (bench_state of_file of_port ran.result.bench) (files_of of_folder old) (files_of of_folder given) ran.result.status in
    subst (λ (l : List g.row.G.Denot). runs folder.items l) (sym (refilled folder.len folder.items new long many))
    (subst (λ (l : List g.row.G.Denot). runs l new) c.deref_mut.ensures.value ran.ensures.export)

pub returns-in-Some-Export-clause-export_complete : goal.returns-in-Some-Export-clause-export_complete
returns-in-Some-Export-clause-export_complete g c = λ bytes script form printed short is source sink room.
    export_completed g.F.StoreFile.state g.R.RpmbPort.state g.F.FileRig.crash_image (g.E.Entropy.is_reliable c.args.entropy.now) _ _ _ _ _ _ _ c.args.keys.now _ _ _ _ c.run_export.result.status bytes script
    c.run_export.ensures.export (λ ended rest left. (g.met.S.Source.told_end c.run_export.new.source rest left).0 ended) printed short is source sink room
