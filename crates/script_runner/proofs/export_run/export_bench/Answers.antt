use Rattle.std.proofs.Common.{◌≡◌, ◌∙◌, List, length, refl, subst, sym}
use Rattle.run_acts.specs.OpeningFiles.{files_of}
use Rattle.run_acts.proofs.Files.{refilled}
use Rattle.run_acts.specs.Benches.{bench_state}
use Rattle.script_runner.specs.Exports.{CopiesFiles, copied}
use Rattle.script_runner.proofs.Exported.{ExportsBench-unread}
use Rattle.script_runner.proofs.export_run.export_bench.Goals as goal

pub returns-in-Ok-clause-exports : goal.returns-in-Ok-clause-exports
returns-in-Ok-clause-exports g c =
    let of_file = g.F.StoreFile.state in
    let of_folder = g.G.StoreFile.state in
    let read = c.in-Ok.read in
    let files = read.bench.files in
    let was : List g.row.F.Denot = c.deref_mut.result.now in
    let new : List g.row.F.Denot = c.copy_files-status.new.files in
    let long : length files.items ≡ files.len = sym files.ok.0 in
    let many : length new ≡ files.len = c.copy_files-status.auto.files ∙ c.deref_mut.ensures.len in
    let copies = λ (old given : List g.row.F.Denot).
    CopiesFiles (files_of of_file old) (files_of of_file given) (files_of of_folder c.args.folder.now) (files_of of_folder c.copy_files-status.new.folder) read.block c.copy_files-status.result in
    copied (record {
      block = read.block;
      between = bench_state of_file g.R.RpmbPort.state read.bench;
      reads = c.in-Ok.ensures.answer;
      undrawn = c.in-Ok.ensures.undrawn;
      card = refl;
      copies =
          subst (λ (l : List g.row.F.Denot). copies files.items l) (sym (refilled files.len files.items new long many))
          (subst (λ (l : List g.row.F.Denot). copies l new) c.deref_mut.ensures.value c.copy_files-status.ensures);
    }) refl

pub returns-in-Err-clause-exports : goal.returns-in-Err-clause-exports
returns-in-Err-clause-exports g c =
    let halted = c.in-Err.field-0 in
    ExportsBench-unread c.args.keys.now _ _ _ (bench_state g.F.StoreFile.state g.R.RpmbPort.state halted.bench) _ _ _ _ c.new.result.items halted.fault c.print_mount_refusal-status.result c.new.ensures.items
    c.in-Err.ensures.answer c.print_mount_refusal-status.ensures.prints
