use Rattle.std.proofs.Common.{◌≡◌, ◌∙◌, map, sym}
use Rattle.run_acts.proofs.MemoryCounts.{fed_counts}
use Rattle.script_runner.proofs.ExportedFiles.{copies_done, copies_failed, copies_starved}
use Rattle.script_runner.proofs.export_run.copy_files.Goals as goal

pub returns-in-Ok-export_files : goal.returns-in-Ok-export_files
returns-in-Ok-export_files g c =
    copies_done g.F.StoreFile.state g.G.StoreFile.state c.args.files.now c.export_files.new.files c.args.folder.now c.export_files.new.folder c.args.block.now
    c.export_files.ensures.rests c.export_files.ensures.goes_on c.in-Ok-export_files.ensures.ok

pub returns-then-had_memory : goal.returns-then-had_memory
returns-then-had_memory g c =
    copies_failed g.F.StoreFile.state g.G.StoreFile.state c.args.files.now c.export_files.new.files c.args.folder.now c.export_files.new.folder c.args.block.now
    c.export_files.ensures.rests c.export_files.ensures.goes_on c.in-Err.fault c.in-Err.ensures.err
    (λ file. c.had_memory.ensures.with_memory c.args.files.now (c.deref.ensures.value ∙ c.in-Ok.ensures) c.if-had_memory.true file)

pub returns : goal.returns
returns g c =
    let state = g.F.StoreFile.state in
    let old = c.args.files.now in
    let new = c.export_files.new.files in
    copies_starved state g.G.StoreFile.state old new c.args.folder.now c.export_files.new.folder c.args.block.now
    c.export_files.ensures.rests c.export_files.ensures.goes_on c.in-Err.fault c.in-Err.ensures.err
    (λ had.
    let counted : c.deref.result.now ≡ map (λ (f : g.row.F.Denot). (state f).starved) old = c.deref.ensures.value ∙ c.in-Ok.ensures in
    let same = fed_counts state old new (sym c.export_files.auto.files) had ∙ sym counted in
    let yes = c.had_memory.ensures.same.1 same in
    cc)
