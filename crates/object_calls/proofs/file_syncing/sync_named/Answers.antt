use Rattle.std.proofs.Common.{◌+◌, ◌∙◌, sym, subst}
use Rattle.std.proofs.lemmas.Result.{err_from_is_err_and}
use Rattle.object_calls.specs.OpeningFiles.{object_files}
use Rattle.object_calls.specs.Syncing.{SyncsNamed}
use Rattle.object_calls.proofs.EntriesOf.{file_not_directory, form_at}
use Rattle.object_calls.proofs.Files.{objects_sound}
use Rattle.object_calls.proofs.Syncs.{synced_free, synced_next, synced_stops}
use Rattle.object_calls.proofs.file_syncing.sync_named.Goals as goal
use Rattle.object_calls.proofs.file_syncing.sync_named.Goals.{in-Some+in_ok-sync_file, in_default}

pub returns-in_err-sync_file : goal.returns-in_err-sync_file
returns-in_err-sync_file g c =
    let state = g.F.StoreFile.state in
    let entries = c.args.gate.now.dir.dir.entries in
    let i = c.loop-index.index in
    let e = c.in-Some.entry in
    let form = form_at entries c.requires.entries i e (sym c.in-Some.ensures) in
    let p = err_from_is_err_and c.from_residual.result c.from_residual.ensures.1 in
    rw (p.1, p.2) (synced_stops entries i (object_files state c.args.files.now) (object_files state c.loop-index.files) c.loop-index.invariant (object_files state c.sync_file.new.files)
    (objects_sound state g.met.F.StoreFile.sound c.loop-index.files) (file_not_directory entries c.requires.entries)
    e.file (Unit {0}) c.in_err-sync_file.field-0.0 form.file.0 form.file.1 c.in_err-sync_file.ensures)

pub loop-index-preserved : goal.loop-index-preserved
loop-index-preserved g c =
    let state = g.F.StoreFile.state in
    let entries = c.args.gate.now.dir.dir.entries in
    let i = c.loop-index.index in
    elim c.match-entry.branch [
      | in-Some+in_ok-sync_file w ↦
          subst (λ files. SyncsNamed entries (i + 1) (object_files state c.args.files.now) (object_files state files)) (sym w.files-is)
          (synced_next entries i (object_files state c.args.files.now) (object_files state c.loop-index.files) c.loop-index.invariant (object_files state w.sync_file.new.files)
          (objects_sound state g.met.F.StoreFile.sound c.loop-index.files) (file_not_directory entries c.requires.entries)
          w.in-Some.entry (Unit {0}) tt (sym w.in-Some.ensures) w.in_ok-sync_file.ensures)
      | in_default w ↦
          subst (λ files. SyncsNamed entries (i + 1) (object_files state c.args.files.now) (object_files state files)) (sym w.files-is)
          (synced_free entries i (object_files state c.args.files.now) (object_files state c.loop-index.files) c.loop-index.invariant (sym c.entry.ensures ∙ w.in_default.is))
    ]
