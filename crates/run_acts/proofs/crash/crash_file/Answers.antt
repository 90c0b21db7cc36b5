use Rattle.std.proofs.Common.{◌≡◌, ◌∙◌, ℕ, get_or, ap, sym}
use Rattle.std.specs.Prelude.{slice_set}
use Rattle.disk_model.specs.Controls.{renamed_as}
use Rattle.disk_model.specs.State.{FileState}
use Rattle.object_calls.specs.OpeningFiles.{files_of}
use Rattle.object_calls.proofs.Files.{files_else, files_get, files_here}
use Rattle.object_calls.proofs.Rearming.{on_err, on_ok}
use Rattle.run_acts.specs.Crashes.{CrashesFile}
use Rattle.run_acts.proofs.crash.crash_file.Goals as goal

pub returns-clause-here : goal.returns-clause-here
returns-clause-here g c =
    let state = g.F.StoreFile.state in
    let image = g.F.FileRig.crash_image in
    let files = c.args.files.now in
    let n = c.args.file in
    let x = get_or files n c.index-files-file.result in
    let y = c.crash.new.self in
    on_ok c.crash.result (state y ≡ renamed_as (state x) (image (state x) c.args.seed n))
    (CrashesFile image c.args.seed (files_of state files n) (files_of state (slice_set files n y) n) n)
    (λ crashed. files_here state files n y c.requires ∙ crashed
    ∙ ap (λ (s : FileState). renamed_as s (image s c.args.seed n)) (sym (files_get state files n x c.requires (ap (λ v. get_or files n v) c.index-files-file.is))))
    c.crash.ensures.crashed

pub returns-clause-others : goal.returns-clause-others
returns-clause-others g c = λ (k : ℕ) ne. files_else g.F.StoreFile.state c.args.files.now c.args.file k c.crash.new.self ne

pub returns-clause-same : goal.returns-clause-same
returns-clause-same g c =
    let state = g.F.StoreFile.state in
    let files = c.args.files.now in
    let n = c.args.file in
    let x = get_or files n c.index-files-file.result in
    let y = c.crash.new.self in
    on_err c.crash.result (state y ≡ state x) (files_of state (slice_set files n y) n ≡ files_of state files n)
    (λ same. files_here state files n y c.requires ∙ same ∙ sym (files_get state files n x c.requires (ap (λ v. get_or files n v) c.index-files-file.is)))
    c.crash.ensures.refused
