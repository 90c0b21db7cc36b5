use Rattle.std.proofs.Common.{◌≡◌, ◌∙◌, ℕ, get_or, ap, sym}
use Rattle.std.specs.Prelude.{slice_set}
use Rattle.disk_model.specs.Controls.{renamed_as}
use Rattle.disk_model.specs.State.{FileState}
use Rattle.object_calls.specs.OpeningFiles.{files_of}
use Rattle.object_calls.proofs.Files.{files_else, files_get, files_here}
use Rattle.object_calls.proofs.Rearming.{on_err, on_ok}
use Rattle.run_acts.proofs.alterations.restore_one.Goals as goal

pub returns-clause-here : goal.returns-clause-here
returns-clause-here g c =
    let state = g.F.StoreFile.state in
    let files = c.args.files.now in
    let n = c.args.file in
    let x = get_or files n c.index-files-file.result in
    let y = c.restore.new.self in
    on_ok c.restore.result (state y ≡ renamed_as (state x) c.args.image.now)
    (files_of state (slice_set files n y) n ≡ renamed_as (files_of state files n) c.args.image.now)
    (λ restored. files_here state files n y c.requires ∙ restored
    ∙ ap (λ (s : FileState). renamed_as s c.args.image.now) (sym (files_get state files n x c.requires (ap (λ v. get_or files n v) c.index-files-file.is))))
    c.restore.ensures.restored

pub returns-clause-others : goal.returns-clause-others
returns-clause-others g c = λ (k : ℕ) ne. files_else g.F.StoreFile.state c.args.files.now c.args.file k c.restore.new.self ne

pub returns-clause-same : goal.returns-clause-same
returns-clause-same g c =
    let state = g.F.StoreFile.state in
    let files = c.args.files.now in
    let n = c.args.file in
    let x = get_or files n c.index-files-file.result in
    let y = c.restore.new.self in
    on_err c.restore.result (state y ≡ state x) (files_of state (slice_set files n y) n ≡ files_of state files n)
    (λ same. files_here state files n y c.requires ∙ same ∙ sym (files_get state files n x c.requires (ap (λ v. get_or files n v) c.index-files-file.is)))
    c.restore.ensures.refused
