use Rattle.std.proofs.Common.{◌∙◌, ℕ, get_or, ap, sym}
use Rattle.disk_model.specs.Bytes.{after_mask}
use Rattle.disk_model.specs.Controls.{settled_as}
use Rattle.disk_model.specs.State.{FileState}
use Rattle.object_calls.proofs.Files.{files_else, files_get, files_here}
use Rattle.run_acts.proofs.alterations.flip_one.Goals as goal

pub returns-clause-here : goal.returns-clause-here
returns-clause-here g c =
    let state = g.F.StoreFile.state in
    let files = c.args.files.now in
    let n = c.args.file in
    let x = get_or files n c.index-files-file.result in
    files_here state files n c.flip.new.self c.requires ∙ c.flip.ensures
    ∙ ap (λ (s : FileState). settled_as s (after_mask s.reads c.args.at c.args.mask.now)) (sym (files_get state files n x c.requires (ap (λ v. get_or files n v) c.index-files-file.is)))

pub returns-clause-others : goal.returns-clause-others
returns-clause-others g c = λ (k : ℕ) ne. files_else g.F.StoreFile.state c.args.files.now c.args.file k c.flip.new.self ne
