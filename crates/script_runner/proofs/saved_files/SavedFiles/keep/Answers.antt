use Rattle.std.proofs.Common.{◌∙◌, ap, List, ℕ}
use Rattle.std.specs.Prelude.{slice_get}
use Rattle.script_runner.specs.SavedFiles.{saved_in, with_saved}
use Rattle.script_runner.proofs.SavedMaps.{saved-insert}
use Rattle.script_runner.proofs.saved_files.SavedFiles.keep.Goals as goal

pub returns : goal.returns
returns c =
    let entries = c.args.self.now.kept.entries in
    ap saved_in c.in_ok-insert.ensures.entries
    ∙ saved-insert entries c.in_ok-from_slice.field-0 c.args.images
    ∙ ap (λ (m : List ℕ). with_saved (saved_in entries) m (slice_get c.args.images.items)) c.in_ok-from_slice.ensures.items
