-- Entries of a directory: their forms, and that their names differ.
use Rattle.std.proofs.Common.{◌≡◌, ◌≢◌, ◌∙◌, ◌≤◌, ℕ, List, Option, Some, ap, subst}
use Rattle.std.specs.Prelude.{IfSome}
use Rattle.tee_types.specs.Limits.{directory_file}
use Rattle.tee_types.proofs.FileNumbers.{object_not_directory}
use Rattle.dir_records.specs.declared.entry.DirEntry.{DirEntry}
use Rattle.dir_records.specs.Form.{HasForm}
use Rattle.crash_core.specs.Entries.{first_double}
use Rattle.crash_core.specs.EntryLists.{AreDistinct, entry_at}
use Rattle.crash_core.proofs.Doubles.{below, names_distinct}
use Rattle.store_commit.specs.EntryForms.{AreEntriesOf}

pub form_at : (entries : List (Option DirEntry)) → AreEntriesOf entries → (index : ℕ) (e : DirEntry) → entry_at entries index ≡ Some e → HasForm e
form_at entries are index e at = subst (λ (o : Option DirEntry). IfSome o HasForm) at (are.forms index (below entries index e at))

pub file_from_one : (entries : List (Option DirEntry)) → AreEntriesOf entries → (index : ℕ) (e : DirEntry) → entry_at entries index ≡ Some e → 1 ≤ e.file
file_from_one entries are index e at = (form_at entries are index e at).file.0

pub file_not_directory : (entries : List (Option DirEntry)) → AreEntriesOf entries → (index : ℕ) (e : DirEntry) → entry_at entries index ≡ Some e → e.file ≢ directory_file
file_not_directory entries are index e at = let form = (form_at entries are index e at).file in object_not_directory e.file form.0 form.1

pub distinct_names : (entries : List (Option DirEntry)) → AreEntriesOf entries → AreDistinct entries
distinct_names entries are = names_distinct entries (ap (λ (n : ℕ). first_double entries 0 n) are.whole ∙ are.apart)
