-- Files that were only read while objects were shown.
use Rattle.std.proofs.Common.{◌≡◌, ℕ, List, [], ◌∷◌, Option, Some, sym, subst, inl, inr}
use Rattle.std.proofs.lemmas.Bool.{cases_eq}
use Rattle.disk_model.specs.State.{FileState}
use Rattle.disk_model.specs.Calls.{Rests}
use Rattle.htree_file.specs.Answers.{FilePassed}
use Rattle.htree_file.proofs.Causes.{passed_none, passed_then, rests_none, rests_then}
use Rattle.dir_records.specs.declared.entry.DirEntry.{DirEntry}
use Rattle.store_model.specs.declared.name.ObjectName.{ObjectName}
use Rattle.object_calls.specs.Next.{ReadsOne}
use Rattle.run_acts.specs.ListedObjects.{ShownStep, ShowsAll, name_shown}

pub same_rests : (a b : FileState) → b ≡ a → Rests a b
same_rests a b same = subst (Rests a) (sym same) (rests_none a)

pub same_passed : (a b : FileState) → b ≡ a → FilePassed a b
same_passed a b same = subst (FilePassed a) (sym same) (passed_none a)

pub one_rests : (old new : ℕ → FileState) (n : ℕ) → ReadsOne old new n → (file : ℕ) → Rests (old file) (new file)
one_rests old new n reads file = elim (cases_eq file n) [
  | inl same ↦ subst (λ (k : ℕ). Rests (old k) (new k)) (sym same) reads.rests
  | inr other ↦ same_rests (old file) (new file) (reads.others file other)
]

pub one_passed : (old new : ℕ → FileState) (n : ℕ) → ReadsOne old new n → FilePassed (old n) (new n) → (file : ℕ) → FilePassed (old file) (new file)
one_passed old new n reads passed file = elim (cases_eq file n) [
  | inl same ↦ subst (λ (k : ℕ). FilePassed (old k) (new k)) (sym same) passed
  | inr other ↦ same_passed (old file) (new file) (reads.others file other)
]

module _ (entries : List (Option DirEntry)) (key : List ℕ) where
  pub shown_rests : (after : Option ObjectName) (files : ℕ → FileState) (steps : List ShownStep) (last : Option ObjectName) (left : ℕ → FileState)
      → ShowsAll entries key after files steps last left → (file : ℕ) → Rests (files file) (left file)
  shown_rests after files [] last left shows file = same_rests (files file) (left file) (shows.1 file)
  shown_rests after files (s ∷ steps) last left shows file =
      let shown = shows.0 in
      rests_then (files file) (s.files file) (left file) (one_rests files s.files (shown.entry).file shown.reads file)
      (shown_rests (Some (name_shown s.shown)) s.files steps last left shows.1 file)

  pub shown_passed : (after : Option ObjectName) (files : ℕ → FileState) (steps : List ShownStep) (last : Option ObjectName) (left : ℕ → FileState)
      → ShowsAll entries key after files steps last left → (file : ℕ) → FilePassed (files file) (left file)
  shown_passed after files [] last left shows file = same_passed (files file) (left file) (shows.1 file)
  shown_passed after files (s ∷ steps) last left shows file =
      let shown = shows.0 in
      passed_then (files file) (s.files file) (left file) (one_passed files s.files (shown.entry).file shown.reads shown.passed file)
      (shown_passed (Some (name_shown s.shown)) s.files steps last left shows.1 file)
