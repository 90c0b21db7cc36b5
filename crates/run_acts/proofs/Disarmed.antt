-- Files that are disarmed one after another.
use Rattle.std.proofs.Common.{◌≡◌, ◌∙◌, ◌+◌, ◌<◌, ◌≤◌, ℕ, List, length, get_or, refl, sym, ap, inl, inr, arith}
use Rattle.std.specs.Prelude.{slice_set}
use Rattle.std.proofs.lemmas.Bool.{cases_eq, cases_lt}
use Rattle.disk_model.specs.Controls.{disarmed}
use Rattle.disk_model.specs.State.{FileState}
use Rattle.object_calls.specs.OpeningFiles.{files_of}
use Rattle.object_calls.proofs.Files.{files-past, files_else, files_get, files_here}

-- the files below that place were disarmed, and the others are as they were
pub record AreDisarmedBelow {F : Type 0} (state : F → FileState) (old new : List F) (count : ℕ) : Type 0 where
  pub many : length new ≡ length old
  pub before : (k : ℕ) → k < count → files_of state new k ≡ disarmed (files_of state old k)
  pub others : (k : ℕ) → count ≤ k → files_of state new k ≡ files_of state old k

module _ {F : Type 0} (state : F → FileState) (old : List F) where
  pub none_disarmed : AreDisarmedBelow state old old 0
  none_disarmed = record { many = refl; before = λ k below. absurd (omega (arith, below)); others = λ k from. refl }

  -- one more
  pub one_disarmed : (new : List F) (count : ℕ) (f g : F) → AreDisarmedBelow state old new count → count < length new → f ≡ get_or new count f → state g ≡ disarmed (state f)
      → (after : List F) → after ≡ slice_set new count g → length after ≡ length new → AreDisarmedBelow state old after (count + 1)
  one_disarmed new count f g s within is armed after after_is same = record {
    many = same ∙ s.many;
    before = λ k below. elim (cases_eq k count) [
      | inl here ↦
          ap (λ (l : List F). files_of state l k) after_is ∙ ap (files_of state (slice_set new count g)) here ∙ files_here state new count g within ∙ armed
          ∙ ap disarmed (sym (files_get state new count f within is) ∙ s.others count (omega arith) ∙ ap (files_of state old) (sym here))
      | inr other ↦ ap (λ (l : List F). files_of state l k) after_is ∙ files_else state new count k g other ∙ s.before k (omega (arith, below, other))
    ];
    others = λ k from.
        ap (λ (l : List F). files_of state l k) after_is ∙ files_else state new count k g (λ here. omega (arith, here, from)) ∙ s.others k (omega (arith, from));
  }

  -- there is nothing behind the last
  pub all_disarmed : (new : List F) (count : ℕ) → AreDisarmedBelow state old new count → length new ≤ count → (file : ℕ) → files_of state new file ≡ disarmed (files_of state old file)
  all_disarmed new count s whole file = elim (cases_lt file count) [
    | inl below ↦ s.before file below
    | inr from ↦
        files-past state new file (omega (arith, from, whole))
        ∙ ap disarmed (sym (files-past state old file (omega (arith, from, whole, s.many))))
  ]
