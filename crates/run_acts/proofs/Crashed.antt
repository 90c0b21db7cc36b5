-- Files that crash one after another.
use Rattle.std.proofs.Common.{◌≡◌, ◌≢◌, ◌∙◌, ◌+◌, ◌<◌, ◌≤◌, ℕ, zero, suc, List, [], ◌∷◌, length, refl, subst, inl, inr, arith}
use Rattle.std.proofs.lemmas.Bool.{cases_lt}
use Rattle.disk_model.specs.State.{FileState, LeftNow}
use Rattle.object_calls.specs.OpeningFiles.{files_of}
use Rattle.run_acts.specs.Crashes.{CrashesBelow, CrashesFile}

-- what holds of each file holds of the one at a place
pub at_place : {F : Type 0} (state : F → FileState) (P : FileState → Type 0) → ((f : F) → P (state f)) → (files : List F) (k : ℕ) → k < length files → P (files_of state files k)
at_place state P all [] k lt = absurd (omega (arith, lt))
at_place state P all (f ∷ files) zero lt = all f
at_place state P all (f ∷ files) (suc k) lt = at_place state P all files k (omega (arith, lt))

module _ (image : FileState → ℕ → ℕ → List ℕ) (seed : ℕ) where
  pub none_crashed : (files : ℕ → FileState) → CrashesBelow image seed 0 files files
  none_crashed files = record { each = λ file lt. absurd (omega (arith, lt)); left = λ file lt. absurd (omega (arith, lt)); others = λ file le. refl }

  pub next_crashed : (i : ℕ) (old new next : ℕ → FileState) → CrashesBelow image seed i old new → CrashesFile image seed (new i) (next i) i
      → ((k : ℕ) → k ≢ i → next k ≡ new k) → LeftNow (old i) (image (old i) seed i) → CrashesBelow image seed (i + 1) old next
  next_crashed i old new next below here others left = record {
    each = each;
    left = left_at;
    others = λ file le. others file (λ e. omega (arith, le, e)) ∙ below.others file (omega (arith, le));
  } where
    each_at : (file : ℕ) → file < i + 1 → CrashesFile image seed (old file) (next file) file
    each_at file lt = elim (cases_lt file i) [
      | inl low ↦ others file (λ e. omega (arith, low, e)) ∙ below.each file low
      | inr high ↦
          let is : i ≡ file = omega (arith, lt, high) in
          subst (λ (k : ℕ). CrashesFile image seed (old k) (next k) k) is
          (subst (λ (s : FileState). CrashesFile image seed s (next i) i) (below.others i (omega arith)) here)
    ]

    each : (file : ℕ) → file < i + 1 → CrashesFile image seed (old file) (next file) file
    each = each_at

    left_at : (file : ℕ) → file < i + 1 → LeftNow (old file) (image (old file) seed file)
    left_at file lt = elim (cases_lt file i) [
      | inl low ↦ below.left file low
      | inr high ↦ let is : i ≡ file = omega (arith, lt, high) in subst (λ (k : ℕ). LeftNow (old k) (image (old k) seed k)) is left
    ]

  -- the file behind those that took their images is as it was
  pub stopped_crashed : (i : ℕ) (old new next : ℕ → FileState) → CrashesBelow image seed i old new → next i ≡ new i → ((k : ℕ) → k ≢ i → next k ≡ new k) → CrashesBelow image seed i old next
  stopped_crashed i old new next below here others = record {
    each = λ file lt. others file (λ e. omega (arith, lt, e)) ∙ below.each file lt;
    left = below.left;
    others = behind;
  } where
    behind : (file : ℕ) → i ≤ file → next file ≡ old file
    behind file le = elim (cases_lt i file) [
      | inl low ↦ others file (λ e. omega (arith, low, e)) ∙ below.others file le
      | inr high ↦
          let is : i ≡ file = omega (arith, le, high) in
          subst (λ (k : ℕ). next k ≡ old k) is (here ∙ below.others i (omega arith))
    ]
