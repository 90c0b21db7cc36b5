-- Files by their places in a list.
use Rattle.std.proofs.Common.{◌≡◌, ◌≢◌, ◌<◌, ℕ, zero, suc, List, [], ◌∷◌, length, get_or, refl, sym, ap, subst, arith}
use Rattle.std.specs.Prelude.{slice_set}
use Rattle.disk_model.specs.State.{FileState}
use Rattle.folder_export.specs.Folders.{states_of}

module _ {F : Type 0} (none : FileState) (state : F → FileState) where
  pub states_here : (files : List F) (i : ℕ) (f : F) → i < length files → states_of none state (slice_set files i f) i ≡ state f
  states_here [] i f lt = absurd (omega (arith, lt))
  states_here (x ∷ files) zero f lt = refl
  states_here (x ∷ files) (suc i) f lt = states_here files i f (omega (arith, lt))

  pub states_else : (files : List F) (i k : ℕ) (f : F) → k ≢ i → states_of none state (slice_set files i f) k ≡ states_of none state files k
  states_else [] i k f ne = refl
  states_else (x ∷ files) zero zero f ne = absurd (ne refl)
  states_else (x ∷ files) zero (suc k) f ne = refl
  states_else (x ∷ files) (suc i) zero f ne = refl
  states_else (x ∷ files) (suc i) (suc k) f ne = states_else files i k f (λ e. let s : suc k ≡ suc i = ap suc e in ne s)

  pub states_get : (files : List F) (i : ℕ) (f : F) → i < length files → f ≡ get_or files i f → states_of none state files i ≡ state f
  states_get [] i f lt is = absurd (omega (arith, lt))
  states_get (x ∷ files) zero f lt is = ap state (sym is)
  states_get (x ∷ files) (suc i) f lt is = states_get files i f (omega (arith, lt)) is

  -- what holds of a file that changed, by its place
  pub states_at : (P : FileState → FileState → Type 0) (files : List F) (i : ℕ) (was now : F) → i < length files → was ≡ get_or files i was → P (state was) (state now)
      → P (states_of none state files i) (states_of none state (slice_set files i now) i)
  states_at P files i was now lt is changed =
      subst (λ (s : FileState). P s (states_of none state (slice_set files i now) i)) (sym (states_get files i was lt is))
      (subst (λ (s : FileState). P (state was) s) (sym (states_here files i now lt)) changed)

  -- what holds of a file that changed, and of each that did not, holds of all
  pub states_each : (P : FileState → FileState → Type 0) → ((s : FileState) → P s s) → (files : List F) (i : ℕ) (was now : F) → was ≡ get_or files i was → P (state was) (state now)
      → (k : ℕ) → P (states_of none state files k) (states_of none state (slice_set files i now) k)
  states_each P same [] i was now is changed k = same none
  states_each P same (x ∷ files) zero was now is changed zero = subst (λ (f : F). P (state f) (state now)) is changed
  states_each P same (x ∷ files) zero was now is changed (suc k) = same (states_of none state files k)
  states_each P same (x ∷ files) (suc i) was now is changed zero = same (state x)
  states_each P same (x ∷ files) (suc i) was now is changed (suc k) = states_each P same files i was now is changed k
