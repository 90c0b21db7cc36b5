-- Lists of sessions with one set, and the numbers of their handles.
use Rattle.std.proofs.Common.{◌≡◌, ◌≢◌, ◌<◌, ◌⊎◌, ℕ, zero, suc, List, [], ◌∷◌, length, slice_index_or, slice_set, Some, inl, inr, refl, ap, arith}
use Rattle.std.proofs.lemmas.Bool.{cases_eq}
use Rattle.std.proofs.lemmas.List.{get_or-set_other}
use Rattle.std.proofs.lemmas.Grind.{get_or-set_at}
use Rattle.store_model.specs.declared.session.Handle.{Handle}
use Rattle.store_model.specs.Machine.{Session, handle_at, new_session}

-- a session of the list is the one that was set, or stays
pub set-cases : (sessions : List Session) (i k : ℕ) (x d : Session)
    → ((k ≡ i) × (slice_index_or (slice_set sessions i x) k d ≡ x)) ⊎ (slice_index_or (slice_set sessions i x) k d ≡ slice_index_or sessions k d)
set-cases [] i k x d = inr refl
set-cases (y ∷ sessions) zero zero x d = inl (refl, refl)
set-cases (y ∷ sessions) zero (suc k) x d = inr refl
set-cases (y ∷ sessions) (suc i) zero x d = inr refl
set-cases (y ∷ sessions) (suc i) (suc k) x d = elim (set-cases sessions i k x d) [
  | inl set_ ↦ inl (ap suc set_.0, set_.1)
  | inr old ↦ inr old
]

-- where there is such a session, exactly that one is set
pub set-in : (sessions : List Session) (i k : ℕ) (x d : Session) → i < length sessions
    → ((k ≡ i) × (slice_index_or (slice_set sessions i x) k d ≡ x)) ⊎ ((k ≢ i) × (slice_index_or (slice_set sessions i x) k d ≡ slice_index_or sessions k d))
set-in sessions i k x d within = elim (cases_eq k i) [
  | inl same ↦ inl (same, get_or-set_at sessions i k x d same within)
  | inr other ↦ inr (other, get_or-set_other sessions i k x d other)
]

-- a live handle is one of a session that there is
pub live-within : (sessions : List Session) (i number : ℕ) (h : Handle) → handle_at (slice_index_or sessions i (new_session [])) number ≡ Some h → i < length sessions
live-within [] i number h live = absurd (cc (live))
live-within (y ∷ sessions) zero number h live = omega arith
live-within (y ∷ sessions) (suc i) number h live = omega (arith, live-within sessions i number h live)
