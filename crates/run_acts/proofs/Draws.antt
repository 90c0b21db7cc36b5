-- What the replies to a session carry for a generator that had counted no fault before.
use Rattle.std.proofs.Common.{◌≡◌, ◌∙◌, ◌<◌, ℕ, List, [], ◌∷◌, ◌++◌, length, slice_index_or, sym, subst, inl, inr, arith}
use Rattle.std.proofs.lemmas.Bool.{cases_eq}
use Rattle.std.proofs.lemmas.List.{get_or_append_left, get_or_push, length_push}
use Rattle.quota_store.specs.CallerSessions.{CallerSession}
use Rattle.quota_store.specs.DeviceCounts.{Rise}
use Rattle.quota_store.proofs.Rises.{Rise-still}
use Rattle.run_acts.specs.Reliable.{AreFresh, AreReliable}

module _ {E : Type 0} where
  pub drawn_from_0 : (draws : E → ℕ) (was now : List (CallerSession E)) (session : ℕ) (counts : List ℕ) → session < length was → AreFresh draws was
      → ((d : CallerSession E) → Rise (draws (slice_index_or was session d).entropy) (draws (slice_index_or now session d).entropy) counts) → (last : ℕ) × Rise 0 last counts
  drawn_from_0 draws [] now session counts within fresh rise = absurd (omega (arith, within))
  drawn_from_0 draws (s ∷ was) now session counts within fresh rise =
      (draws (slice_index_or now session s).entropy, subst (λ (n : ℕ). Rise n (draws (slice_index_or now session s).entropy) counts) (fresh session s within) (rise s))

  pub undrawn_from_0 : (is_reliable : E → Type 0) (draws : E → ℕ) (was now : List (CallerSession E)) (session : ℕ) (counts : List ℕ) → session < length was → AreFresh draws was
      → AreReliable is_reliable was
      → ((d : CallerSession E) → is_reliable (slice_index_or was session d).entropy
      → is_reliable (slice_index_or now session d).entropy × (draws (slice_index_or now session d).entropy ≡ draws (slice_index_or was session d).entropy))
      → ((d : CallerSession E) → Rise (draws (slice_index_or was session d).entropy) (draws (slice_index_or now session d).entropy) counts) → counts ≡ []
  undrawn_from_0 is_reliable draws [] now session counts within fresh reliable stay rise = absurd (omega (arith, within))
  undrawn_from_0 is_reliable draws (s ∷ was) now session counts within fresh reliable stay rise =
      let first : draws (slice_index_or (s ∷ was) session s).entropy ≡ 0 = fresh session s within in
      let last : draws (slice_index_or now session s).entropy ≡ 0 = (stay s (reliable session s within)).1 ∙ first in
      Rise-still 0 counts (omega arith) (subst (λ (p : ℕ × ℕ). Rise p.0 p.1 counts) (λ i. (first i, last i)) (rise s))

  -- what holds of the generators of sessions, and of one more
  pub entropies_push : (P : E → Type 0) (sessions : List (CallerSession E)) (session : CallerSession E) → ((i : ℕ) (d : CallerSession E) → i < length sessions → P (slice_index_or sessions i d).entropy)
      → P session.entropy → (i : ℕ) (d : CallerSession E) → i < length (sessions ++ session ∷ []) → P (slice_index_or (sessions ++ session ∷ []) i d).entropy
  entropies_push P sessions session each last i d within = elim (cases_eq i (length sessions)) [
    | inl here ↦ subst (λ (x : CallerSession E). P x.entropy) (sym (get_or_push sessions session d i (sym here))) last
    | inr other ↦
        let below : i < length sessions = omega (arith, within, other, length_push sessions session) in
        subst (λ (x : CallerSession E). P x.entropy) (sym (get_or_append_left sessions (session ∷ []) d i below)) (each i d below)
  ]
