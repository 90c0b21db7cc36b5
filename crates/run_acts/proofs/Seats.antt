-- The sessions of a store behind a call of one of them.
use Rattle.std.proofs.Common.{◌≡◌, ◌<◌, ℕ, List, length, get_or, refl, sym, ap, ◌∙◌, subst, inl, inr}
use Rattle.std.specs.Prelude.{slice_set}
use Rattle.std.proofs.lemmas.Bool.{cases_eq}
use Rattle.std.proofs.lemmas.List.{get_or-set_other, get_or-set_same, get_or_default, length-set}
use Rattle.core_laws.specs.Stores.{Store}
use Rattle.quota_store.specs.CallerSessions.{CallerSession, IsCallerOf}
use Rattle.object_calls.specs.OpeningSessions.{AreSeated}
use Rattle.run_acts.specs.Reliable.{StayReliable}

module _ {E : Type 0} (was : List (CallerSession E)) (app : ℕ) (within : app < length was) (after : CallerSession E) where
  -- what holds of the session as it is, and of each other one, holds of each
  pub each_with : (P : ℕ → CallerSession E → Type 0) → P app after → ((i : ℕ) (d : CallerSession E) → i < length was → P i (get_or was i d))
      → (i : ℕ) (d : CallerSession E) → i < length was → P i (get_or (slice_set was app after) i d)
  each_with P here others i d below = elim (cases_eq i app) [
    | inl same ↦ subst (λ k. P k (get_or (slice_set was app after) k d)) (sym same) (subst (P app) (sym (get_or-set_same was app after d within)) here)
    | inr other ↦ subst (P i) (sym (get_or-set_other was app i after d other)) (others i d below)
  ]

  pub seated_with : (store : Store) → AreSeated store was → IsCallerOf store after → after.number ≡ app → AreSeated store (slice_set was app after)
  seated_with store seated whole number =
      let many : length (slice_set was app after) ≡ length was = length-set was app after in record {
        many = many ∙ seated.many;
        each = λ i d below. each_with (λ k s. IsCallerOf store s) whole seated.each i d (subst (λ n. i < n) many below);
        numbered = λ i d below. each_with (λ k s. s.number ≡ k) number seated.numbered i d (subst (λ n. i < n) many below);
      }

  -- the caller's entropy may have changed, and every other session is as it was
  pub reliable_with : (is_reliable : E → Type 0) (draws : E → ℕ) (found : CallerSession E) → (is_reliable (get_or was app found).entropy → is_reliable after.entropy)
      → (is_reliable (get_or was app found).entropy → draws after.entropy ≡ draws (get_or was app found).entropy) → StayReliable is_reliable draws was (slice_set was app after)
  reliable_with is_reliable draws found lasts still session d below = elim (cases_eq session app) [
    | inl same ↦
        let first : get_or was session d ≡ get_or was app found = ap (λ k. get_or was k d) same ∙ get_or_default was app d found within in
        let last : get_or (slice_set was app after) session d ≡ after = ap (λ k. get_or (slice_set was app after) k d) same ∙ get_or-set_same was app after d within in
        subst (λ (s : CallerSession E). is_reliable s.entropy → is_reliable (get_or (slice_set was app after) session d).entropy × (draws (get_or (slice_set was app after) session d).entropy ≡ draws s.entropy)) (sym first)
        (subst (λ (s : CallerSession E). is_reliable (get_or was app found).entropy → is_reliable s.entropy × (draws s.entropy ≡ draws (get_or was app found).entropy)) (sym last)
        (λ reliable. (lasts reliable, still reliable)))
    | inr other ↦
        subst (λ (s : CallerSession E). is_reliable (get_or was session d).entropy → is_reliable s.entropy × (draws s.entropy ≡ draws (get_or was session d).entropy))
        (sym (get_or-set_other was app session after d other)) (λ reliable. (reliable, refl))
  ]

pub StayReliable-none : {E : Type 0} (is_reliable : E → Type 0) (draws : E → ℕ) (sessions : List (CallerSession E)) → StayReliable is_reliable draws sessions sessions
StayReliable-none is_reliable draws sessions session d below reliable = (reliable, refl)

pub StayReliable-then : {E : Type 0} (is_reliable : E → Type 0) (draws : E → ℕ) (was between now : List (CallerSession E)) → length between ≡ length was
    → StayReliable is_reliable draws was between → StayReliable is_reliable draws between now → StayReliable is_reliable draws was now
StayReliable-then is_reliable draws was between now many first then session d below reliable =
    let middle = first session d below reliable in
    let last = then session d (subst (λ n. session < n) (sym many) below) middle.0 in
    (last.0, last.1 ∙ middle.1)
