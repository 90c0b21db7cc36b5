-- Sessions that draw from what they drew from.
use Rattle.std.proofs.Common.{◌≡◌, ◌∙◌, ◌<◌, ℕ, List, length, sym, ap, subst}
use Rattle.quota_store.specs.CallerSessions.{CallerSession}
use Rattle.object_calls.specs.OpeningSessions.{DrawAlike}
use Rattle.run_acts.specs.Reliable.{AreFresh, AreReliable}

module _ {E : Type 0} where
  pub fresh_alike : (draws : E → ℕ) (was now : List (CallerSession E)) → length now ≡ length was → DrawAlike was now → AreFresh draws was → AreFresh draws now
  fresh_alike draws was now many alike fresh i d within = ap draws (alike i d) ∙ fresh i d (subst (λ (n : ℕ). i < n) many within)

  pub reliable_alike : (is_reliable : E → Type 0) (was now : List (CallerSession E)) → length now ≡ length was → DrawAlike was now → AreReliable is_reliable was → AreReliable is_reliable now
  reliable_alike is_reliable was now many alike reliable i d within = subst is_reliable (sym (alike i d)) (reliable i d (subst (λ (n : ℕ). i < n) many within))
