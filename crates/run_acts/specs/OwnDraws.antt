-- What a session's events tell of its entropy.
use Rattle.std.specs.Prelude.{ℕ, ◌≡◌, List}
use Rattle.store_model.specs.Record.{events_of}
use Rattle.quota_store.specs.CallerSessions.{CallerSession}
use Rattle.quota_store.specs.DeviceCounts.{Rise, draws_of}
use Rattle.run_acts.specs.Seen.{seen_by}

-- the counts that the session's events carry for its entropy in its view, in order
abbrev pub own_draws : {E : Type 0} → CallerSession E → List ℕ
own_draws s = draws_of s.number (events_of (seen_by s.pass))

-- Where the counts that were carried before lead from a first count to the entropy's, so do those that are carried now. Entropy that never
-- fails still never does, and counted no fault.
pub record HasDrawn {E : Type 0} (is_reliable : E → Type 0) (draws : E → ℕ) (was now : CallerSession E) : Type 0 where
  pub rises : (first : ℕ) → Rise first (draws was.entropy) (own_draws was) → Rise first (draws now.entropy) (own_draws now)
  pub steady : is_reliable was.entropy → is_reliable now.entropy × (draws now.entropy ≡ draws was.entropy)
