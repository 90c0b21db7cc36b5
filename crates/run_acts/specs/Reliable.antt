-- What sessions draw from.
use Rattle.std.specs.Prelude.{ℕ, ◌≡◌, ◌<◌, List, length, slice_index_or}
use Rattle.quota_store.specs.CallerSessions.{CallerSession}

-- no generator of these sessions counted a fault yet
abbrev pub AreFresh : {E : Type 0} → (draws : E → ℕ) → List (CallerSession E) → Type 0
AreFresh {E} draws sessions = (i : ℕ) (d : CallerSession E) → i < length sessions → draws (slice_index_or sessions i d).entropy ≡ 0

-- none ever fails
abbrev pub AreReliable : {E : Type 0} → (is_reliable : E → Type 0) → List (CallerSession E) → Type 0
AreReliable {E} is_reliable sessions = (i : ℕ) (d : CallerSession E) → i < length sessions → is_reliable (slice_index_or sessions i d).entropy

-- Each session's entropy that never fails still never does, and counts no fault.
abbrev pub StayReliable : {E : Type 0} → (is_reliable : E → Type 0) → (draws : E → ℕ) → (was now : List (CallerSession E)) → Type 0
StayReliable {E} is_reliable draws was now =
    (session : ℕ) (d : CallerSession E) → session < length was → is_reliable (slice_index_or was session d).entropy
    → is_reliable (slice_index_or now session d).entropy × (draws (slice_index_or now session d).entropy ≡ draws (slice_index_or was session d).entropy)
