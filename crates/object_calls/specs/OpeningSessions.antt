-- The sessions of a store, before it is served and as it is.
use Rattle.std.specs.Prelude.{◌≡◌, ◌<◌, ◌≤◌, ℕ, List, [], length, None, slice_index_or}
use Rattle.store_model.specs.Machine.{new_session}
use Rattle.serial_calls.specs.CallerSessions.{CallerSession, IsCallerOf}
use Rattle.core_laws.specs.Stores.{Store}
use Rattle.object_calls.specs.declared.session.SessionFault.{SessionFault}
use Rattle.object_calls.specs.declared.session.SessionFault.TheVariants.{TooMany, NoMemory}

-- the session of an application as it begins, without its seat
abbrev pub unseated : {E : Type 0} → (number : ℕ) → (app : List ℕ) → E → CallerSession E
unseated number app entropy = record { pass = None; number = number; made = 0; state = new_session app; doubt = None; entropy = entropy }

-- A session is refused where there are sixteen, and for want of memory; its entropy is given back.
abbrev pub IsSessionRefused : {E : Type 0} → (count : ℕ) → E → SessionFault E → Type 0
IsSessionRefused count entropy (TooMany given) = (16 ≤ count) × (given ≡ entropy)
IsSessionRefused count entropy (NoMemory given) = (count < 16) × (given ≡ entropy)

-- Each application has its session, in order.
pub record AreUnseated {E : Type 0} (applications : List (List ℕ)) (sessions : List (CallerSession E)) : Type 0 where
  pub many : length sessions ≡ length applications
  pub each : (i : ℕ) (d : CallerSession E) → i < length sessions
      → slice_index_or sessions i d ≡ unseated i (slice_index_or applications i []) (slice_index_or sessions i d).entropy

-- each session is the store's
abbrev pub AreCallers : {E : Type 0} → Store → List (CallerSession E) → Type 0
AreCallers {E} store sessions = (i : ℕ) (d : CallerSession E) → i < length sessions → IsCallerOf store (slice_index_or sessions i d)

-- Each session is the store's, in order.
pub record AreSeated {E : Type 0} (store : Store) (sessions : List (CallerSession E)) : Type 0 where
  pub many : length sessions ≡ length store.mounted.applications
  pub each : AreCallers store sessions
  pub numbered : (i : ℕ) (d : CallerSession E) → i < length sessions → (slice_index_or sessions i d).number ≡ i

-- no session has an event
abbrev pub HaveNoEvents : {E : Type 0} → List (CallerSession E) → Type 0
HaveNoEvents {E} sessions = (i : ℕ) (d : CallerSession E) → i < length sessions → (slice_index_or sessions i d).made ≡ 0

-- each session draws from what it drew from
abbrev pub DrawAlike : {E : Type 0} → (was now : List (CallerSession E)) → Type 0
DrawAlike {E} was now = (i : ℕ) (d : CallerSession E) → (slice_index_or now i d).entropy ≡ (slice_index_or was i d).entropy
