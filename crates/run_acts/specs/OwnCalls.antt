-- The calls that a session makes of a phase's steps, and those that its view has.
use Rattle.std.specs.Prelude.{◌≡◌, ◌==◌, ◌+◌, ◌++◌, ◌<◌, ◌≤◌, ◌⊎◌, ℕ, Bool, List, length, slice_index_or}
use Rattle.tee_types.specs.declared.call.Call.{Call}
use Rattle.store_model.specs.History.{calls_of}
use Rattle.store_model.specs.Record.{events_of}
use Rattle.core_laws.specs.Stores.{Store}
use Rattle.quota_store.specs.CallerSessions.{CallerSession, IsCallerOf}
use Rattle.script_text.specs.declared.script.Step.{Step}
use Rattle.run_acts.specs.ServedSteps.{calls_in}
use Rattle.run_acts.specs.OwnDraws.{HasDrawn}
use Rattle.run_acts.specs.Seen.{seen_by}

-- the session's calls in its view, in order
abbrev pub own_calls : {E : Type 0} → CallerSession E → List Call
own_calls s = calls_of s.number (events_of (seen_by s.pass))

-- The session made these calls and no other: in its view they stand behind those that it had, in order.
pub record HasMade {E : Type 0} (is_reliable : E → Type 0) (draws : E → ℕ) (store : Store) (was now : CallerSession E) (calls : List Call) : Type 0 where
  pub caller : IsCallerOf store now
  pub number : now.number ≡ was.number
  pub made : now.made ≡ was.made + length calls
  pub calls_are : own_calls now ≡ own_calls was ++ calls
  pub drawn : HasDrawn is_reliable draws was now

-- Memory ran out before the session had made all of these calls: it made the first of them, and no other.
pub record HasStopped {E : Type 0} (store : Store) (was now : CallerSession E) (calls : List Call) : Type 0 where
  pub caller : IsCallerOf store now
  pub number : now.number ≡ was.number
  pub front : List Call
  pub rest : List Call
  pub cut : calls ≡ front ++ rest
  pub left : 1 ≤ length rest
  pub made : now.made ≡ was.made + length front
  pub calls_are : own_calls now ≡ own_calls was ++ front

-- Each session made the calls of its application among the steps, or memory ran out before it had.
abbrev pub HaveWorked : {E : Type 0} → (is_reliable : E → Type 0) → (draws : E → ℕ) → Store → List Step → (was now : List (CallerSession E)) → Type 0
HaveWorked {E} is_reliable draws store steps was now =
    (i : ℕ) (d : CallerSession E) → i < length was
    → HasMade is_reliable draws store (slice_index_or was i d) (slice_index_or now i d) (calls_in (slice_index_or was i d).number steps)
    ⊎ HasStopped store (slice_index_or was i d) (slice_index_or now i d) (calls_in (slice_index_or was i d).number steps)

-- the session has as many events as its application has calls among the steps
abbrev pub is_done : {E : Type 0} → List Step → CallerSession E → Bool
is_done steps s = s.made == length (calls_in s.number steps)
