-- What holds of every legal history, and of every call of the machine.
use Rattle.std.specs.Prelude.{◌≡◌, ◌≢◌, ℕ, Bool, true, false, List, ◌++◌, length, Option, Some, Contains}
use Rattle.std.specs.Ordering.{is_lt}
use Rattle.tee_types.specs.declared.call.Call.{Call}
use Rattle.tee_types.specs.declared.reply.Reply.{Reply}
use Rattle.enumerators.specs.declared.cursor.Cursor.{Cursor}
use Rattle.enumerators.specs.declared.cursor.Cursor.TheVariants.{Idle, First, After}
use Rattle.store_model.specs.declared.name.ObjectName.{ObjectName}
use Rattle.store_model.specs.declared.event.Mark.TheVariants.{Unchanged}
use Rattle.store_model.specs.Name.{name_cmp}
use Rattle.store_model.specs.Object.{Object, ObjectMap}
use Rattle.store_model.specs.Sound.{IsObjectMap, IsCall}
use Rattle.store_model.specs.Machine.{MachineState, session_at}
use Rattle.store_model.specs.Calls.{reply_of, state_after, is_commit}
use Rattle.store_model.specs.Enumerating.{is_of, is_above, next_object}
use Rattle.store_model.specs.Record.{Record}
use Rattle.store_model.specs.ReplayState.{PhaseOpening, ReplayState, replay_after_call, replay}
use Rattle.store_model.specs.Legal.{IsLegalCall}
use Rattle.store_model.specs.LegalHistory.{IsLegal}

-- What begins a legal history is one.
abbrev pub PrefixesAreLegal : Type 0 → Type 0
PrefixesAreLegal Root =
    (phase : PhaseOpening) (tampered : List ℕ) (front back : List (Record Root)) (doubt : Option ℕ)
    → IsLegal phase tampered (front ++ back) doubt → (left : Option ℕ) × IsLegal phase tampered front left

-- A well formed call leaves a map of objects.
abbrev pub CallsKeepMaps : Type 0
CallsKeepMaps =
    (s : MachineState) (i : ℕ) (call : Call) → IsCall call → IsObjectMap s.objects → IsObjectMap (state_after s i call).objects

-- A call whose reply is no commit leaves the map.
abbrev pub OthersKeepMaps : Type 0
OthersKeepMaps =
    (s : MachineState) (i : ℕ) (call : Call) → is_commit s i call (reply_of s i call) ≡ false → (state_after s i call).objects ≡ s.objects

-- A legal event that is marked as no commit leaves the map.
abbrev pub UnchangedMapsStay : Type 0
UnchangedMapsStay =
    (tampered : List ℕ) (s : ReplayState) (session : ℕ) (call : Call) (reply : Reply) (file : Option ℕ)
    → IsLegalCall tampered s session call reply Unchanged file
    → ((replay_after_call s session call reply Unchanged file).state).objects ≡ (s.state).objects

-- A call changes no session but its own: no handle, position, enumerator or number of another.
abbrev pub OtherSessionsStay : Type 0
OtherSessionsStay =
    (s : MachineState) (i k : ℕ) (call : Call) → k ≢ i → session_at (state_after s i call) k ≡ session_at s k

-- No event makes a session or ends one.
abbrev pub SessionsStay : Type 0 → Type 0
SessionsStay Root =
    (s : ReplayState) (records : List (Record Root)) → length ((replay s records).state).sessions ≡ length (s.state).sessions

-- the object is one that an enumerator, so far, may give
abbrev pub is_ahead : List ℕ → Cursor → ObjectName × Object → Bool
is_ahead application Idle entry = false
is_ahead application First entry = is_of application entry
is_ahead application (After id) entry = is_above application id entry

-- The entry is the least of those that pass the test.
pub record IsLeast (test : ObjectName × Object → Bool) (objects : ObjectMap) (entry : ObjectName × Object) : Type 0 where
  pub held : Contains objects entry
  pub passes : test entry ≡ true
  pub least : (other : ObjectName × Object) → Contains objects other → test other ≡ true → is_lt (name_cmp other.0 entry.0) ≡ false

-- An enumerator gives the least name above the last one given.
abbrev pub EnumeratorsGiveTheLeast : Type 0
EnumeratorsGiveTheLeast =
    (objects : ObjectMap) (application : List ℕ) (cursor : Cursor) (entry : ObjectName × Object)
    → IsObjectMap objects → next_object objects application cursor ≡ Some entry → IsLeast (is_ahead application cursor) objects entry
