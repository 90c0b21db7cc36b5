-- A session as it begins.
use Rattle.std.specs.Prelude.{◌≡◌, ◌<◌, ℕ, List, [], length, Some, None, slice_index_or}
use Rattle.store_model.specs.Machine.{new_session}
use Rattle.history_seats.specs.Views.{PassView, Sight}
use Rattle.core_laws.specs.Stores.{Store}
use Rattle.commit_gate.specs.CallerSessions.{CallerSession, IsCallerOf}

-- the session of an application, with its seat and its entropy
abbrev pub fresh : {E : Type 0} → Sight PassView → (app : List ℕ) → E → CallerSession E
fresh pass app entropy = record { pass = Some pass; number = (pass.knows).session; made = 0; state = new_session app; doubt = None; entropy = entropy }

-- It is the store's where its seat is the one of an application of the mount, and no event was appended yet.
abbrev pub FreshSessionsAreCallers : Type 0 → Type 0
FreshSessionsAreCallers E =
    (store : Store) (pass : Sight PassView) (app : List ℕ) (entropy : E) → pass.table ≡ store.table → (pass.knows).mounted ≡ store.mounted → (pass.knows).seen ≡ []
    → (pass.knows).session < length store.mounted.applications → app ≡ slice_index_or store.mounted.applications (pass.knows).session []
    → IsCallerOf store (fresh pass app entropy)
