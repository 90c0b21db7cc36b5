-- The state of the core machine: the files, the card, the directory, who writes what, the commit that is pending, and the history.
use Rattle.std.specs.Prelude.{◌==◌, ℕ, List, Option, if◌then◌else◌, Contains}
use Rattle.disk_model.specs.State.{FileState}
use Rattle.node_image.specs.declared.node.RootRef.{RootRef}
use Rattle.hmac_keys.specs.declared.Keys.{Keys}
use Rattle.tee_types.specs.declared.call.Call.{Call}
use Rattle.rpmb_card.specs.Card.{CardState}
use Rattle.store_model.specs.Record.{Record}
use Rattle.store_model.specs.ReplayState.{PhaseOpening, ReplayState, opening, replay}
use Rattle.dir_records.specs.declared.entry.DirEntry.{DirEntry}
use Rattle.crash_core.specs.declared.change.EntryChange.{EntryChange}

-- A commit on its way: the session and its call, the entry that it changes, and, once it is sealed, the directory's new reference.
pub record PendingCommit : Type 0 where
  pub session : ℕ
  pub call : Call
  pub change : EntryChange
  pub sealed : Option RootRef

-- `Root` stands for a committed version of a file in the history's tags.
pub record Core (Root : Type 0) : Type 0 where
  -- by their numbers
  pub files : ℕ → FileState
  pub card : CardState
  -- the directory's reference and its entries, as the last commit of the history left them
  pub root : RootRef
  pub entries : List (Option DirEntry)
  -- who has taken which free file, and who has an open stage on which file
  pub takes : ℕ → Option ℕ
  pub stages : ℕ → Option ℕ
  pub pending : Option PendingCommit
  pub history : List (Record Root)

-- What is the same for a whole run: the device's keys, the files of which nothing is known, since they are not honest when it ends, and
-- what the history begins with.
pub record Phase : Type 0 where
  pub keys : Keys
  pub tampered : List ℕ
  pub begins : PhaseOpening

-- where the history stands
abbrev pub replay_state : {Root : Type 0} → Phase → Core Root → ReplayState
replay_state phase c = replay (opening phase.begins) c.history

-- the file is honest to the end
abbrev pub IsTrusted : Phase → ℕ → Type 0
IsTrusted phase file = Contains phase.tampered file → ⊥

-- the function with another value at one number
abbrev pub put : {A : Type 0} → (ℕ → A) → ℕ → A → ℕ → A
put f n x k = if k == n then x else f k
