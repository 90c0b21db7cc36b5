-- Which events the core machine appends to the history, and which of them commit what was sealed.
use Rattle.std.specs.Prelude.{◌≡◌, ◌⊎◌, ℕ, [], ◌∷◌, ◌++◌, Option, Some, None}
use Rattle.node_image.specs.declared.node.RootRef.{RootRef}
use Rattle.tee_types.specs.declared.call.Call.{Call}
use Rattle.store_model.specs.declared.event.Event.{Event}
use Rattle.store_model.specs.declared.event.Event.TheVariants.{Call as CallEvent, Landed}
use Rattle.store_model.specs.declared.event.Mark.{Mark}
use Rattle.store_model.specs.declared.event.Mark.TheVariants.{Unchanged, Made, Doubtful}
use Rattle.store_model.specs.Record.{Record, file_of}
use Rattle.store_model.specs.Doubt.{Doubt}
use Rattle.store_model.specs.ReplayState.{replay_after}
use Rattle.store_model.specs.Legal.{IsLegalEvent}
use Rattle.crash_core.specs.declared.change.EntryChange.{EntryChange}
use Rattle.crash_core.specs.declared.change.EntryChange.TheVariants.{Put, Clear}
use Rattle.crash_core.specs.EntryChanges.{changed}
use Rattle.crash_core.specs.CoreState.{Core, PendingCommit, Phase, put, replay_state}

-- the file that a change puts is no longer taken
abbrev pub freed : EntryChange → (ℕ → Option ℕ) → ℕ → Option ℕ
freed (Put index e) takes = put takes e.file None
freed (Clear index) takes = takes

-- the commit that was pending is committed
abbrev pub committed : {Root : Type 0} → Core Root → PendingCommit → RootRef → Core Root
committed c p dir = record c { root = dir; entries = changed c.entries p.change; takes = freed p.change c.takes; pending = None }

-- one record more
abbrev pub with_record : {Root : Type 0} → Record Root → Core Root → Core Root
with_record r c = record c { history = c.history ++ r ∷ [] }

-- the pending commit is of that session and call
pub record IsPending {Root : Type 0} (c : Core Root) (session : ℕ) (call : Call) (p : PendingCommit) : Type 0 where
  pub is : c.pending ≡ Some p
  pub session_is : p.session ≡ session
  pub call_is : p.call ≡ call

-- a sealed one of that session and call, which then is committed
pub record IsCommitted {Root : Type 0} (c : Core Root) (session : ℕ) (call : Call) (new : Core Root) : Type 0 where
  pub commit : PendingCommit
  pub of : IsPending c session call commit
  pub dir : RootRef
  pub sealed : commit.sealed ≡ Some dir
  pub next : new ≡ committed c commit dir

-- While a commit is pending, an event that neither makes it nor doubts it leaves the machine's state.
abbrev pub LeavesState : {Root : Type 0} → Phase → Core Root → Record Root → Type 0
LeavesState phase c r = (c.pending ≡ None) ⊎ ((replay_after (replay_state phase c) r.event (file_of r)).state ≡ (replay_state phase c).state)

-- what a call's event does to all but the history, by its mark
abbrev pub IsMarked : {Root : Type 0} → Phase → Core Root → Record Root → ℕ → Call → Mark → Core Root → Type 0
IsMarked phase c r session call Unchanged new = (new ≡ c) × LeavesState phase c r
IsMarked phase c r session call (Made commit) new = IsCommitted c session call new
IsMarked phase c r session call (Doubtful commit) new = (new ≡ c) × (p : PendingCommit) × IsPending c session call p

abbrev pub IsDone : {Root : Type 0} → Phase → Core Root → Record Root → Event → Core Root → Type 0
IsDone phase c r (CallEvent session number call reply mark) new = IsMarked phase c r session call mark new
IsDone phase c r (Landed commit) new = (doubt : Doubt) × ((replay_state phase c).doubt ≡ Some doubt) × IsCommitted c doubt.session doubt.call new

-- The event is appended: the history stays legal.
pub record IsAppend {Root : Type 0} (phase : Phase) (c : Core Root) (r : Record Root) (new : Core Root) : Type 0 where
  pub legal : IsLegalEvent phase.tampered (replay_state phase c) r.event (file_of r)
  pub done : Core Root
  pub does : IsDone phase c r r.event done
  pub is : new ≡ with_record r done
