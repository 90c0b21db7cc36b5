-- Laws of what a call would leave its application.
use Rattle.std.specs.Prelude.{◌≡◌, ◌⊎◌, ℕ, true, false, List, None}
use Rattle.tee_types.specs.declared.call.Call.{Call}
use Rattle.store_model.specs.Machine.{MachineState, session_at}
use Rattle.store_model.specs.Calls.{reply_of, state_after, is_commit}
use Rattle.store_model.specs.Files.{is_misuse, is_corrupt}
use Rattle.store_model.specs.Refusal.{is_refusal}
use Rattle.store_model.specs.Doubt.{Doubt, state_landed}
use Rattle.store_model.specs.Record.{Record}
use Rattle.store_model.specs.ReplayState.{ReplayState, replay}
use Rattle.app_totals.specs.Totals.{totals_of}
use Rattle.app_totals.specs.Meant.{meant_reply, is_granted, left_by, grown}
use Rattle.app_totals.specs.OwnHandles.{HaveOwnHandles, KeepsOwnHandles}

-- A commit leaves the application of its session what is meant.
abbrev pub CommitsLeaveWhatIsMeant : Type 0
CommitsLeaveWhatIsMeant =
    (s : MachineState) (i : ℕ) (call : Call) → is_commit s i call (reply_of s i call) ≡ true
    → totals_of (session_at s i).application (state_after s i call).objects ≡ left_by s i call

-- A call that is meant to be refused raises no number.
abbrev pub RefusalsRaiseNothing : Type 0
RefusalsRaiseNothing = (s : MachineState) (i : ℕ) (call : Call) → is_refusal (meant_reply s i call) ≡ true → grown s i call ≡ None

-- A call is answered what is meant, but where damage has the blame, or a create was granted.
abbrev pub RepliesAreMeant : Type 0
RepliesAreMeant =
    (s : MachineState) (i : ℕ) (call : Call) → is_corrupt (reply_of s i call) ≡ false
    → (meant_reply s i call ≡ reply_of s i call) ⊎ (is_granted s i call ≡ true)

-- A misuse is meant to be one: it is found before damage, and before the number of objects is asked.
abbrev pub MisusesAreMeant : Type 0
MisusesAreMeant = (s : MachineState) (i : ℕ) (call : Call) → is_misuse (meant_reply s i call) ≡ is_misuse (reply_of s i call)

-- A call leaves each application's handles on its own objects.
abbrev pub CallsKeepOwnHandles : Type 0
CallsKeepOwnHandles = (s : MachineState) (i : ℕ) (call : Call) → HaveOwnHandles s → KeepsOwnHandles s (state_after s i call)

-- So does a commit in doubt that landed.
abbrev pub LandingsKeepOwnHandles : Type 0
LandingsKeepOwnHandles = (s : MachineState) (doubt : Doubt) → HaveOwnHandles s → KeepsOwnHandles s (state_landed s doubt)

-- So does a history, legal or not.
abbrev pub ReplaysKeepOwnHandles : Type 0 → Type 0
ReplaysKeepOwnHandles Root = (s : ReplayState) (records : List (Record Root)) → HaveOwnHandles s.state → KeepsOwnHandles s.state (replay s records).state
