-- A commit of the gate with the event that it leaves, as steps of the core machine.
use Rattle.std.specs.Prelude.{◌≡◌, ℕ, true, List, Option, None, IsTrue}
use Rattle.disk_model.specs.State.{Sound}
use Rattle.tee_types.specs.Limits.{directory_file}
use Rattle.tee_types.specs.declared.call.Call.{Call}
use Rattle.tee_types.specs.declared.reply.Reply.{Reply}
use Rattle.rpmb_card.specs.Card.{CardState}
use Rattle.store_model.specs.Legal.{IsLegalEvent, is_commit_due}
use Rattle.store_model.specs.Makes.{MakesChange, MapChange}
use Rattle.store_model.specs.Object.{Object}
use Rattle.store_model.specs.Record.{Tag, file_of}
use Rattle.history_seats.specs.Records.{Version}
use Rattle.history_seats.specs.Views.{GateView}
use Rattle.history_seats.specs.Changes.{with_record, call_record}
use Rattle.crash_core.specs.EntryChanges.{IsChange}
use Rattle.crash_core.specs.CoreState.{IsTrusted}
use Rattle.core_laws.specs.GateLaws.{HandedShows}
use Rattle.core_laws.specs.GateSteps.{Handed}
use Rattle.core_laws.specs.TamperScenarios.{TamperScenario}
use Rattle.core_laws.specs.Stores.{Store, replay_at}
use Rattle.store_commit.specs.declared.change.CommitEnd.{CommitEnd}
use Rattle.crash_core.specs.declared.change.EntryChange.{EntryChange}
use Rattle.store_commit.specs.Ends.{Leaves, Throughout}
use Rattle.store_commit.specs.Gates.{LeavesHolds, doubt_left}
use Rattle.store_commit.specs.Holds.{AreHolds}
use Rattle.store_commit.specs.Sides.{Sides}
use Rattle.store_commit.specs.Steps.{Steps}
use Rattle.commit_gate.specs.FinishedPhases.{phase_under}
use Rattle.commit_gate.specs.GateEnds.{mark_told}
use Rattle.commit_gate.specs.Resting.{IsGateOf, StepsTo, resting_part}

-- What a commit is for: the machine commits the call, and the change of the entries is the one that this makes. The slot that is handed
-- over shows in its file what the change puts.
pub record IsForCall (store : Store) (scenario : TamperScenario) (handed : Option Handed) (g : Sides) (view : GateView) (change : EntryChange) (session : ℕ) (call : Call) : Type 0 where
  pub due : is_commit_due (replay_at store scenario view.all) session call ≡ true
  pub made : MapChange
  pub makes : MakesChange (replay_at store scenario view.all).state session call made
  pub object : Object
  pub enters : IsChange ((replay_at store scenario view.all).state).objects g.dir.entries g.counter made change object
  pub shows : HandedShows (phase_under store scenario) handed change object

-- What a commit of the gate leaves.
pub record IsGateCommit (old new : Sides) (change : EntryChange) (end : CommitEnd) (before after : List (Option ℕ)) : Type 0 where
  pub leaves : Leaves old new change end
  pub throughout : Throughout old new
  pub steps : Steps old new change end
  pub ends : LeavesHolds change end before after
  pub held : AreHolds new.dir.entries after
  pub sound : Sound new.file

-- From one part at rest a commit leads to the next, however it ends, with its event, where that is legal.
abbrev pub CommitsAreSteps : Type 0
CommitsAreSteps =
    (store : Store) (scenario : TamperScenario) (handed : Option Handed) (old new : Sides) (change : EntryChange) (end : CommitEnd) (before after : List (Option ℕ)) (card : CardState) (view : GateView)
    (session number : ℕ) (call : Call) (reply : Reply) (tag : Option (Tag Version)) → let r = call_record session number call reply (mark_told end) tag in
    IsGateOf store old None before card → IsGateCommit old new change end before after → IsForCall store scenario handed old view change session call
    → (IsTrusted (phase_under store scenario) directory_file → IsTrue new.file.honest) → IsLegalEvent scenario.tampered (replay_at store scenario view.all) r.event (file_of r)
    → StepsTo store scenario handed (resting_part store scenario old None before card view) new (doubt_left change end) after (with_record r view)
