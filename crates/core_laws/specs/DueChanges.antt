-- A write or a truncate that is the machine's, by what the object's file gave, is a commit of the gate's entries.
use Rattle.std.specs.Prelude.{◌≡◌, ℕ, List, Option, Some}
use Rattle.tee_types.specs.declared.call.Call.{Call}
use Rattle.tee_types.specs.declared.reply.Reply.{Reply}
use Rattle.tee_types.specs.declared.reply.Reply.TheVariants.{Done}
use Rattle.store_model.specs.declared.event.Event.TheVariants.{Call as CallEvent}
use Rattle.store_model.specs.declared.event.Mark.{Mark}
use Rattle.store_model.specs.Legal.{meant_by}
use Rattle.store_model.specs.Record.{Tag}
use Rattle.dir_records.specs.declared.entry.DirEntry.{DirEntry}
use Rattle.history_seats.specs.Records.{HistoryRecord, Version}
use Rattle.history_seats.specs.Views.{GateView}
use Rattle.crash_core.specs.declared.change.EntryChange.{EntryChange}
use Rattle.core_laws.specs.TamperScenarios.{TamperScenario}
use Rattle.core_laws.specs.Stores.{Store, replay_at}
use Rattle.core_laws.specs.Mapped.{IsMapped}
use Rattle.core_laws.specs.Shown.{IsGivenAt, IsPartial}
use Rattle.core_laws.specs.ChangeLaws.{IsDueChange}
use Rattle.core_laws.specs.Answered.{AreAnswered}
use Rattle.core_laws.specs.CallChanges.{IsEntryCommit}
use Rattle.core_laws.specs.MachineChanges.{IsCallOn}
use Rattle.core_laws.specs.CommitMaps.{IsCommitUnder}

-- The commit, which the machine answers with success.
pub record IsDueCommit (store : Store) (scenario : TamperScenario) (view : GateView) (entries : List (Option DirEntry)) (counter session : ℕ) (call : Call) (change : EntryChange) (tag : Tag Version) (left : Option Version) : Type 0 where
  pub commit : IsCommitUnder store scenario view entries counter session call change tag left
  pub replied : Done ≡ meant_by (replay_at store scenario view.all) session call

abbrev pub DueChangesAreCommits : Type 0
DueChangesAreCommits =
    (store : Store) (scenario : TamperScenario) (view : GateView) (entries : List (Option DirEntry)) (counter session number : ℕ) (call : Call) (reply : Reply) (mark : Mark) (change : EntryChange) (tag : Tag Version)
    (left : Option Version) (r : HistoryRecord) (x : IsGivenAt store scenario view.all r) (next : Version) → r.event ≡ CallEvent session number call reply mark → r.tag ≡ Some tag → IsPartial call
    → AreAnswered store scenario view.all → IsMapped store scenario view.all → IsEntryCommit store entries counter session call change tag left
    → IsCallOn (replay_at store scenario view.all).state session call entries change → left ≡ Some next → IsDueChange store scenario view.all r x next
    → IsDueCommit store scenario view entries counter session call change tag left
