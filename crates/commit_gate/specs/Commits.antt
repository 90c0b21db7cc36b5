-- What a caller brings to a commit at the gate, and the records of its ends.
use Rattle.std.specs.Prelude.{◌≡◌, ◌⊎◌, ◌≤◌, ℕ, true, List, length, Option, Some, None, Contains}
use Rattle.tee_types.specs.declared.call.Call.{Call}
use Rattle.tee_types.specs.declared.reply.Reply.{Reply}
use Rattle.store_model.specs.declared.event.Event.TheVariants.{Call as CallEvent}
use Rattle.store_model.specs.declared.event.Mark.{Mark}
use Rattle.store_model.specs.Legal.{is_commit_due, meant_by}
use Rattle.store_model.specs.Record.{Tag}
use Rattle.dir_records.specs.declared.entry.DirEntry.{DirEntry}
use Rattle.history_seats.specs.Records.{HistoryRecord, Version}
use Rattle.history_seats.specs.Directory.{given_version}
use Rattle.history_seats.specs.Changes.{TagVersions, record_of}
use Rattle.history_seats.specs.Views.{GateView, SlotView}
use Rattle.crash_core.specs.declared.change.EntryChange.{EntryChange}
use Rattle.core_laws.specs.TamperScenarios.{TamperScenario}
use Rattle.core_laws.specs.Stores.{Store, replay_at}
use Rattle.core_laws.specs.Shown.{EndsCommit, IsEndAt}
use Rattle.core_laws.specs.Answered.{AreAnswered}
use Rattle.commit_gate.specs.CallerSessions.{CallerSession, IsCallerOf}
use Rattle.commit_gate.specs.CurrentFiles.{PutsCurrent}
use Rattle.commit_gate.specs.SessionViews.{SeesAll}
use Rattle.core_laws.specs.CallChanges.{IsEntryCommit}
use Rattle.core_laws.specs.MachineChanges.{IsCallOn}
use Rattle.core_laws.specs.CommitMaps.{LeavesObject}

-- A commit is brought with two versions of its object: the one that is given before it, and the one that it leaves. So does the tag of a
-- commit in doubt name them. The tag of one that is made names the one that it leaves as committed, and of one that is not made the one that
-- was given.
abbrev pub made_versions : TagVersions → TagVersions
made_versions versions = record { committed = versions.doubted; doubted = None }

abbrev pub unmade_versions : TagVersions → TagVersions
unmade_versions versions = record { committed = versions.committed; doubted = None }

-- the tag of an object's slot with those versions
abbrev pub tag_of : SlotView → TagVersions → Tag Version
tag_of slot versions = record { file = slot.file; generation = slot.generation; committed = versions.committed; doubted = versions.doubted }

-- the record of a session's call on a slot's object
abbrev pub file_record : (session number : ℕ) → Call → Reply → Mark → SlotView → TagVersions → HistoryRecord
file_record session number call reply mark slot versions = record_of (CallEvent session number call reply mark) (Some slot) versions

-- Under a tamper scenario the machine commits the call, answers it so, and changes the object to what stands for the version that is left.
pub record IsDueUnder (store : Store) (scenario : TamperScenario) (before : List HistoryRecord) (session : ℕ) (call : Call) (reply : Reply) (change : EntryChange) (tag : Tag Version) : Type 0 where
  pub due : is_commit_due (replay_at store scenario before) session call ≡ true
  pub replied : reply ≡ meant_by (replay_at store scenario before) session call
  pub object : LeavesObject store scenario before session call change tag tag.doubted

-- under a tamper scenario the promises end at the call, however its commit ends, where this is the reply once it is made
abbrev pub EndsUnder : Store → TamperScenario → List HistoryRecord → (session number : ℕ) → Call → (made : Reply) → SlotView → Type 0
EndsUnder store scenario before session number call made slot =
    (reply : Reply) (mark : Mark) (versions : TagVersions) → EndsCommit made reply mark → IsEndAt store scenario before (file_record session number call reply mark slot versions)

-- What a caller brings to the commit of a session's call on a slot's object: the entries change as the call changes them and as its version
-- says, and under each tamper scenario by which the object's file is not honest the machine commits the call, or the promises end there.
pub record IsReadyCommit (store : Store) (view : GateView) (entries : List (Option DirEntry)) (counter session number : ℕ) (call : Call) (reply : Reply) (change : EntryChange) (slot : SlotView) (versions : TagVersions) : Type 0 where
  pub commit : IsEntryCommit store entries counter session call change (tag_of slot versions) versions.doubted
  pub given : versions.committed ≡ given_version store.mounted view.all slot.file slot.generation
  pub current : PutsCurrent change
  pub on : (scenario : TamperScenario) → AreAnswered store scenario view.all → IsCallOn (replay_at store scenario view.all).state session call entries change
  pub due : (scenario : TamperScenario) → AreAnswered store scenario view.all → Contains scenario.tampered slot.file
      → IsDueUnder store scenario view.all session call reply change (tag_of slot versions) ⊎ EndsUnder store scenario view.all session number call reply slot

-- The session saw the whole history, and no commit of its own is in doubt.
pub record IsCalm {E : Type 0} (store : Store) (view : GateView) (s : CallerSession E) : Type 0 where
  pub caller : IsCallerOf store s
  pub sees : SeesAll view s.pass
  pub settled : s.doubt ≡ None
  pub within : view.decided ≤ length view.all
