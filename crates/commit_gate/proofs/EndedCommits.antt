-- What a ready commit leaves where it was made, and where it is in doubt.
use Rattle.std.proofs.Common.{◌≡◌, ◌≤◌, ◌<◌, ◌+◌, ◌^◌, ℕ, true, List, Option, Some, None, length, inl, inr, refl}
use Rattle.tee_types.specs.declared.call.Call.{Call}
use Rattle.tee_types.specs.declared.call.Call.TheVariants.{Create, Rename, Truncate, Write}
use Rattle.tee_types.specs.declared.reply.Cause.{Cause}
use Rattle.tee_types.specs.declared.reply.Reply.{Reply}
use Rattle.tee_types.specs.declared.reply.Reply.TheVariants.{NotAvailable}
use Rattle.store_model.specs.declared.event.Mark.TheVariants.{Made, Doubtful}
use Rattle.store_model.specs.Legal.{is_commit_due}
use Rattle.store_model.specs.Record.{Tag, file_at_fault}
use Rattle.dir_records.specs.declared.entry.DirEntry.{DirEntry}
use Rattle.history_seats.specs.Records.{HistoryRecord, Version}
use Rattle.history_seats.specs.Changes.{TagVersions, with_record}
use Rattle.history_seats.specs.Tags.{HasRightTag}
use Rattle.history_seats.specs.Views.{GateView, SlotView}
use Rattle.crash_core.specs.declared.change.EntryChange.{EntryChange}
use Rattle.crash_core.specs.declared.change.EntryChange.TheVariants.{Clear, Put}
use Rattle.crash_core.specs.EntryChanges.{changed}
use Rattle.core_laws.specs.Listed.{IsTagOfChange}
use Rattle.core_laws.specs.TamperScenarios.{TamperScenario}
use Rattle.core_laws.specs.Stores.{Store, replay_at}
use Rattle.core_laws.specs.Answered.{AreAnswered, IsFairAt}
use Rattle.commit_gate.specs.Journals.{IsJournal}
use Rattle.core_laws.specs.CallChanges.{IsEntryCommit}
use Rattle.core_laws.specs.CommitMaps.{IsCommitUnder, LeavesObject}
use Rattle.core_laws.specs.Ties.{IsTied, MakesEntries}
use Rattle.core_laws.proofs.CommitTies.{doubtful_ties, made_ties}
use Rattle.core_laws.proofs.LegalCommits.{commits_legal}
use Rattle.core_laws.proofs.RightTags.{commits_right}
use Rattle.core_laws.proofs.Told.{tied_make}
use Rattle.commit_gate.specs.Commits.{IsDueUnder, IsReadyCommit, file_record, made_versions, tag_of}
use Rattle.commit_gate.proofs.FairCommits.{commit_under}

-- the tag of one that was made is of the same object
retagged : (entries : List (Option DirEntry)) (change : EntryChange) (slot : SlotView) (a b : TagVersions) → IsTagOfChange entries change (tag_of slot a) → IsTagOfChange entries change (tag_of slot b)
retagged entries (Put index e) slot a b is = record { file = is.file; generation = is.generation }
retagged entries (Clear index) slot a b is = λ e at. record { file = (is e at).file; generation = (is e at).generation }

left_same : (store : Store) (scenario : TamperScenario) (before : List HistoryRecord) (session : ℕ) (call : Call) (change : EntryChange) (slot : SlotView) (a b : TagVersions) (left : Option Version)
    → LeavesObject store scenario before session call change (tag_of slot a) left → LeavesObject store scenario before session call change (tag_of slot b) left
left_same store scenario before session (Create id flags attributes bytes) (Put index e) slot a b left is = is
left_same store scenario before session (Write handle bytes) (Put index e) slot a b left is = is
left_same store scenario before session (Truncate handle size) (Put index e) slot a b left is = is
left_same store scenario before session (Rename handle id) change slot a b left is = is
left_same store scenario before session call change slot a b left is = tt

module _ (store : Store) (view : GateView) (entries : List (Option DirEntry)) (counter session number : ℕ) (call : Call) (reply : Reply) (change : EntryChange) (slot : SlotView) (versions : TagVersions)
    (kept : IsJournal store view) (tied : IsTied store view entries counter None) (known : session < length store.mounted.applications)
    (ready : IsReadyCommit store view entries counter session number call reply change slot versions) where
  abbrev committable : Tag Version
  committable = tag_of slot versions

  abbrev named : Tag Version
  named = tag_of slot (made_versions versions)

  made_commit : IsEntryCommit store entries counter session call change named versions.doubted
  made_commit = record {
    makes = ready.commit.makes;
    place = ready.commit.place;
    tagged = retagged entries change slot versions (made_versions versions) ready.commit.tagged;
    leaves = ready.commit.leaves;
    before = ready.commit.before;
    after = ready.commit.after;
  }

  made_under : (scenario : TamperScenario) → AreAnswered store scenario view.all → IsDueUnder store scenario view.all session call reply change committable
      → IsCommitUnder store scenario view entries counter session call change named versions.doubted
  made_under scenario answered due = record {
    answered = answered;
    mapped = (kept.in_step scenario answered).now;
    commit = made_commit;
    due = due.due;
    on = ready.on scenario answered;
    object = left_same store scenario view.all session call change slot versions (made_versions versions) versions.doubted due.object;
  }

  pub made_right : (n : ℕ) → HasRightTag store.mounted view.all (file_record session number call reply (Made n) slot (made_versions versions))
  made_right n = (commits_right store view entries counter None session number call reply n named change tied).made made_commit refl

  pub doubtful_right : (told : Reply) (n : ℕ) → HasRightTag store.mounted view.all (file_record session number call told (Doubtful n) slot versions)
  doubtful_right told n = (commits_right store view entries counter None session number call told n committable change tied).doubtful ready.commit ready.given

  module _ (fits : counter + 1 < 2 ^ 32) where
    pub made_fair : (scenario : TamperScenario) → IsFairAt store scenario view.all (file_record session number call reply (Made (counter + 1)) slot (made_versions versions))
    made_fair scenario answered owed = elim (ready.due scenario answered (owed slot.file refl)) [
      | inl due ↦ inl (inl ((commits_legal store scenario view entries counter None tied session number call change named known fits).made (made_under scenario answered due) refl reply due.replied))
      | inr ends ↦ inr (ends reply (Made (counter + 1)) (made_versions versions) refl)
    ]

    pub doubtful_fair : (cause : Cause) → file_at_fault cause ≡ None → (scenario : TamperScenario)
        → IsFairAt store scenario view.all (file_record session number call (NotAvailable cause) (Doubtful (counter + 1)) slot versions)
    doubtful_fair cause none scenario answered owed = elim (ready.due scenario answered (owed slot.file refl)) [
      | inl due ↦ inl (inl ((commits_legal store scenario view entries counter None tied session number call change committable known fits).doubtful
          (commit_under store view entries counter session number call reply change slot versions kept tied known ready scenario answered due) ready.given cause none))
      | inr ends ↦ inr (ends (NotAvailable cause) (Doubtful (counter + 1)) versions refl)
    ]

  -- where the machine commits the call, it changes its map as the entries change
  pub makes_entries : (scenario : TamperScenario) → AreAnswered store scenario view.all → is_commit_due (replay_at store scenario view.all) session call ≡ true
      → MakesEntries (replay_at store scenario view.all) session call entries change
  makes_entries scenario answered due =
      tied_make store scenario view entries counter None tied answered (kept.in_step scenario answered).now session call change committable versions.doubted ready.commit (ready.on scenario answered) due

  pub doubtful_tied : (told : Reply) (n : ℕ) → view.decided ≤ length view.all
      → IsTied store (with_record (file_record session number call told (Doubtful n) slot versions) view) entries counter (Some (record { number = n; change = change }))
  doubtful_tied told n within =
      doubtful_ties store view entries counter None session number call told n committable change (doubtful_right told n) within ready.commit makes_entries tied

  pub made_tied : (n : ℕ) → IsTied store (with_record (file_record session number call reply (Made n) slot (made_versions versions)) view) (changed entries change) n None
  made_tied n = made_ties store view entries counter None session number call reply n named change (made_right n) made_commit tied
