-- Which tags are right, in the words of the gate's entries.
use Rattle.std.specs.Prelude.{◌≡◌, ℕ, List, Option, Some, None}
use Rattle.history_seats.specs.Changes.{call_record}
use Rattle.tee_types.specs.declared.call.Call.{Call}
use Rattle.tee_types.specs.declared.reply.Reply.{Reply}
use Rattle.store_model.specs.declared.event.Mark.TheVariants.{Unchanged, Made, Doubtful}
use Rattle.store_model.specs.Record.{Tag}
use Rattle.dir_records.specs.declared.entry.DirEntry.{DirEntry}
use Rattle.history_seats.specs.Records.{HistoryRecord, Version}
use Rattle.history_seats.specs.Mounts.{Mounted}
use Rattle.history_seats.specs.Settling.{HasMark}
use Rattle.history_seats.specs.Directory.{given_version}
use Rattle.history_seats.specs.Views.{GateView}
use Rattle.history_seats.specs.Tags.{HasRightTag}
use Rattle.crash_core.specs.declared.change.EntryChange.{EntryChange}
use Rattle.crash_core.specs.declared.change.DoubtedChange.{DoubtedChange}
use Rattle.core_laws.specs.Stores.{Store}
use Rattle.core_laws.specs.CallChanges.{IsEntryCommit}
use Rattle.core_laws.specs.Ties.{IsTied}

-- The tag names the version that is given before the event, and nothing in doubt.
pub record NamesGiven (mounted : Mounted) (before : List HistoryRecord) (tag : Tag Version) : Type 0 where
  pub committed : tag.committed ≡ given_version mounted before tag.file tag.generation
  pub doubted : tag.doubted ≡ None

-- Of an event that commits nothing such a tag is right.
abbrev pub UnchangedTagsAreRight : Type 0
UnchangedTagsAreRight =
    (mounted : Mounted) (before : List HistoryRecord) (r : HistoryRecord) → HasMark Unchanged r.event → ((tag : Tag Version) → r.tag ≡ Some tag → NamesGiven mounted before tag)
    → HasRightTag mounted before r

-- Of a commit that changes the gate's entries the tag is right that names what it leaves.
pub record AreCommitTagsRight (store : Store) (view : GateView) (entries : List (Option DirEntry)) (counter session number : ℕ) (call : Call) (reply : Reply) (commit : ℕ) (tag : Tag Version) (change : EntryChange) : Type 0 where
  pub made : IsEntryCommit store entries counter session call change tag tag.committed → tag.doubted ≡ None
      → HasRightTag store.mounted view.all (call_record session number call reply (Made commit) (Some tag))
  pub doubtful : IsEntryCommit store entries counter session call change tag tag.doubted
      → tag.committed ≡ given_version store.mounted view.all tag.file tag.generation
      → HasRightTag store.mounted view.all (call_record session number call reply (Doubtful commit) (Some tag))

abbrev pub CommitTagsAreRight : Type 0
CommitTagsAreRight =
    (store : Store) (view : GateView) (entries : List (Option DirEntry)) (counter : ℕ) (doubt : Option DoubtedChange) (session number : ℕ) (call : Call) (reply : Reply) (commit : ℕ) (tag : Tag Version)
    (change : EntryChange) → IsTied store view entries counter doubt → AreCommitTagsRight store view entries counter session number call reply commit tag change
