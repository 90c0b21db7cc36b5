-- What commits and landings give.
use Rattle.std.specs.Prelude.{◌≡◌, ℕ, Bool, true, false, if◌then◌else◌, List, [], ◌∷◌, ◌++◌, Some, None}
use Rattle.tee_types.specs.declared.call.Call.{Call}
use Rattle.tee_types.specs.declared.call.Call.TheVariants.{Create, Delete}
use Rattle.tee_types.specs.declared.flags.Flags.{Flags}
use Rattle.tee_types.specs.declared.reply.Reply.{Reply}
use Rattle.store_model.specs.declared.event.Event.TheVariants.{Call as CallEvent}
use Rattle.store_model.specs.declared.event.Mark.TheVariants.{Made}
use Rattle.store_model.specs.Record.{Tag}
use Rattle.history_seats.specs.Records.{Version, HistoryRecord, is_object}
use Rattle.history_seats.specs.Settling.{as_landed, is_doubtful, is_made}
use Rattle.history_seats.specs.Mounts.{Entry, Mounted}
use Rattle.history_seats.specs.Versions.{version_of}
use Rattle.history_seats.specs.Directory.{directory_of, entries_committed, has_entry, given_version}
use Rattle.history_seats.specs.Tags.{HasRightTag}
use Rattle.history_seats.specs.Changes.{landing_of}

-- whether the object of a call is there once the call is committed, where it was there or not
abbrev pub is_there_after : Call → Bool → Bool
is_there_after (Create id flags attributes bytes) was = true
is_there_after (Delete handle) was = false
is_there_after _ was = was

-- So the directory has an entry of the tag's file and generation.
abbrev pub CommitsMoveEntries : Type 0
CommitsMoveEntries =
    (application : List ℕ) (call : Call) (tag : Tag Version) (entries : List Entry)
    → has_entry tag.file tag.generation (entries_committed application call (Some tag) entries)
    ≡ is_there_after call (has_entry tag.file tag.generation entries)

-- A create that is made may name its new version.
abbrev pub CreatesNameVersions : Type 0
CreatesNameVersions =
    (mounted : Mounted) (before : List HistoryRecord) (session number : ℕ) (id : List ℕ) (flags : Flags) (attributes bytes : List ℕ) (reply : Reply) (commit : ℕ)
    (file generation : ℕ) (version : Version)
    → HasRightTag mounted before (record {
      event = CallEvent session number (Create id flags attributes bytes) reply (Made commit);
      tag = Some (record { file = file; generation = generation; committed = Some version; doubted = None });
    })

-- What is given after a commit was made under that tag: for its own file and generation the version that it names, for others what was
-- given, where their entry stays. Nothing is in doubt then.
pub record GivesMade (mounted : Mounted) (before after : List HistoryRecord) (tag : Tag Version) : Type 0 where
  pub own : given_version mounted after tag.file tag.generation ≡ tag.committed
  pub others : (file generation : ℕ) → is_object file generation (Some tag) ≡ false
      → given_version mounted after file generation
      ≡ (if has_entry file generation (directory_of mounted after).now then given_version mounted before file generation else None)
  pub in_doubt : (file generation : ℕ) → (version_of file generation mounted after).if_landed ≡ None

abbrev pub MadeCommitsGive : Type 0
MadeCommitsGive =
    (mounted : Mounted) (before : List HistoryRecord) (r : HistoryRecord) (tag : Tag Version) → r.tag ≡ Some tag → HasRightTag mounted before r
    → is_made r.event ≡ true → GivesMade mounted before (before ++ r ∷ []) tag

-- What is given after a commit in doubt under that tag: what was given. Only for its own file and generation a version is in doubt.
pub record GivesInDoubt (mounted : Mounted) (before after : List HistoryRecord) (tag : Tag Version) : Type 0 where
  pub given : (file generation : ℕ) → given_version mounted after file generation ≡ given_version mounted before file generation
  pub own : (version_of tag.file tag.generation mounted after).if_landed ≡ Some tag.doubted
  pub others : (file generation : ℕ) → is_object file generation (Some tag) ≡ false → (version_of file generation mounted after).if_landed ≡ None

abbrev pub DoubtfulCommitsGive : Type 0
DoubtfulCommitsGive =
    (mounted : Mounted) (before : List HistoryRecord) (r : HistoryRecord) (tag : Tag Version) → r.tag ≡ Some tag → HasRightTag mounted before r
    → is_doubtful r.event ≡ true → GivesInDoubt mounted before (before ++ r ∷ []) tag

-- What is given once the doubt landed: where the landed directory has an entry, the version that the doubt leaves, or that stood.
abbrev pub LandingsGive : Type 0
LandingsGive =
    (mounted : Mounted) (before : List HistoryRecord) (commit file generation : ℕ)
    → given_version mounted (before ++ landing_of commit ∷ []) file generation
    ≡ (if has_entry file generation (as_landed (directory_of mounted before)).now then (as_landed (version_of file generation mounted before)).now else None)
