-- Which records have a tag, and what it says.
use Rattle.std.specs.Prelude.{◌≡◌, ℕ, true, false, ◌&&◌, List, [], ◌∷◌, ◌++◌, Option, Some, None, All, is_some}
use Rattle.store_model.specs.declared.event.Event.{Event}
use Rattle.store_model.specs.declared.event.Event.TheVariants.{Call as CallEvent, Landed}
use Rattle.store_model.specs.Record.{Tag, concerns_file, fault_in_reply}
use Rattle.history_seats.specs.Records.{Version, HistoryRecord}
use Rattle.history_seats.specs.Settling.{as_landed, commits, is_doubtful, is_landing, is_made}
use Rattle.history_seats.specs.Mounts.{Mounted}
use Rattle.history_seats.specs.Directory.{directory_of, given_version, has_entry}

-- the object file whose fault the event's reply carries
abbrev pub faulty_file : Event → Option ℕ
faulty_file (CallEvent session number call reply mark) = fault_in_reply reply
faulty_file (Landed commit) = None

-- a reply that carries a fault of an object file comes with that file in the tag
abbrev pub IsFaultTagged : HistoryRecord → Type 0
IsFaultTagged r = (file : ℕ) → faulty_file r.event ≡ Some file → concerns_file file r ≡ true

-- a commit, made or in doubt, comes with the tag of its object
abbrev pub IsCommitTagged : HistoryRecord → Type 0
IsCommitTagged r = commits r.event ≡ true → is_some r.tag ≡ true

-- the record has a tag where it needs one
pub record HasDueTag (r : HistoryRecord) : Type 0 where
  pub fault : IsFaultTagged r
  pub commit : IsCommitTagged r

abbrev pub AreTagged : List HistoryRecord → Type 0
AreTagged records = All HasDueTag records

-- What a tag says of its file and generation, behind these records: it names a version exactly where their object is there after the
-- event. That is the one that was given before, unless the event made a commit.
pub record IsTagRight (mounted : Mounted) (before : List HistoryRecord) (r : HistoryRecord) (tag : Tag Version) : Type 0 where
  pub on_a_call : is_landing r.event ≡ false
  pub stays : is_made r.event ≡ false → tag.committed ≡ given_version mounted before tag.file tag.generation
  pub made : is_made r.event ≡ true → is_some tag.committed ≡ has_entry tag.file tag.generation (directory_of mounted (before ++ r ∷ [])).now
  -- what its doubt leaves there, if the event is in doubt
  pub doubted : is_some tag.doubted ≡ (is_doubtful r.event && has_entry tag.file tag.generation (as_landed (directory_of mounted (before ++ r ∷ []))).now)

-- the record's tag is right, if it has one
abbrev pub HasRightTag : Mounted → List HistoryRecord → HistoryRecord → Type 0
HasRightTag mounted before r = (tag : Tag Version) → r.tag ≡ Some tag → IsTagRight mounted before r tag

-- each record's tag is right behind those before it
abbrev pub AreTagsRight : Mounted → (before records : List HistoryRecord) → Type 0
AreTagsRight mounted before [] = Unit {0}
AreTagsRight mounted before (r ∷ records) = HasRightTag mounted before r × AreTagsRight mounted (before ++ r ∷ []) records
