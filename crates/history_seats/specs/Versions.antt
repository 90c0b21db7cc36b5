-- Which version of a file stands, by the tags of the records.
use Rattle.std.specs.Prelude.{ℕ, Bool, ◌==◌, ◌&&◌, if◌then◌else◌, List, [], ◌∷◌, Option, Some, None}
use Rattle.std.specs.List.{fold}
use Rattle.store_model.specs.declared.event.Event.{Event}
use Rattle.store_model.specs.declared.event.Event.TheVariants.{Call as CallEvent, Landed}
use Rattle.store_model.specs.declared.event.Mark.{Mark}
use Rattle.store_model.specs.declared.event.Mark.TheVariants.{Unchanged, Made, Doubtful}
use Rattle.store_model.specs.Record.{Tag}
use Rattle.history_seats.specs.Records.{Version, HistoryRecord, concerns_object}
use Rattle.history_seats.specs.Settling.{Pending, as_landed, settled_by}
use Rattle.history_seats.specs.Mounts.{MountedEntry, Mounted, Entry}

abbrev pub is_entry_of : (file generation : ℕ) → Entry → Bool
is_entry_of file generation entry = (entry.file == file) && (entry.generation == generation)

-- the version that an entry named at the mount
abbrev pub version_among : (file generation : ℕ) → List MountedEntry → Option Version
version_among file generation [] = None
version_among file generation (e ∷ entries) = if is_entry_of file generation e.entry then Some e.version else version_among file generation entries

abbrev pub mounted_version : (file generation : ℕ) → Mounted → Pending (Option Version)
mounted_version file generation mounted = record { now = version_among file generation mounted.entries; if_landed = None }

-- what a tag says is committed after its event, and what the doubt of its event leaves
abbrev pub committed_in : Option (Tag Version) → Option Version
committed_in None = None
committed_in (Some tag) = tag.committed

abbrev pub doubted_in : Option (Tag Version) → Option Version
doubted_in None = None
doubted_in (Some tag) = tag.doubted

abbrev pub version_marked : Mark → Option (Tag Version) → Pending (Option Version) → Pending (Option Version)
version_marked Unchanged tag p = record { now = committed_in tag; if_landed = p.if_landed }
version_marked (Made commit) tag p = record { now = committed_in tag; if_landed = None }
version_marked (Doubtful commit) tag p = record { now = committed_in tag; if_landed = Some (doubted_in tag) }

-- the version after an event with that tag; a landing has none
abbrev pub version_after : Event → Option (Tag Version) → Pending (Option Version) → Pending (Option Version)
version_after (CallEvent session number call reply mark) tag p = version_marked mark tag p
version_after (Landed commit) tag p = as_landed p

-- what one record does to the version of a file's generation: its tag says, where it names them, else the event may settle their doubt
abbrev pub version_next : (file generation : ℕ) → Pending (Option Version) → HistoryRecord → Pending (Option Version)
version_next file generation p r = if concerns_object file generation r then version_after r.event r.tag p else settled_by r.event p

-- The version of a file's generation after these records: that of the last tag, or that of its doubtful event once the doubt landed;
-- where no tag names them, that of the mount.
abbrev pub version_of : (file generation : ℕ) → Mounted → List HistoryRecord → Pending (Option Version)
version_of file generation mounted records = fold (version_next file generation) (mounted_version file generation mounted) records
