-- The directory after some records, and which version they give for a file's generation.
use Rattle.std.specs.Prelude.{ℕ, Bool, not, if◌then◌else◌, List, [], ◌∷◌, map, filter, Option, Some, None, slice_index_or}
use Rattle.std.specs.List.{list_any, fold}
use Rattle.tee_types.specs.declared.call.Call.{Call}
use Rattle.tee_types.specs.declared.call.Call.TheVariants.{Create, Rename, Delete}
use Rattle.store_model.specs.declared.event.Event.{Event}
use Rattle.store_model.specs.declared.event.Event.TheVariants.{Call as CallEvent, Landed}
use Rattle.store_model.specs.declared.event.Mark.{Mark}
use Rattle.store_model.specs.declared.event.Mark.TheVariants.{Unchanged, Made, Doubtful}
use Rattle.store_model.specs.declared.name.ObjectName.{ObjectName}
use Rattle.store_model.specs.Name.{name_eq}
use Rattle.store_model.specs.Record.{Tag}
use Rattle.history_seats.specs.Records.{Version, HistoryRecord}
use Rattle.history_seats.specs.Settling.{Pending, as_landed}
use Rattle.history_seats.specs.Mounts.{Entry, Mounted}
use Rattle.history_seats.specs.Versions.{is_entry_of, version_of}

-- the entry of that name and the tag's file, in place of one of that name
abbrev pub with_entry : Tag Version → ObjectName → List Entry → List Entry
with_entry tag name entries =
    record { name = name; file = tag.file; generation = tag.generation } ∷ filter (λ e. not (name_eq name e.name)) entries

abbrev pub renamed : Tag Version → ObjectName → Entry → Entry
renamed tag name entry = if is_entry_of tag.file tag.generation entry then record entry { name = name } else entry

-- the entry of the tag's file has that name
abbrev pub with_name : Tag Version → ObjectName → List Entry → List Entry
with_name tag name entries = map (renamed tag name) entries

-- there is no entry of the tag's file
abbrev pub without_entry : Tag Version → List Entry → List Entry
without_entry tag entries = filter (λ e. not (is_entry_of tag.file tag.generation e)) entries

-- the entries after the commit of that call of an application, on the object with that tag
abbrev pub entries_tagged : List ℕ → Call → Tag Version → List Entry → List Entry
entries_tagged application (Create id flags attributes bytes) tag entries = with_entry tag (record { app = application; id = id }) entries
entries_tagged application (Rename handle id) tag entries = with_name tag (record { app = application; id = id }) entries
entries_tagged application (Delete handle) tag entries = without_entry tag entries
entries_tagged application _ tag entries = entries

-- a commit without a tag moves none
abbrev pub entries_committed : List ℕ → Call → Option (Tag Version) → List Entry → List Entry
entries_committed application call None entries = entries
entries_committed application call (Some tag) entries = entries_tagged application call tag entries

-- the entries after an event with that mark, where its commit leaves those
abbrev pub entries_marked : Mark → List Entry → Pending (List Entry) → Pending (List Entry)
entries_marked Unchanged committed p = p
entries_marked (Made commit) committed p = record { now = committed; if_landed = None }
entries_marked (Doubtful commit) committed p = record { now = p.now; if_landed = Some committed }

abbrev pub entries_after : List (List ℕ) → Event → Option (Tag Version) → Pending (List Entry) → Pending (List Entry)
entries_after applications (CallEvent session number call reply mark) tag p =
    entries_marked mark (entries_committed (slice_index_or applications session []) call tag p.now) p
entries_after applications (Landed commit) tag p = as_landed p

-- what one record does to the entries; the sessions are those of these applications
abbrev pub entries_next : List (List ℕ) → Pending (List Entry) → HistoryRecord → Pending (List Entry)
entries_next applications p r = entries_after applications r.event r.tag p

abbrev pub mounted_entries : Mounted → Pending (List Entry)
mounted_entries mounted = record { now = map (λ e. e.entry) mounted.entries; if_landed = None }

-- the directory after these records, from the mount on
abbrev pub directory_of : Mounted → List HistoryRecord → Pending (List Entry)
directory_of mounted records = fold (entries_next mounted.applications) (mounted_entries mounted) records

-- an entry has that file and generation
abbrev pub has_entry : (file generation : ℕ) → List Entry → Bool
has_entry file generation entries = list_any (is_entry_of file generation) entries

-- The version that these records and the mount give for a file's generation: nothing where no directory entry has them after these
-- records, else the version that stands.
abbrev pub given_version : Mounted → List HistoryRecord → (file generation : ℕ) → Option Version
given_version mounted records file generation =
    if has_entry file generation (directory_of mounted records).now
    then (version_of file generation mounted records).now
    else None
