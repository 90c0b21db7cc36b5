-- What a mount tells of the directory's entries: the version that each names, as its file reads.
use Rattle.std.specs.Prelude.{ℕ, List, [], ◌∷◌, map, Option, Some, None}
use Rattle.disk_model.specs.State.{FileState}
use Rattle.hmac_keys.specs.declared.Keys.{Keys}
use Rattle.dir_records.specs.declared.entry.DirEntry.{DirEntry}
use Rattle.history_seats.specs.Records.{Version}
use Rattle.history_seats.specs.Mounts.{MountedEntry}
use Rattle.crash_core.specs.MountedObject.{root_of}
use Rattle.core_laws.specs.Listed.{history_entry}
use Rattle.core_laws.specs.Images.{version_of_image}

-- the entries that are not free
abbrev pub listed : List (Option DirEntry) → List DirEntry
listed [] = []
listed (None ∷ entries) = listed entries
listed (Some e ∷ entries) = e ∷ listed entries

abbrev pub version_in : Keys → (ℕ → FileState) → DirEntry → Version
version_in keys files e = version_of_image keys (files e.file).reads (root_of e) e.app e.size e.attributes

abbrev pub mounted_entry : Keys → (ℕ → FileState) → DirEntry → MountedEntry
mounted_entry keys files e = record { entry = history_entry e; version = version_in keys files e }

abbrev pub mounted_entries : Keys → (ℕ → FileState) → List (Option DirEntry) → List MountedEntry
mounted_entries keys files entries = map (mounted_entry keys files) (listed entries)
