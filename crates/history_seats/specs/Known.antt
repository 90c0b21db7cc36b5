-- What records tell to a view whose place is z: there each doubt below z is decided, so that none of those leaves anything.
use Rattle.std.specs.Prelude.{◌≡◌, ◌⊎◌, ℕ, List, Option, Some}
use Rattle.store_model.specs.Machine.{Session}
use Rattle.store_model.specs.ReplayState.{ReplayState, replay}
use Rattle.history_seats.specs.Records.{Version, HistoryRecord}
use Rattle.history_seats.specs.Settling.{Pending, open_from}
use Rattle.history_seats.specs.Mounts.{Entry, Mounted}
use Rattle.history_seats.specs.Versions.{version_of}
use Rattle.history_seats.specs.Directory.{directory_of, given_version}
use Rattle.history_seats.specs.Sessions.{session_of}

-- the version of a file's generation, as it stands and as the doubt leaves it
abbrev pub version_from : (z file generation : ℕ) → Mounted → List HistoryRecord → Pending (Option Version)
version_from z file generation mounted records = open_from z records (version_of file generation mounted records)

-- the directory
abbrev pub directory_from : ℕ → Mounted → List HistoryRecord → Pending (List Entry)
directory_from z mounted records = open_from z records (directory_of mounted records)

-- a session of a phase that begins so
abbrev pub session_from : (z session : ℕ) → ReplayState → List HistoryRecord → Pending Session
session_from z session start records = open_from z records (session_of session (replay start records))

-- the records give the version for some generation of the file
abbrev pub IsGivenNow : Mounted → List HistoryRecord → ℕ → Version → Type 0
IsGivenNow mounted records file v = (generation : ℕ) × (given_version mounted records file generation ≡ Some v)

-- a doubt leaves the version for some generation of the file
abbrev pub IsLeftInDoubt : ℕ → Mounted → List HistoryRecord → ℕ → Version → Type 0
IsLeftInDoubt z mounted records file v = (generation : ℕ) × ((version_from z file generation mounted records).if_landed ≡ Some (Some v))

-- one or the other
abbrev pub IsKnown : ℕ → Mounted → List HistoryRecord → ℕ → Version → Type 0
IsKnown z mounted records file v = IsGivenNow mounted records file v ⊎ IsLeftInDoubt z mounted records file v
