-- What a view knows of one generation of its file.
use Rattle.std.specs.Prelude.{◌≡◌, ◌⊎◌, ℕ, List, Option, Some}
use Rattle.history_seats.specs.Records.{HistoryRecord, Version}
use Rattle.history_seats.specs.Mounts.{Mounted}
use Rattle.history_seats.specs.Settling.{Pending}
use Rattle.history_seats.specs.Directory.{given_version}
use Rattle.history_seats.specs.Known.{version_from}
use Rattle.history_seats.specs.Views.{SlotView}

-- the records give the version for that generation of the file, or leave it there by a doubt at z or later
abbrev pub IsKnownFor : (z : ℕ) → Mounted → List HistoryRecord → (file generation : ℕ) → Version → Type 0
IsKnownFor z mounted records file generation v =
    (given_version mounted records file generation ≡ Some v) ⊎ ((version_from z file generation mounted records).if_landed ≡ Some (Some v))

abbrev pub KnowsFor : SlotView → (generation : ℕ) → Version → Type 0
KnowsFor view generation v = IsKnownFor view.decided view.mounted view.seen view.file generation v

-- The view knows a version of no other generation of its file than its own.
abbrev pub KnowsItsOwn : SlotView → Type 0
KnowsItsOwn view = (generation : ℕ) (v : Version) → KnowsFor view generation v → generation ≡ view.generation

-- the version of its file and generation, as its records leave it
abbrev pub own_version : SlotView → Pending (Option Version)
own_version view = version_from view.decided view.file view.generation view.mounted view.seen
