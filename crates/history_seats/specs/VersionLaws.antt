-- What a slot's view tells of its file after the whole history.
use Rattle.std.specs.Prelude.{◌≡◌, ◌⊎◌, ℕ, true, false, List, ◌∷◌, ◌++◌, Option, None}
use Rattle.std.specs.List.{list_any}
use Rattle.history_seats.specs.Records.{Version, HistoryRecord, concerns_object}
use Rattle.history_seats.specs.Settling.{calm, open_from, settling, settled}
use Rattle.history_seats.specs.Mounts.{Entry, Mounted}
use Rattle.history_seats.specs.Versions.{version_after, version_of}
use Rattle.history_seats.specs.Directory.{has_entry, given_version}
use Rattle.history_seats.specs.Known.{version_from, directory_from, IsKnown}
use Rattle.history_seats.specs.Views.{GateView, SlotView}
use Rattle.history_seats.specs.Rule.{SlotFits}

-- The last record whose tag names a file's generation decides their version, up to the event that settles its doubt.
abbrev pub LastTagsDecide : Type 0
LastTagsDecide =
    (file generation : ℕ) (mounted : Mounted) (front back : List HistoryRecord) (r : HistoryRecord)
    → concerns_object file generation r ≡ true → list_any (concerns_object file generation) back ≡ false
    → version_of file generation mounted (front ++ r ∷ back)
    ≡ settled (settling back) (version_after r.event r.tag (version_of file generation mounted front))

-- A slot's view tells the version of its file after the whole history: past what it has seen, only the event that settles its doubt
-- counts, and the gate's place.
abbrev pub SlotsTellVersions : Type 0
SlotsTellVersions =
    (gate : GateView) (slot : SlotView) (fits : SlotFits gate slot)
    → version_from gate.decided slot.file slot.generation slot.mounted gate.all
    ≡ open_from gate.decided gate.all
    (settled (settling fits.sees.begins.rest) (version_from slot.decided slot.file slot.generation slot.mounted slot.seen))

-- what the whole history gives for a slot's file and generation, where its view tells this version and these entries
pub record IsGiven (told : Option Version) (entries : List Entry) (file generation : ℕ) (given : Option Version) : Type 0 where
  -- that version, or nothing
  pub version : (given ≡ None) ⊎ (given ≡ told)
  -- nothing where no entry has them
  pub nothing : has_entry file generation entries ≡ false → given ≡ None

-- So the whole history gives for its file and generation what the view tells, or nothing; and nothing where the view tells of no entry.
abbrev pub SlotsTellGiven : Type 0
SlotsTellGiven =
    (gate : GateView) (slot : SlotView) (fits : SlotFits gate slot)
    → let settle = settling fits.sees.begins.rest in
    IsGiven
    (settled settle (version_from slot.decided slot.file slot.generation slot.mounted slot.seen)).now
    (settled settle (directory_from slot.decided slot.mounted slot.seen)).now
    slot.file slot.generation
    (given_version slot.mounted gate.all slot.file slot.generation)

-- What the whole history gives for a slot's file, or leaves there by a doubt, the view knows.
abbrev pub SlotsKnowEntries : Type 0
SlotsKnowEntries =
    (gate : GateView) (slot : SlotView) (v : Version) → SlotFits gate slot
    → IsKnown gate.decided slot.mounted gate.all slot.file v → IsKnown slot.decided slot.mounted slot.seen slot.file v

-- A version that no doubt touches in a slot's view stands after the whole history, untouched by a doubt.
abbrev pub CalmVersionsStay : Type 0
CalmVersionsStay =
    (gate : GateView) (slot : SlotView) (version : Option Version) → SlotFits gate slot
    → version_from slot.decided slot.file slot.generation slot.mounted slot.seen ≡ calm version
    → version_from gate.decided slot.file slot.generation slot.mounted gate.all ≡ calm version
