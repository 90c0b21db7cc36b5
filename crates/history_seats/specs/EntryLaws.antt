-- The entries of the directory: what landings bring, which have a version, and what other events leave.
use Rattle.std.specs.Prelude.{◌≡◌, ◌≤◌, ℕ, true, false, List, [], ◌∷◌, ◌++◌, length, Some, is_some}
use Rattle.store_model.specs.declared.event.Mark.TheVariants.{Unchanged}
use Rattle.history_seats.specs.Records.{HistoryRecord, concerns_object}
use Rattle.history_seats.specs.Settling.{as_landed, HasMark, IsOpenDoubt}
use Rattle.history_seats.specs.Mounts.{Mounted}
use Rattle.history_seats.specs.Versions.{version_of}
use Rattle.history_seats.specs.Directory.{directory_of, has_entry, given_version}
use Rattle.history_seats.specs.Tags.{HasRightTag}
use Rattle.history_seats.specs.Known.{version_from}
use Rattle.history_seats.specs.Views.{GateView}
use Rattle.history_seats.specs.Rule.{IsSound}

-- A landing brings no entry of a file's generation that its doubt does not name.
abbrev pub LandingsBringNamed : Type 0
LandingsBringNamed =
    (file generation : ℕ) (mounted : Mounted) (records : List HistoryRecord) (commit : ℕ) (doubt : IsOpenDoubt commit 0 records)
    → concerns_object file generation doubt.doubted ≡ false
    → has_entry file generation (as_landed (directory_of mounted records)).now ≡ true
    → has_entry file generation (directory_of mounted records).now ≡ true

-- Each entry of the directory has a version, as it stands and as the doubt leaves it.
pub record HaveVersions (mounted : Mounted) (records : List HistoryRecord) (file generation : ℕ) : Type 0 where
  pub now : has_entry file generation (directory_of mounted records).now ≡ true → is_some (given_version mounted records file generation) ≡ true
  pub landed : has_entry file generation (as_landed (directory_of mounted records)).now ≡ true
      → is_some (as_landed (version_of file generation mounted records)).now ≡ true

abbrev pub EntriesHaveVersions : Type 0
EntriesHaveVersions =
    (gate : GateView) (mounted : Mounted) (file generation : ℕ) → IsSound gate → gate.mounted ≡ Some mounted
    → HaveVersions mounted gate.all file generation

-- An event with mark Unchanged leaves the directory, what is given and what is left in doubt.
pub record IsLeft (mounted : Mounted) (before after : List HistoryRecord) : Type 0 where
  pub directory : directory_of mounted after ≡ directory_of mounted before
  pub given : (file generation : ℕ) → given_version mounted after file generation ≡ given_version mounted before file generation
  -- from each place of before
  pub in_doubt : (z file generation : ℕ) → z ≤ length before
      → (version_from z file generation mounted after).if_landed ≡ (version_from z file generation mounted before).if_landed

abbrev pub UnchangedEventsLeave : Type 0
UnchangedEventsLeave =
    (mounted : Mounted) (records : List HistoryRecord) (r : HistoryRecord) → HasMark Unchanged r.event → HasRightTag mounted records r
    → IsLeft mounted records (records ++ r ∷ [])
