-- The gate's entries beside the history's: each has its version, and the versions are real.
use Rattle.std.specs.Prelude.{◌≡◌, ℕ, List, Option, Some}
use Rattle.hmac_keys.specs.declared.Keys.{Keys}
use Rattle.dir_records.specs.declared.entry.DirEntry.{DirEntry}
use Rattle.history_seats.specs.Records.{Version}
use Rattle.history_seats.specs.Mounts.{Entry}
use Rattle.crash_core.specs.EntryLists.{entry_at}
use Rattle.core_laws.specs.Listed.{AreListed}
use Rattle.core_laws.specs.Decodings.{IsReal}
use Rattle.core_laws.specs.Mapped.{Versions}
use Rattle.core_laws.specs.Listings.{HaveListedVersions}
use Rattle.core_laws.specs.EntryLaws.{AreUnique}

-- the version of each entry is real
abbrev pub AreReal : Keys → List (Option DirEntry) → Versions → Type 0
AreReal keys entries versions =
    (index : ℕ) (e : DirEntry) (v : Version) → entry_at entries index ≡ Some e → versions e.file e.generation ≡ Some v → IsReal keys v

-- The gate's entries are those that the history lists, no two of one name, and each has its version, which is real.
pub record AreMatched (keys : Keys) (entries : List (Option DirEntry)) (history : List Entry) (given : Versions) : Type 0 where
  pub listed : AreListed entries history
  pub unique : AreUnique history
  pub versions : HaveListedVersions entries given
  pub real : AreReal keys entries given
