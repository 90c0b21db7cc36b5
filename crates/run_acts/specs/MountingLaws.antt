-- Which benches are mounted, and which are refused.
use Rattle.std.specs.Prelude.{◌≡◌, ◌⊎◌, ℕ, List, Option, None, Some, Ok, IsTrue}
use Rattle.disk_model.specs.State.{FileState}
use Rattle.tee_types.specs.Limits.{directory_file, old_directory_file}
use Rattle.dir_records.specs.declared.entry.DirEntry.{DirEntry}
use Rattle.hmac_keys.specs.declared.Keys.{Keys}
use Rattle.hmac_keys.specs.KeyTable.{rpmb_key}
use Rattle.htree_file.specs.Standing.{Told}
use Rattle.rpmb_card.specs.Card.{CardState}
use Rattle.rpmb_card.specs.Port.{PortState}
use Rattle.rpmb_host.specs.Honest.{HasCard}
use Rattle.store_model.specs.ReplayState.{ReplayState}
use Rattle.crash_core.specs.Mounting.{mounted_directory}
use Rattle.crash_core.specs.OldFormats.{old_file}
use Rattle.crash_core.specs.Pictures.{block_zero}
use Rattle.store_commit.specs.Blocks.{HasOldRoot, picture_of}
use Rattle.store_commit.specs.declared.fault.MountFault.{MountFault}
use Rattle.store_commit.specs.declared.fault.MountFault.TheVariants.{Failed, NoMemory, OldFormat}
use Rattle.object_calls.specs.Opening.{OpeningValue, bench_files}
use Rattle.run_acts.specs.Benches.{BenchState}
use Rattle.run_acts.specs.Left.{HoldsLeft}
use Rattle.run_acts.specs.MountedDevices.{IsMounted, IsMountRefused}

-- a device failed, or memory ran out
abbrev pub IsOfDevice : MountFault → Type 0
IsOfDevice (Failed cause) = Unit {0}
IsOfDevice NoMemory = Unit {0}
IsOfDevice fault = ⊥

-- Where a card with the key is told and the directory's file can be followed, a bench of which a directory is read, and which has no file of
-- the old format, is mounted, unless a device fails or memory runs out.
abbrev pub MountingBenchesAreNotRefused : Type 0
MountingBenchesAreNotRefused =
    (keys : Keys) (old new : BenchState) (drew draws : ℕ) (fault : MountFault) (card : CardState) (entries : List (Option DirEntry))
    → IsMountRefused keys old new drew draws fault → HasCard old.card (rpmb_key keys.huk) card → Told (old.files directory_file) (new.files directory_file)
    → mounted_directory keys (picture_of (new.files directory_file).reads card) ≡ Ok entries → old_file keys (picture_of (new.files directory_file).reads card) ≡ None
    → IsOfDevice fault

-- So a bench that holds objects is mounted, where the directory's file is honest still, unless a device fails or memory runs out.
abbrev pub HeldBenchesAreNotRefused : Type 0
HeldBenchesAreNotRefused =
    (keys : Keys) (s : ReplayState) (old new : BenchState) (drew draws : ℕ) (fault : MountFault) (card : CardState)
    → HoldsLeft keys old s → IsMountRefused keys old new drew draws fault → HasCard old.card (rpmb_key keys.huk) card → IsTrue (new.files directory_file).honest → IsOfDevice fault

-- The first file of the old format: that of the directory, where block 0 names one of the old format; or else, where the directory's file can
-- be followed, the first that an entry names.
abbrev pub IsFirstOld : Keys → (old new : FileState) → CardState → (file : ℕ) → Type 0
IsFirstOld keys old new card file =
    ((file ≡ old_directory_file) × HasOldRoot (block_zero card)) ⊎ (Told old new × (old_file keys (picture_of new.reads card) ≡ Some file))

-- Where a card with the key is told, a bench that has such a file is refused for it, unless a device fails or memory runs out.
abbrev pub OldBenchesAreRefused : Type 0
OldBenchesAreRefused =
    (keys : Keys) (old new : BenchState) (drew draws : ℕ) (fault : MountFault) (card : CardState) (file : ℕ)
    → IsMountRefused keys old new drew draws fault → HasCard old.card (rpmb_key keys.huk) card
    → IsFirstOld keys (old.files directory_file) (new.files directory_file) card file → (fault ≡ OldFormat file) ⊎ IsOfDevice fault

-- And it is not mounted.
abbrev pub OldBenchesAreNotMounted : {F R : Type 0} → (F → FileState) → (R → PortState) → Type 0
OldBenchesAreNotMounted {F} {R} of_file of_port =
    (keys : Keys) (old : BenchState) (o : OpeningValue F R) (card : CardState) (file : ℕ)
    → IsMounted of_file of_port keys old o → HasCard old.card (rpmb_key keys.huk) card
    → IsFirstOld keys (old.files directory_file) (bench_files of_file o directory_file) card file → ⊥
