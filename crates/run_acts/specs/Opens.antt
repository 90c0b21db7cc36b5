-- A bench that a run begins with: block 0 of its card was read, and where that was all zero the bench was formatted.
use Rattle.std.specs.Prelude.{◌≡◌, ◌==◌, ℕ, List, [], Bool, true, false, Ok, Err, IsTrue}
use Rattle.std.specs.List.{list_all}
use Rattle.disk_model.specs.State.{FileState}
use Rattle.htree_file.specs.Answers.{FilePassed}
use Rattle.hmac_keys.specs.declared.Keys.{Keys}
use Rattle.hmac_keys.specs.KeyTable.{rpmb_key}
use Rattle.tee_types.specs.Limits.{directory_file}
use Rattle.rpmb_card.specs.Card.{CardState}
use Rattle.rpmb_host.specs.Honest.{HasCard}
use Rattle.crash_core.specs.Mounting.{mounted}
use Rattle.crash_core.specs.Pictures.{IsPictureOf, Picture, block_zero}
use Rattle.store_commit.specs.declared.fault.MountFault.{MountFault}
use Rattle.store_commit.specs.declared.fault.MountFault.TheVariants.{NoMemory}
use Rattle.store_commit.specs.Causes.{counts}
use Rattle.store_commit.specs.Counts.{RefusalCounts}
use Rattle.store_commit.specs.Formats.{FormatGoesOn, FormatHeard, FormatRefused, Formats, IsFormatWritten, LeavesFormat}
use Rattle.store_commit.specs.Leaving.{KeepsPort}
use Rattle.store_commit.specs.Mounts.{CardRefused}
use Rattle.store_commit.specs.Reads.{AsksBlock, IsBlockRead, OfHost}
use Rattle.run_acts.specs.Benches.{BenchState, HadMemory, IsStarved, KeepsObjectFiles}
use Rattle.run_acts.specs.Between.{AreSound}

-- all bytes are zero
abbrev pub is_blank : List ℕ → Bool
is_blank block = list_all (λ byte. byte == 0) block

-- Block 0 was read, by one exchange with the card; no file was called.
pub record ReadsBlock (keys : Keys) (old new : BenchState) (block : List ℕ) : Type 0 where
  pub files : (file : ℕ) → new.files file ≡ old.files file
  pub card : new.card.card ≡ old.card.card
  pub port : KeepsPort old.card new.card
  pub passed : new.card.faults ≡ old.card.faults
  pub heard : IsBlockRead (rpmb_key keys.huk) old.card new.card block
  pub told : (card : CardState) → HasCard old.card (rpmb_key keys.huk) card → block_zero card ≡ block

-- It could not be read.
pub record IsBlockUnread (keys : Keys) (old new : BenchState) (drew draws : ℕ) (fault : MountFault) : Type 0 where
  pub files : (file : ℕ) → new.files file ≡ old.files file
  pub card : new.card.card ≡ old.card.card
  pub port : KeepsPort old.card new.card
  pub refused : CardRefused old.card new.card (rpmb_key keys.huk) drew draws fault
  pub heard : OfHost (λ f. AsksBlock (rpmb_key keys.huk) old.card new.card (Err f)) fault
  pub counted : (file : FileState) → RefusalCounts (counts file old.card drew) (counts file new.card draws) fault

-- where the directory's file is honest and the card was told and had the key, every picture mounts to no objects
abbrev pub HasNoObjects : Keys → (old new : BenchState) → Type 0
HasNoObjects keys old new =
    (before card : CardState) (picture : Picture) → HasCard old.card (rpmb_key keys.huk) before → HasCard new.card (rpmb_key keys.huk) card
    → IsPictureOf new.files card picture → IsTrue (new.files directory_file).honest → mounted keys picture ≡ Ok []

-- The bench was formatted.
pub record FormsBench (keys : Keys) (old new : BenchState) : Type 0 where
  pub formed : Formats (new.files directory_file) old.card new.card keys
  pub empty : HasNoObjects keys old new
  pub written : IsFormatWritten (new.files directory_file) old.card new.card keys
  pub goes_on : FormatGoesOn (old.files directory_file) (new.files directory_file) old.card new.card
  pub others : KeepsObjectFiles old new
  pub dir_passed : FilePassed (old.files directory_file) (new.files directory_file)
  pub card_passed : new.card.faults ≡ old.card.faults
  -- what holds of every file
  pub sound : AreSound new.files

-- It could not be.
pub record IsNotFormed (keys : Keys) (old new : BenchState) (drew draws : ℕ) (fault : MountFault) : Type 0 where
  pub refused : FormatRefused (old.files directory_file) (new.files directory_file) old.card new.card keys drew draws fault
  pub heard : FormatHeard (old.files directory_file) (new.files directory_file) old.card new.card keys fault
  pub counted : RefusalCounts (counts (old.files directory_file) old.card drew) (counts (new.files directory_file) new.card draws) fault
  pub left : LeavesFormat (new.files directory_file) old.card new.card keys
  pub goes_on : FormatGoesOn (old.files directory_file) (new.files directory_file) old.card new.card
  pub others : KeepsObjectFiles old new

-- The bench has a store as it was found, or a new one.
pub data OpensBench (keys : Keys) (old new : BenchState) : Type 0 where
  found : (block : List ℕ) → is_blank block ≡ false → ReadsBlock keys old new block → OpensBench keys old new
  made : (block : List ℕ) (between : BenchState) → is_blank block ≡ true → ReadsBlock keys old between block → FormsBench keys between new → OpensBench keys old new

-- Block 0 was not read, or it was zero and the bench was not formatted.
pub data StopsOpening (keys : Keys) (old new : BenchState) (drew draws : ℕ) (fault : MountFault) : Type 0 where
  unread : IsBlockUnread keys old new drew draws fault → StopsOpening keys old new drew draws fault
  unformed : (block : List ℕ) (between : BenchState) → is_blank block ≡ true → ReadsBlock keys old between block → IsNotFormed keys between new drew draws fault
      → StopsOpening keys old new drew draws fault

-- Why no bench is opened: that, and in no call of a file did memory run out; or memory ran out, before any call, or in a call of a file,
-- whatever was then answered.
pub data IsOpenRefused (keys : Keys) (old new : BenchState) (drew draws : ℕ) (fault : MountFault) : Type 0 where
  stopped : StopsOpening keys old new drew draws fault → HadMemory old new → IsOpenRefused keys old new drew draws fault
  unasked : fault ≡ NoMemory → new ≡ old → IsOpenRefused keys old new drew draws fault
  starved : (other : MountFault) → fault ≡ NoMemory → StopsOpening keys old new drew draws other → IsStarved old new → IsOpenRefused keys old new drew draws fault
