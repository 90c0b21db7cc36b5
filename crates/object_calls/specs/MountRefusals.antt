-- Why a bench is not mounted, and what is then left of it.
use Rattle.std.specs.Prelude.{◌≡◌, ◌≢◌, ◌⊎◌, ℕ, List}
use Rattle.disk_model.specs.State.{FileState}
use Rattle.hmac_keys.specs.declared.Keys.{Keys}
use Rattle.hmac_keys.specs.KeyTable.{rpmb_key}
use Rattle.tee_types.specs.Limits.{directory_file}
use Rattle.rpmb_card.specs.Port.{PortState}
use Rattle.tee_types.specs.declared.reply.Cause.TheVariants.{Fault}
use Rattle.tee_types.specs.declared.reply.Device.TheVariants.{File}
use Rattle.store_commit.specs.declared.fault.MountFault.{MountFault}
use Rattle.store_commit.specs.declared.fault.MountFault.TheVariants.{Failed, NoMemory}
use Rattle.store_commit.specs.Causes.{Counted}
use Rattle.store_commit.specs.Counts.{NoneRose, RefusalCounts}
use Rattle.store_commit.specs.Mounts.{HasRootRead, MountDiffers}
use Rattle.object_calls.specs.OldStores.{GateHeard, GateRefused}
use Rattle.object_calls.specs.OpeningFiles.{files_of}
use Rattle.object_calls.specs.Syncing.{StopsSyncing}

-- all files but the directory's are the same
abbrev pub SameObjectFiles : {F : Type 0} → (F → FileState) → (old new : List F) → Type 0
SameObjectFiles state old new = (file : ℕ) → file ≢ directory_file → files_of state new file ≡ files_of state old file

-- the gate refused, and no file of an object was called
pub record GateRefuses {F : Type 0} (state : F → FileState) (old new : List F) (p0 p1 : PortState) (keys : Keys) (drew draws : ℕ) (fault : MountFault) : Type 0 where
  pub refused : GateRefused (files_of state old directory_file) (files_of state new directory_file) p0 p1 keys drew draws fault
  pub differs : MountDiffers (files_of state new directory_file) p0 keys fault
  pub same : SameObjectFiles state old new

-- Either that, or the sync of an object's file failed.
abbrev pub BenchRefused : {F : Type 0} → (F → FileState) → (old new : List F) → (p0 p1 : PortState) → Keys → (drew draws : ℕ) → MountFault → Type 0
BenchRefused state old new p0 p1 keys drew draws (Failed (Fault (File n) count)) = StopsSyncing (files_of state old) (files_of state new) (Fault (File n) count)
BenchRefused state old new p0 p1 keys drew draws fault = GateRefuses state old new p0 p1 keys drew draws fault

-- What was heard of the card where a bench is not mounted, whatever the card is. Where the sync of an object's file failed, block 0 named
-- a directory; so it is where memory ran out, or the card was not asked.
abbrev pub BenchHeard : (old new : FileState) → (p0 p1 : PortState) → Keys → MountFault → Type 0
BenchHeard old new p0 p1 keys (Failed (Fault (File n) count)) = HasRootRead (rpmb_key keys.huk) p0 p1
BenchHeard old new p0 p1 keys NoMemory = (p1 ≡ p0) ⊎ HasRootRead (rpmb_key keys.huk) p0 p1
BenchHeard old new p0 p1 keys fault = GateHeard old new p0 p1 keys fault

-- The counts of the directory's file, the card and the entropy: the one that the fault is of rose, and no other.
abbrev pub BenchCounts : (old new : Counted) → MountFault → Type 0
BenchCounts old new (Failed (Fault (File n) count)) = NoneRose old new
BenchCounts old new fault = RefusalCounts old new fault
