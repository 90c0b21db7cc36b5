-- A bench that was mounted, and one that was not.
use Rattle.std.specs.Prelude.{◌≡◌, ℕ, IsTrue}
use Rattle.disk_model.specs.State.{FileState}
use Rattle.node_image.specs.References.{current_format}
use Rattle.crash_core.specs.EntryLists.{AreCurrent}
use Rattle.hmac_keys.specs.declared.Keys.{Keys}
use Rattle.tee_types.specs.Limits.{directory_file}
use Rattle.rpmb_card.specs.Port.{PortState}
use Rattle.crash_core.specs.Opening.{opening_map}
use Rattle.store_model.specs.Object.{ObjectMap}
use Rattle.tee_types.specs.declared.reply.Cause.TheVariants.{Fault}
use Rattle.tee_types.specs.declared.reply.Device.TheVariants.{File}
use Rattle.store_commit.specs.declared.fault.MountFault.{MountFault}
use Rattle.store_commit.specs.declared.fault.MountFault.TheVariants.{Failed}
use Rattle.store_commit.specs.Causes.{counts}
use Rattle.store_commit.specs.Counts.{RefusalNotOfCard}
use Rattle.store_commit.specs.Gates.{gate_sides}
use Rattle.store_commit.specs.Mounts.{IsOfCurrentFormat, LeavesDevices, MountDiffers, OpensGate, TellsFailure}
use Rattle.object_calls.specs.OldStores.{GateRefused}
use Rattle.object_calls.specs.Begins.{IsWholeOpening, MountsAsRead}
use Rattle.object_calls.specs.Opening.{IsKeyed, OpeningValue, bench_files, entries_in}
use Rattle.object_calls.specs.MountRefusals.{BenchCounts, BenchHeard}
use Rattle.object_calls.specs.Syncing.{StopsSyncing, SyncsNamed}
use Rattle.run_acts.specs.Benches.{BenchState, KeepsObjectFiles}
use Rattle.run_acts.specs.Between.{AreSound}

module _ {F R : Type 0} (of_file : F → FileState) (of_port : R → PortState) where
  -- The bench was mounted under these keys, as it then stands: the card's block named the directory, which the file has, and each file
  -- that an entry names was synced.
  pub record IsMounted (keys : Keys) (old : BenchState) (o : OpeningValue F R) : Type 0 where
    pub gate : OpensGate (old.files directory_file) old.card keys (gate_sides of_file of_port o.gate)
    pub files : SyncsNamed (entries_in o) 256 old.files (bench_files of_file o)
    pub keyed : IsKeyed keys o
    -- each of these files is of the current format
    pub current : (o.gate.dir.dir.root.format ≡ current_format) × AreCurrent (entries_in o)
    -- a calm port stays so
    pub calm : IsTrue old.card.calm → IsTrue (of_port o.gate.host.port).calm
    -- where the directory's file can be followed, its objects are those that the bench mounts to as its files read
    pub mounted : MountsAsRead of_file (old.files directory_file) old.card keys o
    -- every picture that a crash may leave mounts to them
    pub opens : IsWholeOpening of_file of_port o

  -- the objects of a store that is mounted
  abbrev pub objects_in : Keys → OpeningValue F R → ObjectMap
  objects_in keys o = opening_map keys (bench_files of_file o) (entries_in o)

-- the gate refused, and no file of an object was called
pub record IsGateRefused (keys : Keys) (old new : BenchState) (drew draws : ℕ) (fault : MountFault) : Type 0 where
  pub refused : GateRefused (old.files directory_file) (new.files directory_file) old.card new.card keys drew draws fault
  pub differs : MountDiffers (new.files directory_file) old.card keys fault
  pub same : KeepsObjectFiles old new

-- Either that, or the sync of an object's file failed.
abbrev pub StopsMounting : Keys → (old new : BenchState) → (drew draws : ℕ) → MountFault → Type 0
StopsMounting keys old new drew draws (Failed (Fault (File n) count)) = StopsSyncing old.files new.files (Fault (File n) count)
StopsMounting keys old new drew draws fault = IsGateRefused keys old new drew draws fault

-- The bench was not mounted, and what is then left of it: `drew` and `draws` count the draws that failed, before and after.
pub record IsMountRefused (keys : Keys) (old new : BenchState) (drew draws : ℕ) (fault : MountFault) : Type 0 where
  pub refused : StopsMounting keys old new drew draws fault
  -- a directory that is refused is none of the old format
  pub only : IsOfCurrentFormat old.card keys fault
  -- a failure is told as one, and not within a fault of the directory
  pub told : TellsFailure fault
  -- what holds of every file
  pub sound : AreSound old.files
  -- what was heard of the card, whatever it is
  pub heard : BenchHeard (old.files directory_file) (new.files directory_file) old.card new.card keys fault
  pub counted : BenchCounts (counts (old.files directory_file) old.card drew) (counts (new.files directory_file) new.card draws) fault
  pub leaves : LeavesDevices (old.files directory_file) (new.files directory_file) old.card new.card
  -- a calm port stays so, and is not accused
  pub calm : IsTrue old.card.calm → IsTrue new.card.calm × RefusalNotOfCard fault
