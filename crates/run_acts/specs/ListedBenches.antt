-- A bench whose objects were listed: it was mounted, each object was shown, and it was closed.
use Rattle.std.specs.Prelude.{◌≡◌, ◌≢◌, ℕ, List, IsTrue}
use Rattle.std.specs.Map.{keys_of}
use Rattle.disk_model.specs.State.{FileState}
use Rattle.htree_file.specs.Answers.{FileFailed, FilePassed}
use Rattle.htree_file.specs.Standing.{Told}
use Rattle.hmac_keys.specs.declared.Keys.{Keys}
use Rattle.rpmb_card.specs.Port.{PortState}
use Rattle.store_model.specs.Object.{ObjectMap}
use Rattle.tee_types.specs.declared.reply.Cause.TheVariants.{Fault}
use Rattle.tee_types.specs.declared.reply.Device.TheVariants.{File}
use Rattle.store_commit.specs.declared.fault.MountFault.{MountFault}
use Rattle.store_commit.specs.declared.fault.MountFault.TheVariants.{Failed, NoMemory}
use Rattle.object_calls.specs.Opening.{OpeningValue, bench_files, entries_in}
use Rattle.run_acts.specs.Lines.{objects_text}
use Rattle.run_acts.specs.Benches.{BenchState, HasPassed, HadMemory, IsStarved, IsWhole, KeepsDevices, opening_state}
use Rattle.run_acts.specs.Between.{AreSound}
use Rattle.run_acts.specs.ListedObjects.{IsCutOff, IsListed, objects_of}
use Rattle.run_acts.specs.MountedDevices.{IsMounted, IsMountRefused, objects_in}

-- The count of the file rose, and is carried; no other file failed. Where memory ran out nothing is said.
abbrev pub ShowCounts : (old new : ℕ → FileState) → MountFault → Type 0
ShowCounts old new (Failed (Fault (File n) count)) = FileFailed (old n) (new n) count × ((k : ℕ) → k ≢ n → FilePassed (old k) (new k))
ShowCounts old new NoMemory = Unit {0}
ShowCounts old new fault = ⊥

module _ {F R : Type 0} (of_file : F → FileState) (of_port : R → PortState) where
  -- The objects, in the order of their names, and their lines.
  pub record ListsBench (keys : Keys) (old new : BenchState) (objects : ObjectMap) (lines : List ℕ) : Type 0 where
    pub opened : OpeningValue F R
    pub mounts : IsMounted of_file of_port keys old opened
    -- what holds of every file
    pub sound : AreSound old.files
    -- each is the one that was shown
    pub shows : IsListed (entries_in opened) opened.storage_key (bench_files of_file opened) new.files lines
    pub objects_are : objects ≡ objects_of ((shows.listed).steps)
    pub lines_are : lines ≡ objects_text objects
    -- their names are those of the store
    pub names : keys_of objects ≡ keys_of (objects_in of_file of_port keys opened)
    -- where every file can be followed they are the objects of the store
    pub told : ((file : ℕ) → Told (bench_files of_file opened file) (new.files file)) → objects ≡ objects_in of_file of_port keys opened
    -- so where every file is honest
    pub honest : ((file : ℕ) → IsTrue (new.files file).honest) → objects ≡ objects_in of_file of_port keys opened
    pub card : new.card ≡ (opening_state of_file of_port opened).card
    pub keeps : KeepsDevices old new
    pub passed : HasPassed old new
    -- there is no file past the last
    pub past : IsWhole new

  -- the bench was mounted, and the listing ended at an object
  pub record IsCutShort (keys : Keys) (old new : BenchState) (drew draws : ℕ) (fault : MountFault) : Type 0 where
    pub opened : OpeningValue F R
    pub mounts : IsMounted of_file of_port keys old opened
    pub shows : IsCutOff (entries_in opened) opened.storage_key (bench_files of_file opened) new.files fault
    pub counted : ShowCounts old.files new.files fault
    pub card : new.card ≡ (opening_state of_file of_port opened).card
    pub card_passed : new.card.faults ≡ old.card.faults
    pub undrawn : draws ≡ drew

  -- The bench was not mounted, or an object could not be shown.
  pub data StopsListing (keys : Keys) (old new : BenchState) (drew draws : ℕ) (fault : MountFault) : Type 0 where
    unmounted : IsMountRefused keys old new drew draws fault → StopsListing keys old new drew draws fault
    unshown : IsCutShort keys old new drew draws fault → StopsListing keys old new drew draws fault

  -- Why nothing is listed: that, and in no call of a file did memory run out; or memory ran out, before any call, or in a call of a file,
  -- whatever was then answered.
  pub data ListRefusal (keys : Keys) (old new : BenchState) (drew draws : ℕ) (fault : MountFault) : Type 0 where
    stopped : StopsListing keys old new drew draws fault → HadMemory old new → ListRefusal keys old new drew draws fault
    unasked : fault ≡ NoMemory → new ≡ old → ListRefusal keys old new drew draws fault
    starved : (other : MountFault) → fault ≡ NoMemory → StopsListing keys old new drew draws other → IsStarved old new → ListRefusal keys old new drew draws fault

  pub record IsListRefused (keys : Keys) (old new : BenchState) (drew draws : ℕ) (fault : MountFault) : Type 0 where
    pub why : ListRefusal keys old new drew draws fault
    pub keeps : KeepsDevices old new
