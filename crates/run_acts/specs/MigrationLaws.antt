-- When a bench is migrated to the end.
use Rattle.std.specs.Prelude.{ℕ, ◌≡◌, ◌==◌, ◌+◌, ◌≤◌, Bool, cond, List, Option, Ok, IsTrue}
use Rattle.std.specs.List.{count_by}
use Rattle.disk_model.specs.Faults.{Rose}
use Rattle.disk_model.specs.State.{FileState}
use Rattle.node_image.specs.declared.node.RootRef.{RootRef}
use Rattle.hmac_keys.specs.declared.Keys.{Keys}
use Rattle.hmac_keys.specs.KeyTable.{rpmb_key}
use Rattle.tee_types.specs.Limits.{directory_file}
use Rattle.dir_records.specs.declared.entry.DirEntry.{DirEntry}
use Rattle.rpmb_card.specs.Protocol.{last_counter}
use Rattle.rpmb_card.specs.Card.{CardState}
use Rattle.rpmb_card.specs.Port.{PortState}
use Rattle.rpmb_host.specs.Honest.{HasCard}
use Rattle.store_model.specs.Object.{ObjectMap}
use Rattle.crash_core.specs.CardBlock.{old_format, root_in}
use Rattle.crash_core.specs.Mounting.{mounted, mounted_directory}
use Rattle.crash_core.specs.Pictures.{AreAllHonest, IsPictureOf, Picture, block_zero}
use Rattle.store_commit.specs.declared.fault.MountFault.{MountFault}
use Rattle.store_commit.specs.declared.fault.MountFault.TheVariants.{NoMemory, OldFormat}
use Rattle.object_calls.specs.Migrated.{IsAllCurrent, store_of}
use Rattle.object_calls.specs.MovedEntries.{is_old}
use Rattle.run_acts.specs.Benches.{BenchState}
use Rattle.run_acts.specs.ListedBenches.{IsListRefused, ListsBench}
use Rattle.run_acts.specs.MigratedBenches.{IsBenchNotMoved, MovesBench}

-- The card's counter has room for what there is to move: one write for a directory of the old format, and one for each entry that is.
abbrev pub HasRoom : Keys → (handed : BenchState) → CardState → Type 0
HasRoom keys handed card =
    (root : RootRef) (entries : List (Option DirEntry)) → root_in (block_zero card) ≡ Ok root → mounted_directory keys (store_of handed.files card) ≡ Ok entries
    → card.counter + cond (root.format == old_format) 1 0 + count_by is_old entries ≤ last_counter

-- Every file stays honest, the card has the key and room, whatever a crash may leave of the bench that was handed in mounts, and no count of
-- faults rose.
pub record IsUndisturbed (keys : Keys) (drew draws : ℕ) (handed given : BenchState) : Type 0 where
  pub honest : AreAllHonest given.files
  pub card : CardState
  pub has : HasCard handed.card (rpmb_key keys.huk) card
  pub room : HasRoom keys handed card
  pub mounts : (picture : Picture) → IsPictureOf handed.files card picture → (objects : ObjectMap) × (mounted keys picture ≡ Ok objects)
  pub files : (file : ℕ) → Rose (handed.files file).faults (given.files file).faults → ⊥
  pub port : Rose handed.card.faults given.card.faults → ⊥
  pub drawn : Rose drew draws → ⊥

-- Such a bench is migrated, unless memory runs out.
abbrev pub UndisturbedBenchesAreMoved : Type 0
UndisturbedBenchesAreMoved =
    (keys : Keys) (drew draws : ℕ) (handed given : BenchState) (fault : MountFault) → IsUndisturbed keys drew draws handed given
    → IsBenchNotMoved keys handed given drew draws fault → fault ≡ NoMemory

-- And then its objects are listed, unless memory runs out.
abbrev pub MovedBenchesAreListed : {F R : Type 0} → (F → FileState) → (R → PortState) → Type 0
MovedBenchesAreListed of_file of_port =
    (keys : Keys) (drew draws : ℕ) (handed between given : BenchState) (directory : Bool) (moved : ℕ) (fault : MountFault) → IsUndisturbed keys drew draws handed given
    → MovesBench keys handed between directory moved → IsListRefused of_file of_port keys between given drew draws fault → fault ≡ NoMemory

-- Behind a migration no file of the old format is found, where the card has the key and the directory's file is honest still.
abbrev pub MovedBenchesAreCurrent : {F R : Type 0} → (F → FileState) → (R → PortState) → Type 0
MovedBenchesAreCurrent of_file of_port =
    (keys : Keys) (drew draws : ℕ) (handed between given : BenchState) (directory : Bool) (moved : ℕ) (card : CardState) (file : ℕ) → MovesBench keys handed between directory moved
    → HasCard handed.card (rpmb_key keys.huk) card → IsTrue (given.files directory_file).honest → IsListRefused of_file of_port keys between given drew draws (OldFormat file) → ⊥

-- And once its objects were listed all its files are of the current format still.
abbrev pub MigratedBenchesStayCurrent : {F R : Type 0} → (F → FileState) → (R → PortState) → Type 0
MigratedBenchesStayCurrent of_file of_port =
    (keys : Keys) (handed between given : BenchState) (directory : Bool) (moved : ℕ) (objects : ObjectMap) (lines : List ℕ) → MovesBench keys handed between directory moved
    → ListsBench of_file of_port keys between given objects lines → AreAllHonest given.files
    → (card : CardState) (picture : Picture) → HasCard given.card (rpmb_key keys.huk) card → IsPictureOf given.files card picture → IsAllCurrent keys picture
