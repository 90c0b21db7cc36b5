-- Steps of reading an object whole.
use Rattle.std.specs.Prelude.{◌≡◌, ◌≢◌, ◌+◌, ◌*◌, ◌<◌, ℕ, Bool, true, false, not, List, length, get_or, Option, Some, None, Result, Ok, Err}
use Rattle.disk_model.specs.State.{FileState}
use Rattle.htree_file.specs.declared.fault.TreeFault.{TreeFault}
use Rattle.htree_file.specs.declared.fault.TreeFault.TheVariants.{Failed as FileFault, NoMemory as NoRoom}
use Rattle.htree_file.specs.Opening.{Loaded}
use Rattle.htree_file.specs.Pages.{page_in}
use Rattle.htree_file.specs.Standing.{Told}
use Rattle.tee_ports.specs.declared.failed.Failed.{Failed as FileFailure}
use Rattle.tree_paths.specs.declared.node_set.NodeSet.{NodeSet}
use Rattle.tree_paths.specs.Paths.{holds}
use Rattle.block_file.specs.Reads.{IsPage}
use Rattle.tee_types.specs.declared.reply.Cause.TheVariants.{Fault}
use Rattle.tee_types.specs.declared.reply.Device.TheVariants.{File}
use Rattle.object_file.specs.declared.fault.ObjectFault.{ObjectFault}
use Rattle.object_file.specs.declared.fault.ObjectFault.TheVariants.{Tree}
use Rattle.store_commit.specs.declared.fault.MountFault.{MountFault}
use Rattle.store_commit.specs.declared.fault.MountFault.TheVariants.{Failed, NoMemory}
use Rattle.object_calls.specs.declared.shown_object.ShownObject.{ShownObject}
use Rattle.object_calls.specs.declared.shown_object.ShownObject.TheVariants.{Damaged, Sound}
use Rattle.object_calls.specs.ShownObjects.{ShowsBlock, ShowsData, data_blocks}

-- the failure of a file that a fault is
abbrev pub failure_in : TreeFault → Option FileFailure
failure_in (FileFault count) = Some (record { count = count })
failure_in fault = None

-- what a fault in loading is
abbrev pub object_answer : (file : ℕ) → ObjectFault → Result ShownObject MountFault
object_answer file (Tree (FileFault count)) = Err (Failed (Fault (File file) count))
object_answer file (Tree NoRoom) = Err NoMemory
object_answer file fault = Ok Damaged

-- the front of data block k, from 0 on, was read so, or is zero
abbrev pub ShowsPart : (key : List ℕ) → Loaded → (old new : FileState) → (k : ℕ) → (part : List ℕ) → (good : Bool) → Type 0
ShowsPart key tree old new k part true = (page : List ℕ) × IsPage key tree old new (k + 1) page × ((i : ℕ) → i < length part → get_or part i 0 ≡ get_or page i 0)
ShowsPart key tree old new k part false = (Told old new → page_in old.reads key tree (k + 1) ≡ None) × ((i : ℕ) → i < length part → get_or part i 0 ≡ 0)

-- one data block more
pub record ShowsNext (key : List ℕ) (tree : Loaded) (old new : FileState) (size k : ℕ) (before after : List ℕ) (was now : NodeSet) : Type 0 where
  pub block : ShowsBlock key tree old new size k after (not (holds now (k + 1)))
  pub kept : (i : ℕ) → i < 4096 * k → get_or after i 0 ≡ get_or before i 0
  pub others : (n : ℕ) → n ≢ k + 1 → holds now n ≡ holds was n

-- all of a loaded object
abbrev pub ShowsLoaded : (attributes key : List ℕ) → Loaded → (old new : FileState) → (size : ℕ) → ShownObject → Type 0
ShowsLoaded attributes key tree old new size Damaged = ⊥
ShowsLoaded attributes key tree old new size (Sound front bytes bad) = (front ≡ attributes) × ShowsData key tree old new size (data_blocks size) bytes bad
