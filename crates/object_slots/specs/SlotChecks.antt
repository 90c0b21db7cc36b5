-- What is answered where the blocks are read that a change of an object's data needs, and the change is not made.
use Rattle.std.specs.Prelude.{◌≡◌, ℕ, ◌==◌, ◌||◌, true, Result, IfErr, IfOk, IsTrue}
use Rattle.disk_model.specs.State.{FileState}
use Rattle.disk_model.specs.Calls.{Rests}
use Rattle.htree_file.specs.Opening.{IsVerified}
use Rattle.htree_file.specs.Standing.{Told}
use Rattle.page_bytes.specs.Ranges.{needs}
use Rattle.block_file.specs.Reads.{WasRead}
use Rattle.store_model.specs.Object.{Contents, Sound}
use Rattle.history_seats.specs.Records.{Version}
use Rattle.core_laws.specs.Masked.{GaveVersion, told_taints}
use Rattle.core_laws.specs.Stores.{Store}
use Rattle.object_file.specs.Held.{held_in}
use Rattle.object_slots.specs.declared.fault.SlotFault.{SlotFault}
use Rattle.object_slots.specs.SlotFaults.{HasCause}
use Rattle.object_slots.specs.SlotReads.{CorruptAnswer, ReadFault}
use Rattle.object_slots.specs.SlotStages.{DataChange}
use Rattle.object_slots.specs.SlotValues.{HeldObject, Holding, live}
use Rattle.object_slots.specs.GuardedStages.{VersionChange}

-- Each block that the change needs was read, or one of them is bad. Nothing was written, and the object is held as before.
pub record ChecksObject (old new : FileState) (o : HeldObject) (c : DataChange) (now : Holding) {A : Type 0} (result : Result A SlotFault) : Type 0 where
  pub holds : now ≡ live o
  pub rests : Rests old new
  pub read : IfOk result (λ done. (k : ℕ) → needs c.range k ≡ true → WasRead o.tree.key o.tree.tree old new k)
  pub refused : IfErr result (ReadFault old new o (needs c.range))
  pub corrupt : Told old new → CorruptAnswer (held_in o old.reads) c.asked result
  pub verified : IsVerified o.tree.root o.tree.tree
  pub cause : HasCause old new result

-- In terms of the object's version: it is refused as corrupt where a block that the change needs is bad, as an honest file has it. Else the
-- file, honest or not, had given block 0 and each block that the change needs.
pub record ChecksVersion (store : Store) (file : FileState) (v : Version) (change : VersionChange) {A : Type 0} (result : Result A SlotFault) : Type 0 where
  pub corrupt : IsTrue file.honest → (c : Contents) → v.object ≡ Sound c → CorruptAnswer c change.asked result
  pub gave : IfOk result (λ done. GaveVersion store.keys (told_taints file) v (λ k. (k == 0) || needs change.range k))
