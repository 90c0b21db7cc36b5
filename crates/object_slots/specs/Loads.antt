-- What loading an object by its entry answers.
use Rattle.std.specs.Prelude.{◌≡◌, ℕ, ◌+◌, List, length, Some, None, Result, Ok, Err, IfErr, OnOk, IsTrue}
use Rattle.disk_model.specs.State.{FileState}
use Rattle.disk_model.specs.Calls.{Rests}
use Rattle.disk_model.specs.Seen.{WasSeen}
use Rattle.aes_block.specs.WrappedKey.{unwrapped_of}
use Rattle.htree_file.specs.Opening.{IsVerified, load_of, table_of}
use Rattle.htree_file.specs.Selected.{Lies}
use Rattle.htree_file.specs.Standing.{Told}
use Rattle.block_file.specs.Reads.{AreReadBytes, after_calls}
use Rattle.store_model.specs.Object.{Damaged, Sound}
use Rattle.object_file.specs.MountedObject.{mounted_object, root_of}
use Rattle.dir_records.specs.declared.entry.DirEntry.{DirEntry}
use Rattle.object_file.specs.declared.fault.ObjectFault.{ObjectFault}
use Rattle.object_file.specs.Held.{held_in}
use Rattle.object_file.specs.Loading.{IsFirstRead, IsObjectFault, IsOutsideObject, ObjectDiffers, fault_of}
use Rattle.object_slots.specs.declared.fault.SlotFault.{SlotFault}
use Rattle.object_slots.specs.declared.fault.SlotFault.TheVariants.{Corrupt, NoEntropy}
use Rattle.object_slots.specs.SlotFaults.{HasCause}
use Rattle.object_slots.specs.SlotCalls.{ReadSteps}
use Rattle.object_slots.specs.SlotValues.{HeldObject, Holding, free, live}

-- The object was loaded by the entry, under the application's key.
pub record IsLoadedBy (old new : FileState) (tsk : List ℕ) (e : DirEntry) (o : HeldObject) : Type 0 where
  pub root_is : o.tree.root ≡ root_of e
  pub key : o.tree.key ≡ unwrapped_of tsk o.tree.tree.head.wrapped
  pub size : o.tree.tree.head.length ≡ 4096 + e.size
  pub attributes : length o.attributes ≡ e.attributes
  -- of any file
  pub verified : IsVerified o.tree.root o.tree.tree
  pub seen : WasSeen (Lies o.tree.tree.layout o.tree.tree.nodes o.tree.root.version) old new (λ image. table_of image o.tree.root ≡ Ok o.tree.tree)
  pub bytes : AreReadBytes o.tree.key o.tree.tree old new 0 o.attributes e.attributes
  pub first : IsFirstRead o.tree.key o.tree.tree old new o.attributes e.attributes
  -- of one that can be followed
  pub loads : Told old new → load_of new.reads o.tree.root ≡ Ok o.tree.tree
  pub object : Told old new → mounted_object tsk new.reads e ≡ Sound (held_in o new.reads)
  pub faultless : Told old new → fault_of tsk new.reads e ≡ None

-- Something stands against the entry: its tree does not load, has another length, or its block 0 is bad.
pub record IsRefusedBy (old new : FileState) (tsk : List ℕ) (e : DirEntry) : Type 0 where
  pub fault : ObjectFault
  pub kind : IsObjectFault fault
  pub inside : IsOutsideObject fault → ⊥
  -- of any file: what the fault carries differs so, as the file reads when the call ends
  pub differs : ObjectDiffers tsk new e fault
  -- of one that can be followed
  pub stands : Told old new → fault_of tsk new.reads e ≡ Some fault
  pub damaged : Told old new → mounted_object tsk new.reads e ≡ Damaged e.size

-- why loading is refused
abbrev pub LoadFault : (old new : FileState) → (tsk : List ℕ) → DirEntry → SlotFault → Type 0
LoadFault old new tsk e Corrupt = IsRefusedBy old new tsk e
LoadFault old new tsk e (NoEntropy count) = ⊥
LoadFault old new tsk e fault = Unit {0}

abbrev pub LoadLeaves : (old new : FileState) → (tsk : List ℕ) → DirEntry → Holding → {A : Type 0} → Result A SlotFault → Type 0
LoadLeaves old new tsk e now (Ok done) = (o : HeldObject) × (now ≡ live o) × IsLoadedBy old new tsk e o
LoadLeaves old new tsk e now (Err fault) = now ≡ free

-- What loading answers, and what is then held.
pub record LoadsObject (old new : FileState) (tsk : List ℕ) (e : DirEntry) (now : Holding) {A : Type 0} (result : Result A SlotFault) : Type 0 where
  pub leaves : LoadLeaves old new tsk e now result
  pub refused : IfErr result (LoadFault old new tsk e)
  pub rests : Rests old new
  pub cause : HasCause old new result
  pub steps : ReadSteps old new
  -- three calls of the file: a read of head and nodes, one of the length, and one of block 0
  pub three : OnOk result (IsTrue old.tells_arms → new.arms ≡ after_calls 3 old.arms)
