-- Loading that is refused.
use Rattle.std.proofs.Common.{◌≡◌, ◌⊎◌, inl, inr, ℕ, List, Some, Err, refl}
use Rattle.disk_model.specs.State.{FileState, Sound}
use Rattle.disk_model.specs.Calls.{Rests}
use Rattle.htree_file.specs.declared.fault.TreeFault.TheVariants.{BadHead, BadTag, Damaged as DamagedNode, Failed, NoEntropy, NoMemory, Short}
use Rattle.htree_file.specs.Standing.{Told}
use Rattle.store_model.specs.Object.{Damaged}
use Rattle.object_file.specs.MountedObject.{mounted_object}
use Rattle.dir_records.specs.declared.entry.DirEntry.{DirEntry}
use Rattle.object_file.specs.declared.fault.ObjectFault.{ObjectFault}
use Rattle.object_file.specs.declared.fault.ObjectFault.TheVariants.{Tree, WrongSize}
use Rattle.object_file.specs.Loading.{IsObjectFault, IsOutsideObject, ObjectCause, ObjectDiffers, fault_of}
use Rattle.object_slots.specs.SlotFaults.{FaultCause, load_fault}
use Rattle.object_slots.specs.Loads.{IsRefusedBy, LoadFault, LoadsObject}
use Rattle.object_slots.specs.SlotValues.{free}
use Rattle.object_slots.proofs.FaultLaws.{fault_cause}
use Rattle.object_slots.proofs.StepLaws.{read_steps}

inside_of : (O P : Type 0) → (O → ⊥) → O ⊎ P → P
inside_of O P not (inl out) = absurd (not out)
inside_of O P not (inr is) = is

load_cause : (old new : FileState) (fault : ObjectFault) → ObjectCause old new fault → FaultCause old new (load_fault fault)
load_cause old new (Tree fault) cause = fault_cause old new fault cause
load_cause old new (WrongSize entry head) cause = cause

module _ (old new : FileState) (tsk : List ℕ) (e : DirEntry) where
  refused_by : (fault : ObjectFault) → (IsOutsideObject fault → ⊥) → IsObjectFault fault → ObjectDiffers tsk new e fault
      → IsOutsideObject fault ⊎ (Told old new → fault_of tsk new.reads e ≡ Some fault) → IsOutsideObject fault ⊎ (Told old new → mounted_object tsk new.reads e ≡ Damaged e.size)
      → IsRefusedBy old new tsk e
  refused_by fault inside kind differs stands damaged = record {
    fault = fault;
    kind = kind;
    inside = inside;
    differs = differs;
    stands = inside_of (IsOutsideObject fault) (Told old new → fault_of tsk new.reads e ≡ Some fault) inside stands;
    damaged = inside_of (IsOutsideObject fault) (Told old new → mounted_object tsk new.reads e ≡ Damaged e.size) inside damaged;
  }

  load_refusal : (fault : ObjectFault) → IsObjectFault fault → ObjectDiffers tsk new e fault
      → IsOutsideObject fault ⊎ (Told old new → fault_of tsk new.reads e ≡ Some fault) → IsOutsideObject fault ⊎ (Told old new → mounted_object tsk new.reads e ≡ Damaged e.size)
      → LoadFault old new tsk e (load_fault fault)
  load_refusal (WrongSize entry head) kind differs stands damaged = refused_by (WrongSize entry head) (λ out. out) kind differs stands damaged
  load_refusal (Tree (BadHead long greatest)) kind differs stands damaged = refused_by (Tree (BadHead long greatest)) (λ out. out) kind differs stands damaged
  load_refusal (Tree (Short end need)) kind differs stands damaged = refused_by (Tree (Short end need)) (λ out. out) kind differs stands damaged
  load_refusal (Tree (DamagedNode n want found)) kind differs stands damaged = refused_by (Tree (DamagedNode n want found)) (λ out. out) kind differs stands damaged
  load_refusal (Tree (BadTag k want found)) kind differs stands damaged = refused_by (Tree (BadTag k want found)) (λ out. out) kind differs stands damaged
  load_refusal (Tree (Failed count)) kind differs stands damaged = tt
  load_refusal (Tree (NoEntropy count)) kind differs stands damaged = absurd kind
  load_refusal (Tree NoMemory) kind differs stands damaged = tt

  pub load_refused : (A : Type 0) (fault : ObjectFault) → IsObjectFault fault → ObjectDiffers tsk new e fault
      → IsOutsideObject fault ⊎ (Told old new → fault_of tsk new.reads e ≡ Some fault) → IsOutsideObject fault ⊎ (Told old new → mounted_object tsk new.reads e ≡ Damaged e.size)
      → Sound new → Rests old new → ObjectCause old new fault → LoadsObject old new tsk e free {A = A} (Err (load_fault fault))
  load_refused A fault kind differs stands damaged sound rests cause = record {
    leaves = refl;
    refused = load_refusal fault kind differs stands damaged;
    rests = rests;
    cause = load_cause old new fault cause;
    three = tt;
    steps = read_steps old new sound rests;
  }
