-- The slot in whose file a new object was made, or was not.
use Rattle.std.proofs.Common.{Err, List, Ok, Result, lit<, subst, sym, ℕ, ◌<◌, ◌≡◌}
use Rattle.serial_calls.proofs.ClearSlots.{still_clear}
use Rattle.serial_calls.specs.Clearing.{IsClearSlot}
use Rattle.serial_calls.specs.ObjectMaking.{IsMadeSlot, MakesRoot}
use Rattle.crash_core.specs.DeviceKeys.{object_key}
use Rattle.disk_model.specs.State.{FileState}
use Rattle.history_seats.specs.Records.{Version}
use Rattle.call_steps.specs.NewObjects.{IsNewVersion, NewLeaves}
use Rattle.call_steps.specs.GuardedStages.{IsStagedSlot}
use Rattle.node_image.specs.References.{IsCurrent}
use Rattle.node_image.specs.declared.node.RootRef.{RootRef}
use Rattle.call_steps.proofs.CommittableSlots.{next_object}
use Rattle.call_steps.specs.Makes.{MakesObject}
use Rattle.call_steps.specs.SlotValues.{Holding, IsFree, SlotValue, without_stage}
use Rattle.call_steps.specs.declared.SlotFault.{SlotFault}
use Rattle.core_laws.specs.Stores.{Store}

pub made_slot : (store : Store) (old : FileState) (slot : SlotValue) (app attributes bytes tsk : List ℕ) (root : RootRef) → tsk ≡ object_key store.keys app
    → MakesObject old slot.file tsk attributes bytes slot.holds (Ok root) → NewLeaves store slot tsk attributes bytes (Ok root) → IsMadeSlot store slot app attributes bytes root
made_slot store old slot app attributes bytes tsk root key makes leaves =
    let left = leaves app key in
    let next : Version = left.0 in
    let staged : IsStagedSlot store slot next = left.1 in
    let of : IsNewVersion next app attributes bytes root = left.2 in
    let current : IsCurrent root = (subst (λ (n : ℕ). n < 2) (sym makes.leaves.2.version) (lit< tt), makes.leaves.2.format) in
    record {
      next = next;
      of = of;
      real = (next_object store.keys slot.file slot.holds next staged.has staged.after).of_next.real;
      current = subst IsCurrent (sym of.root_is) current;
      staged = staged;
      vacant = subst (λ (h : Holding). IsFree (without_stage h)) (sym makes.leaves.1) tt;
    }

-- what making it left: the object, or a clear slot
pub staged_root : (store : Store) (old new : SlotValue) (app attributes bytes tsk : List ℕ) (result : Result RootRef SlotFault) → tsk ≡ object_key store.keys app
    → MakesObject old.file new.file tsk attributes bytes new.holds result → NewLeaves store new tsk attributes bytes result → new ≡ record old { file = new.file; holds = new.holds } → IsClearSlot store old
    → MakesRoot store new app attributes bytes result
staged_root store old new app attributes bytes tsk (Ok root) key makes leaves same clear = made_slot store old.file new app attributes bytes tsk root key makes leaves
staged_root store old new app attributes bytes tsk (Err fault) key makes leaves same clear = still_clear store old new same leaves (subst IsFree (sym makes.leaves) tt) clear
