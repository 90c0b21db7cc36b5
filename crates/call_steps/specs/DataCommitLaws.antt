-- A write and a truncation that were staged may be brought to the gate.
use Rattle.std.specs.Prelude.{List, Option, false, length, true, ℕ, ◌+◌, ◌==◌, ◌≡◌, ◌≤◌}
use Rattle.commit_gate.specs.CallerSessions.{CallerSession}
use Rattle.call_rules.specs.declared.decision.OpenObject.{OpenObject}
use Rattle.crash_core.specs.declared.change.EntryChange.TheVariants.{Put}
use Rattle.disk_model.specs.State.{FileState}
use Rattle.history_seats.specs.Records.{Version}
use Rattle.history_seats.specs.Views.{GateView, SlotView}
use Rattle.commit_gate.specs.declared.guarded_gate.Closing.{Closing}
use Rattle.object_slots.specs.GuardedStages.{resize_of, write_of}
use Rattle.node_image.specs.declared.node.RootRef.{RootRef}
use Rattle.call_steps.specs.AtObject.{IsAtObject}
use Rattle.call_steps.specs.SlotCommits.{IsSlotCommit}
use Rattle.call_steps.specs.StagedVersions.{IsStagedVersion, change_versions, changed_entry}
use Rattle.commit_gate.specs.Gates.{GateValue}
use Rattle.store_model.specs.declared.session.Handle.{Handle}
use Rattle.core_laws.specs.Masked.{told_taints}
use Rattle.core_laws.specs.Stores.{Store}
use Rattle.tee_types.specs.Rights.{has, write_bit}
use Rattle.tee_types.specs.declared.call.Call.TheVariants.{Truncate, Write}
use Rattle.tee_types.specs.declared.reply.Reply.TheVariants.{Done}

-- The handle has the right to write, and the bytes are some, and fit.
pub record MayWrite (handle : Handle) (bytes : List ℕ) : Type 0 where
  pub right : has handle.flags write_bit ≡ true
  pub some : (length bytes == 0) ≡ false
  pub fits : handle.position + length bytes ≤ 1044480

-- The handle has the right to write, and the size is another, and fits.
pub record MayResize (handle : Handle) (old size : ℕ) : Type 0 where
  pub right : has handle.flags write_bit ≡ true
  pub other : (size == old) ≡ false
  pub fits : size ≤ 1044480

abbrev pub WritesMayCommit : (F R E : Type 0) → Type 0
WritesMayCommit F R E =
    (store : Store) (gate : GateValue F R) (knows : GateView) (closing : Option Closing) (caller : CallerSession E) (handle : ℕ) (found : OpenObject) (slot : SlotView) (v next : Version)
    (file : FileState) (root : RootRef) (bytes : List ℕ) → IsAtObject store gate knows closing caller handle found slot v → MayWrite found.handle bytes
    → told_taints file ≡ store.taints slot.file → IsStagedVersion store.keys file v next (write_of v.size found.handle.position bytes) root
    → IsSlotCommit store knows gate.dir.dir.entries gate.counter caller.number caller.made (Write handle bytes) Done
    (Put found.held.index (changed_entry found.held.entry next)) file slot (change_versions v next)

abbrev pub TruncationsMayCommit : (F R E : Type 0) → Type 0
TruncationsMayCommit F R E =
    (store : Store) (gate : GateValue F R) (knows : GateView) (closing : Option Closing) (caller : CallerSession E) (handle : ℕ) (found : OpenObject) (slot : SlotView) (v next : Version)
    (file : FileState) (root : RootRef) (size : ℕ) → IsAtObject store gate knows closing caller handle found slot v → MayResize found.handle v.size size
    → told_taints file ≡ store.taints slot.file → IsStagedVersion store.keys file v next (resize_of v.size size) root
    → IsSlotCommit store knows gate.dir.dir.entries gate.counter caller.number caller.made (Truncate handle size) Done
    (Put found.held.index (changed_entry found.held.entry next)) file slot (change_versions v next)
