-- A rename and a delete may be brought to the gate. They stage nothing in the object's file.
use Rattle.std.specs.Prelude.{List, None, Option, Some, ℕ, ◌≡◌}
use Rattle.commit_gate.specs.CallerSessions.{CallerSession}
use Rattle.call_rules.specs.Matches.{Matches}
use Rattle.call_rules.specs.Objects.{IsDone}
use Rattle.call_rules.specs.declared.decision.OpenObject.{OpenObject}
use Rattle.crash_core.specs.declared.change.EntryChange.TheVariants.{Clear, Put}
use Rattle.call_rules.specs.Index.{named}
use Rattle.dir_records.specs.declared.entry.DirEntry.{DirEntry}
use Rattle.disk_model.specs.State.{FileState}
use Rattle.history_seats.specs.Changes.{TagVersions}
use Rattle.history_seats.specs.Directory.{given_version}
use Rattle.history_seats.specs.Records.{Version}
use Rattle.history_seats.specs.Settling.{calm}
use Rattle.history_seats.specs.Views.{GateView, Sight, SlotView}
use Rattle.commit_gate.specs.Commits.{IsCalm}
use Rattle.commit_gate.specs.declared.guarded_gate.Closing.{Closing}
use Rattle.object_slots.specs.KnownFor.{own_version}
use Rattle.object_slots.specs.GuardedSlots.{SlotInvariant}
use Rattle.call_steps.specs.AtObject.{IsAtObject}
use Rattle.call_steps.specs.CommittableSlots.{IsCommittableSlot, SeesWhole}
use Rattle.call_steps.specs.SlotCommits.{IsSlotCommit}
use Rattle.object_slots.specs.SlotValues.{IsFree, SlotValue}
use Rattle.commit_gate.specs.Gates.{GateValue}
use Rattle.call_rules.specs.EntryNames.{IsEntryNamed}
use Rattle.store_model.specs.Machine.{MachineState, handle_at}
use Rattle.store_model.specs.declared.session.Handle.{Handle}
use Rattle.core_laws.specs.Answered.{AreAnswered}
use Rattle.core_laws.specs.TamperScenarios.{TamperScenario}
use Rattle.core_laws.specs.Stores.{Store}
use Rattle.tee_types.specs.declared.call.Call.{Call}
use Rattle.tee_types.specs.declared.call.Call.TheVariants.{Delete, Rename}
use Rattle.tee_types.specs.declared.reply.Reply.TheVariants.{Done}

-- the entry of an object under another identifier
abbrev pub renamed_entry : DirEntry → (id : List ℕ) → DirEntry
renamed_entry e id = record e { id = id }

-- a rename leaves the version that was there, and a delete none
abbrev pub kept_versions : Version → TagVersions
kept_versions v = record { committed = Some v; doubted = Some v }

abbrev pub cleared_versions : Version → TagVersions
cleared_versions v = record { committed = Some v; doubted = None }

-- the machine does the call by that handle, as far as directory, open handles and session tell
abbrev pub IsDoneByRule : {F R E : Type 0} → GateValue F R → CallerSession E → OpenObject → Call → Type 0
IsDoneByRule gate caller found call =
    (s : MachineState) (i : ℕ) → Matches gate.dir.dir.entries gate.open_handles caller.state s i → IsDone s i call found.handle.name found.held.entry.size

-- No entry has the new name, and the object is of the session's application.
abbrev pub RenamesMayCommit : (F R E : Type 0) → Type 0
RenamesMayCommit F R E =
    (store : Store) (gate : GateValue F R) (knows : GateView) (closing : Option Closing) (caller : CallerSession E) (handle : ℕ) (found : OpenObject) (slot : SlotView) (v : Version) (file : FileState)
    (id : List ℕ) → IsAtObject store gate knows closing caller handle found slot v → IsDoneByRule gate caller found (Rename handle id)
    → IsEntryNamed gate.dir.dir.entries (named caller.state.application id) None → found.held.entry.app ≡ caller.state.application
    → IsSlotCommit store knows gate.dir.dir.entries gate.counter caller.number caller.made (Rename handle id) Done
    (Put found.held.index (renamed_entry found.held.entry id)) file slot (kept_versions v)

abbrev pub DeletesMayCommit : (F R E : Type 0) → Type 0
DeletesMayCommit F R E =
    (store : Store) (gate : GateValue F R) (knows : GateView) (closing : Option Closing) (caller : CallerSession E) (handle : ℕ) (found : OpenObject) (slot : SlotView) (v : Version) (file : FileState)
    → IsAtObject store gate knows closing caller handle found slot v → IsDoneByRule gate caller found (Delete handle)
    → IsSlotCommit store knows gate.dir.dir.entries gate.counter caller.number caller.made (Delete handle) Done (Clear found.held.index) file slot (cleared_versions v)

-- Under each tamper scenario a live handle is on an object of its session's application.
abbrev pub HandlesAreOwn : (E : Type 0) → Type 0
HandlesAreOwn E =
    (store : Store) (knows : GateView) (caller : CallerSession E) (handle : ℕ) (h : Handle) → IsCalm store knows caller → handle_at caller.state handle ≡ Some h
    → (scenario : TamperScenario) → AreAnswered store scenario knows.all → h.name.app ≡ caller.state.application

-- A slot without a stage is brought for a rename as it is, and for a delete once it is free.
pub record WholeSlotsAreCommittable : Type 0 where
  pub kept : (store : Store) (knows : GateView) (slot : SlotValue) (seat : Sight SlotView) (v : Version) → SlotInvariant store (record slot { seat = Some seat }) → slot.doubt ≡ None
      → SeesWhole knows seat → own_version seat.knows ≡ calm (Some v) → given_version store.mounted knows.all seat.knows.file seat.knows.generation ≡ Some v
      → IsCommittableSlot store slot seat (kept_versions v)
  pub freed : (store : Store) (slot : SlotValue) (seat : Sight SlotView) (v : Version) → SlotInvariant store (record slot { seat = Some seat }) → slot.doubt ≡ None
      → IsFree slot.holds → IsCommittableSlot store slot seat (cleared_versions v)
