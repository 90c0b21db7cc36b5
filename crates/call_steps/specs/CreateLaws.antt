-- A create may be brought to the gate, in a file that no entry names and whose seat is new.
use Rattle.std.specs.Prelude.{List, None, Option, Some, length, ℕ, ◌+◌, ◌≡◌, ◌≤◌}
use Rattle.commit_gate.specs.CallerSessions.{CallerSession}
use Rattle.call_rules.specs.Matches.{Matches}
use Rattle.call_rules.specs.Places.{IsNewPlace}
use Rattle.call_rules.specs.declared.decision.NewPlace.{NewPlace}
use Rattle.call_rules.specs.declared.decision.NewPlace.TheVariants.{Adds, Replaces}
use Rattle.crash_core.specs.DirectoryLaws.{AreEntries}
use Rattle.crash_core.specs.declared.change.EntryChange.TheVariants.{Put}
use Rattle.crash_core.specs.EntryLists.{IsUnnamed}
use Rattle.call_rules.specs.Index.{named}
use Rattle.dir_records.specs.declared.entry.DirEntry.{DirEntry}
use Rattle.disk_model.specs.State.{FileState}
use Rattle.history_seats.specs.Changes.{TagVersions, new_slot, without_slot}
use Rattle.history_seats.specs.Records.{Version}
use Rattle.history_seats.specs.Rule.{SlotFits}
use Rattle.history_seats.specs.Views.{GateView, Sight, SlotView}
use Rattle.commit_gate.specs.Commits.{IsCalm}
use Rattle.commit_gate.specs.GuardedGates.{GateInvariant}
use Rattle.commit_gate.specs.declared.guarded_gate.Closing.{Closing}
use Rattle.object_slots.specs.GuardedSlots.{SlotInvariant}
use Rattle.object_slots.specs.NewObjects.{IsNewVersion, KnowsNothing}
use Rattle.object_slots.specs.GuardedStages.{IsStagedSlot}
use Rattle.node_image.specs.References.{IsCurrent, current_format}
use Rattle.node_image.specs.declared.node.RootRef.{RootRef}
use Rattle.call_steps.specs.CommittableSlots.{IsCommittableSlot}
use Rattle.call_steps.specs.SlotCommits.{IsSlotCommit}
use Rattle.object_slots.specs.SlotValues.{IsFree, SlotValue, without_stage}
use Rattle.commit_gate.specs.Gates.{GateValue}
use Rattle.store_model.specs.Calls.{reply_of}
use Rattle.store_model.specs.Machine.{MachineState}
use Rattle.core_laws.specs.Decodings.{IsReal}
use Rattle.core_laws.specs.Stores.{Store}
use Rattle.tee_types.specs.Limits.{IsObjectFile}
use Rattle.tee_types.specs.declared.call.Call.TheVariants.{Create}
use Rattle.tee_types.specs.declared.flags.Flags.{Flags}
use Rattle.tee_types.specs.declared.reply.Reply.TheVariants.{Handle}

-- the place of the new object's entry
abbrev pub index_of_place : NewPlace → ℕ
index_of_place (Replaces held) = held.index
index_of_place (Adds index) = index

-- the entry of a new object
abbrev pub new_entry : (app id : List ℕ) → SlotView → Version → DirEntry
new_entry app id slot next = record {
  app = app;
  id = id;
  version = next.root.version;
  file = slot.file;
  hash = next.root.hash;
  size = next.size;
  attributes = next.attributes;
  format = current_format;
  generation = slot.generation;
}

-- nothing was there before
abbrev pub new_versions : Version → TagVersions
new_versions next = record { committed = None; doubted = Some next }

-- The rules let the create pass, with that place for its entry. No entry names the slot's file, and its generation is the number of the next
-- commit.
pub record IsAtPlace {F R E : Type 0} (store : Store) (gate : GateValue F R) (knows : GateView) (closing : Option Closing) (caller : CallerSession E) (id : List ℕ) (flags : Flags) (attributes bytes : List ℕ) (place : NewPlace) (slot : SlotView) : Type 0 where
  pub guarded : GateInvariant store gate knows closing
  pub idle : gate.doubt ≡ None
  pub entries : AreEntries gate.dir.dir.entries
  pub calm : IsCalm store knows caller
  pub rule : (s : MachineState) (i : ℕ) → Matches gate.dir.dir.entries gate.open_handles caller.state s i
      → reply_of s i (Create id flags attributes bytes) ≡ Handle caller.state.next_handle
  pub place_is : IsNewPlace gate.dir.dir.entries (named caller.state.application id) place
  pub unnamed : IsUnnamed gate.dir.dir.entries slot.file
  pub numbered : IsObjectFile slot.file
  pub generation : slot.generation ≡ gate.counter + 1
  pub short : length attributes ≤ 2048
  pub few : length bytes ≤ 1044480

abbrev pub CreatesMayCommit : (F R E : Type 0) → Type 0
CreatesMayCommit F R E =
    (store : Store) (gate : GateValue F R) (knows : GateView) (closing : Option Closing) (caller : CallerSession E) (id : List ℕ) (flags : Flags) (attributes bytes : List ℕ) (place : NewPlace)
    (slot : SlotView) (next : Version) (root : RootRef) (file : FileState) → IsAtPlace store gate knows closing caller id flags attributes bytes place slot
    → IsNewVersion next caller.state.application attributes bytes root → IsReal store.keys next → IsCurrent next.root
    → IsSlotCommit store knows gate.dir.dir.entries gate.counter caller.number caller.made (Create id flags attributes bytes) (Handle caller.state.next_handle)
    (Put (index_of_place place) (new_entry caller.state.application id slot next)) file slot (new_versions next)

-- the new seat of a file, of that generation
abbrev pub new_seat : Store → GateView → (file generation : ℕ) → Sight SlotView
new_seat store knows file generation = record { table = store.table; knows = new_slot store.mounted file generation knows }

-- A free slot of a file that no entry names may stand behind its lock with a new seat, which knows no version.
pub record IsReseated (store : Store) (slot : SlotValue) (seat : Sight SlotView) : Type 0 where
  pub guarded : SlotInvariant store (record slot { seat = Some seat })
  pub nothing : KnowsNothing (record slot { seat = Some seat })

abbrev pub NewSeatsAreGuarded : (F R : Type 0) → Type 0
NewSeatsAreGuarded F R =
    (store : Store) (gate : GateValue F R) (knows : GateView) (closing : Option Closing) (slot : SlotValue) (old : Sight SlotView) (generation : ℕ)
    → GateInvariant store gate knows closing → gate.doubt ≡ None → IsUnnamed gate.dir.dir.entries slot.number → SlotInvariant store (record slot { seat = Some old })
    → IsFree slot.holds → slot.doubt ≡ None → SlotFits knows old.knows
    → IsReseated store slot (new_seat store (without_slot old.knows knows) slot.number generation)

-- A new object's slot is brought to the gate so.
abbrev pub NewSlotsAreCommittable : Type 0
NewSlotsAreCommittable =
    (store : Store) (slot : SlotValue) (seat : Sight SlotView) (next : Version) → IsStagedSlot store (record slot { seat = Some seat }) next → IsFree (without_stage slot.holds)
    → IsCommittableSlot store slot seat (new_versions next)
