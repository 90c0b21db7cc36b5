-- What staging a change of an object's data leaves of the object's slot.
use Rattle.std.specs.Option.{option_map}
use Rattle.std.specs.Prelude.{Err, List, Ok, Option, Result, Some, ℕ}
use Rattle.serial_calls.specs.ChangeReplies.{IsFailure, reply_of_stage}
use Rattle.serial_calls.specs.declared.stage_result.Staged.{Staged}
use Rattle.serial_calls.specs.declared.stage_result.Staged.TheVariants.{Root, Unstaged}
use Rattle.dir_records.specs.declared.entry.DirEntry.{DirEntry}
use Rattle.history_seats.specs.Records.{Version}
use Rattle.history_seats.specs.Views.{GateView}
use Rattle.call_steps.specs.GuardedSlots.{SlotInvariant}
use Rattle.call_steps.specs.GuardedStages.{IsStagedSlot, VersionChange, resize_of, write_of}
use Rattle.node_image.specs.declared.node.RootRef.{RootRef}
use Rattle.call_steps.specs.FileAnswers.{IsFileAnswer}
use Rattle.call_steps.specs.SlotCatchUp.{IsAtEntry}
use Rattle.call_steps.specs.StagedVersions.{IsStagedVersion}
use Rattle.call_steps.specs.SlotValues.{SlotValue}
use Rattle.call_steps.specs.declared.SlotFault.{SlotFault}
use Rattle.core_laws.specs.Stores.{Store}
use Rattle.tee_types.specs.declared.call.Call.{Call}
use Rattle.tee_types.specs.declared.call.Call.TheVariants.{Truncate, Write}
use Rattle.tee_types.specs.declared.reply.Reply.{Reply}

-- A call that changes an object's data: what it changes of so many bytes of data; the position that it writes from, 0 where it has none; and
-- the call, by the handle's number.
pub record DataCall : Type 0 where
  pub change : (size : ℕ) → VersionChange
  pub position : ℕ
  pub call : (handle : ℕ) → Call

-- a write of these bytes
abbrev pub writing : (position : ℕ) → (bytes : List ℕ) → DataCall
writing position bytes = record { change = λ size. write_of size position bytes; position = position; call = λ handle. Write handle bytes }

-- another size
abbrev pub resizing : (to : ℕ) → DataCall
resizing to = record { change = λ size. resize_of size to; position = 0; call = λ handle. Truncate handle to }

-- The slot has the settled stage of a change of the version's object, which that reference names.
pub record IsStagedChange (store : Store) (slot : SlotValue) (v : Version) (change : VersionChange) (root : RootRef) : Type 0 where
  pub next : Version
  pub staged : IsStagedSlot store slot next
  pub version : IsStagedVersion store.keys slot.file v next change root

-- The slot has no stage, and may stand behind its lock. The reply says why, and is the version's.
pub record IsUnstaged (store : Store) (slot : SlotValue) (v : Version) (asked : DataCall) (reply : Reply) : Type 0 where
  pub guarded : SlotInvariant store slot
  pub failure : IsFailure reply
  pub answers : (handle : ℕ) → IsFileAnswer store slot.file slot.number v asked.position (asked.call handle) reply

-- what became of the change of the version's object that is asked
abbrev pub StagesChange : Store → SlotValue → Version → DataCall → Staged → Type 0
StagesChange store slot v asked (Root root) = IsStagedChange store slot v (asked.change v.size) root
StagesChange store slot v asked (Unstaged reply) = IsUnstaged store slot v asked reply

-- The same of an entry's object, as its slot now is.
pub record StagesEntry (store : Store) (gate : GateView) (slot : SlotValue) (e : DirEntry) (asked : DataCall) (staged : Staged) : Type 0 where
  pub version : Version
  pub at : IsAtEntry gate slot e version
  pub stages : StagesChange store slot version asked staged

-- what the stage of a change in that file gave; nothing where memory ran out
abbrev pub staged_of : (file : ℕ) → Result RootRef SlotFault → Option Staged
staged_of file (Ok root) = Some (Root root)
staged_of file (Err fault) = option_map (λ reply. Unstaged reply) (reply_of_stage file fault)
