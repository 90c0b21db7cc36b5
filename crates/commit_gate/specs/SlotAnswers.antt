-- An answer that comes with the seat of the object's file: its record, and when it may be appended.
use Rattle.std.specs.Prelude.{◌≡◌, ℕ, List, Option, Some, None}
use Rattle.tee_types.specs.declared.call.Call.{Call}
use Rattle.tee_types.specs.declared.reply.Reply.{Reply}
use Rattle.store_model.specs.declared.event.Event.TheVariants.{Call as CallEvent}
use Rattle.store_model.specs.declared.event.Mark.TheVariants.{Unchanged}
use Rattle.store_model.specs.Record.{fault_in_reply}
use Rattle.dir_records.specs.declared.entry.DirEntry.{DirEntry}
use Rattle.history_seats.specs.Records.{HistoryRecord}
use Rattle.history_seats.specs.Directory.{given_version}
use Rattle.history_seats.specs.Changes.{TagVersions, record_of}
use Rattle.history_seats.specs.Views.{GateView, SlotView}
use Rattle.core_laws.specs.TamperScenarios.{TamperScenario}
use Rattle.core_laws.specs.Stores.{Store, replay_at}
use Rattle.core_laws.specs.Answered.{AreAnswered, IsFairAt}
use Rattle.crash_core.specs.declared.change.DoubtedChange.{DoubtedChange}
use Rattle.call_rules.specs.OpenLaws.{IsOpenedFile}

-- the tag names the version that is given for the slot's file and generation, and nothing in doubt
abbrev pub versions_given : Store → GateView → SlotView → TagVersions
versions_given store knows slot = record { committed = given_version store.mounted knows.all slot.file slot.generation; doubted = None }

-- the record of the answer
abbrev pub slot_record : Store → GateView → SlotView → (session number : ℕ) → Call → Reply → HistoryRecord
slot_record store knows slot session number call reply = record_of (CallEvent session number call reply Unchanged) (Some slot) (versions_given store knows slot)

-- No commit is in doubt, the reply accuses no other file, and is fair; a handle that it gives is on the slot's file.
pub record MayBeTold (store : Store) (doubt : Option DoubtedChange) (entries : List (Option DirEntry)) (knows : GateView) (slot : SlotView) (session number : ℕ) (call : Call) (reply : Reply) : Type 0 where
  pub calm : doubt ≡ None
  pub fault : (n : ℕ) → fault_in_reply reply ≡ Some n → n ≡ slot.file
  pub fair : (scenario : TamperScenario) → IsFairAt store scenario knows.all (slot_record store knows slot session number call reply)
  pub opened : (scenario : TamperScenario) → AreAnswered store scenario knows.all → IsOpenedFile entries (replay_at store scenario knows.all).state session call reply slot.file
