-- A call on the object of one of the gate's entries, where the machine stands.
use Rattle.std.specs.Prelude.{◌≡◌, ◌⊎◌, ℕ, Some}
use Rattle.tee_types.specs.declared.call.Call.{Call}
use Rattle.tee_types.specs.declared.reply.Reply.{Reply}
use Rattle.tee_types.specs.declared.reply.Reply.TheVariants.{Corrupt, CounterSpent, NotAvailable}
use Rattle.store_model.specs.Calls.{reply_of}
use Rattle.store_model.specs.Files.{object_named}
use Rattle.store_model.specs.Machine.{MachineState}
use Rattle.dir_records.specs.declared.entry.DirEntry.{DirEntry}
use Rattle.crash_core.specs.Entries.{name_of}
use Rattle.core_laws.specs.Given.{DiffersInBytes, position_by}
use Rattle.core_laws.specs.ReadLaws.{IsAdmitted}
use Rattle.commit_gate.specs.ReplyLaws.{DependsOnFile}

-- the machine admits the call with that reply, if the reply tells of the object
abbrev pub AdmitsIfTold : MachineState → (session size : ℕ) → Call → Reply → Type 0
AdmitsIfTold m session size call Corrupt = Unit {0}
AdmitsIfTold m session size call (NotAvailable cause) = Unit {0}
AdmitsIfTold m session size call (CounterSpent last) = Unit {0}
AdmitsIfTold m session size call reply = IsAdmitted m session size call reply

-- The call names the entry's object, at that position, and the machine does it if it finds no damage.
pub record IsEntryCall (m : MachineState) (session : ℕ) (e : DirEntry) (position : ℕ) (call : Call) (reply : Reply) : Type 0 where
  pub named : object_named m session call ≡ Some (name_of e)
  pub depends : DependsOnFile m session e.size call
  pub at : position_by m session call ≡ position
  pub admitted : AdmitsIfTold m session e.size call reply

-- the machine answers so, but for bytes of the object
abbrev pub MeansAlike : MachineState → (session : ℕ) → Call → Reply → Type 0
MeansAlike m session call reply = (reply ≡ reply_of m session call) ⊎ DiffersInBytes reply (reply_of m session call)
