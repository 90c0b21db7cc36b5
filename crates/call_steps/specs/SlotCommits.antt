-- A commit that is brought with the slot of its object.
use Rattle.std.specs.Prelude.{IsTrue, List, Option, false, ℕ, ◌≡◌}
use Rattle.crash_core.specs.declared.change.EntryChange.{EntryChange}
use Rattle.dir_records.specs.declared.entry.DirEntry.{DirEntry}
use Rattle.disk_model.specs.State.{FileState}
use Rattle.history_seats.specs.Changes.{TagVersions}
use Rattle.history_seats.specs.Numbers.{is_in}
use Rattle.history_seats.specs.Views.{GateView, SlotView}
use Rattle.commit_gate.specs.Commits.{IsDueUnder, IsReadyCommit, tag_of}
use Rattle.core_laws.specs.Answered.{AreAnswered}
use Rattle.core_laws.specs.TamperScenarios.{TamperScenario}
use Rattle.core_laws.specs.Stores.{Store}
use Rattle.tee_types.specs.declared.call.Call.{Call}
use Rattle.tee_types.specs.declared.reply.Reply.{Reply}

-- Where the file is honest now, the machine commits the call under each tamper scenario by which it is honest.
abbrev pub IsDueWhereHonest : Store → GateView → FileState → (session : ℕ) → Call → Reply → EntryChange → SlotView → TagVersions → Type 0
IsDueWhereHonest store knows file session call reply change slot versions =
    IsTrue file.honest → (scenario : TamperScenario) → AreAnswered store scenario knows.all → is_in slot.file scenario.tampered ≡ false
    → IsDueUnder store scenario knows.all session call reply change (tag_of slot versions)

-- The commit may be brought to the gate, and over an honest file it is the machine's.
pub record IsSlotCommit (store : Store) (knows : GateView) (entries : List (Option DirEntry)) (counter session number : ℕ) (call : Call) (reply : Reply) (change : EntryChange) (file : FileState) (slot : SlotView) (versions : TagVersions) : Type 0 where
  pub ready : IsReadyCommit store knows entries counter session number call reply change slot versions
  pub honest : IsDueWhereHonest store knows file session call reply change slot versions
