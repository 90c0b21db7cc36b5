-- What a gate behind its lock tells of a call on the object of one of its entries.
use Rattle.std.specs.Prelude.{◌≡◌, ◌<◌, ◌^◌, ℕ, Option, Some, length}
use Rattle.tee_types.specs.declared.call.Call.{Call}
use Rattle.dir_records.specs.declared.entry.DirEntry.{DirEntry}
use Rattle.store_model.specs.Files.{object_named}
use Rattle.history_seats.specs.Directory.{given_version}
use Rattle.history_seats.specs.Records.{Version}
use Rattle.history_seats.specs.Views.{GateView}
use Rattle.crash_core.specs.DirectoryLaws.{AreEntries}
use Rattle.crash_core.specs.Entries.{name_of}
use Rattle.crash_core.specs.EntryLists.{entry_at}
use Rattle.core_laws.specs.Answered.{AreAnswered}
use Rattle.core_laws.specs.TamperScenarios.{TamperScenario}
use Rattle.core_laws.specs.Stores.{Store, replay_at}
use Rattle.store_commit.specs.Gates.{GateValue}
use Rattle.commit_gate.specs.declared.guarded_gate.Closing.{Closing}
use Rattle.commit_gate.specs.GuardedGates.{GateInvariant}
use Rattle.commit_gate.specs.ReplyLaws.{DependsOnFile, IsOnFile}

-- Under each tamper scenario such a call is one on the entry's file, by the version that is given for it.
abbrev pub EntryCallsAreOnFiles : (F R : Type 0) → Type 0
EntryCallsAreOnFiles F R =
    (store : Store) (gate : GateValue F R) (knows : GateView) (closing : Option Closing) → GateInvariant store gate knows closing
    → AreEntries gate.dir.dir.entries → gate.counter < 2 ^ 32 → (session index : ℕ) (call : Call) (e : DirEntry) (v : Version)
    → session < length store.mounted.applications → entry_at gate.dir.dir.entries index ≡ Some e
    → given_version store.mounted knows.all e.file e.generation ≡ Some v → (scenario : TamperScenario) → AreAnswered store scenario knows.all
    → object_named (replay_at store scenario knows.all).state session call ≡ Some (name_of e)
    → DependsOnFile (replay_at store scenario knows.all).state session e.size call
    → IsOnFile store scenario knows.all session call e.file e.generation v
