-- What a commit's slot shows in its file is the object that the machine's change puts.
use Rattle.std.specs.Prelude.{◌≡◌, ℕ, List, Option, Some, IsTrue}
use Rattle.disk_model.specs.State.{Sound}
use Rattle.dir_records.specs.declared.entry.DirEntry.{DirEntry}
use Rattle.tee_types.specs.declared.call.Call.{Call}
use Rattle.store_model.specs.Makes.{MakesChange, MapChange}
use Rattle.store_model.specs.Object.{Object}
use Rattle.store_model.specs.Record.{Tag}
use Rattle.history_seats.specs.Records.{Version}
use Rattle.history_seats.specs.Views.{GateView}
use Rattle.crash_core.specs.CoreState.{IsTrusted}
use Rattle.crash_core.specs.declared.change.EntryChange.{EntryChange}
use Rattle.crash_core.specs.EntryChanges.{IsChange}
use Rattle.crash_core.specs.declared.change.DoubtedChange.{DoubtedChange}
use Rattle.core_laws.specs.GateLaws.{HandedShows}
use Rattle.core_laws.specs.GateSteps.{Handed}
use Rattle.core_laws.specs.SlotParts.{VersionStands}
use Rattle.core_laws.specs.TamperScenarios.{TamperScenario}
use Rattle.core_laws.specs.Stores.{Store, replay_at}
use Rattle.commit_gate.specs.FinishedPhases.{phase_under}
use Rattle.core_laws.specs.CommitMaps.{IsCommitUnder}
use Rattle.core_laws.specs.Ties.{IsTied}

-- The slot that is handed over is of the tag's file, in which the version stands that the commit leaves.
pub record IsHandedFor (store : Store) (scenario : TamperScenario) (handed : Handed) (tag : Tag Version) : Type 0 where
  pub file : handed.file ≡ tag.file
  pub sound : Sound handed.state
  pub honest : IsTrusted (phase_under store scenario) handed.file → IsTrue handed.state.honest
  pub stands : IsTrue handed.state.honest → (v : Version) → tag.doubted ≡ Some v → VersionStands store.keys handed.state v

-- Whatever change of the map the call makes, and whatever object it puts, the slot shows that one.
abbrev pub HandedSlotsShow : Type 0
HandedSlotsShow =
    (store : Store) (scenario : TamperScenario) (view : GateView) (entries : List (Option DirEntry)) (counter : ℕ) (doubt : Option DoubtedChange) (session : ℕ) (call : Call) (change : EntryChange)
    (tag : Tag Version) (handed : Handed) (made : MapChange) (object : Object) → let s = replay_at store scenario view.all in
    IsTied store view entries counter doubt → IsCommitUnder store scenario view entries counter session call change tag tag.doubted → IsHandedFor store scenario handed tag
    → MakesChange s.state session call made → IsChange s.state.objects entries counter made change object → HandedShows (phase_under store scenario) (Some handed) change object
