-- A store that is closed at the end of a phase: its gate, and a slot for each file of an object.
use Rattle.std.specs.Prelude.{◌≡◌, ◌⊎◌, ◌==◌, ◌<◌, ◌≤◌, ℕ, zero, suc, if◌then◌else◌, List, [], ◌∷◌, Option, Some, None, Ok, Contains, IsTrue}
use Rattle.std.specs.Option.{option_map}
use Rattle.disk_model.specs.State.{FileState, Sound}
use Rattle.tee_types.specs.Limits.{IsObjectFile, directory_file, file_count, may_hold_object}
use Rattle.rpmb_card.specs.Card.{CardState}
use Rattle.store_model.specs.declared.name.ObjectName.{ObjectName}
use Rattle.store_model.specs.Object.{Object, ObjectMap, object_at}
use Rattle.store_model.specs.ReplayState.{ReplayState}
use Rattle.history_seats.specs.Directory.{given_version}
use Rattle.history_seats.specs.Mounts.{Entry}
use Rattle.history_seats.specs.Records.{HistoryRecord}
use Rattle.history_seats.specs.Settling.{as_landed}
use Rattle.history_seats.specs.Rule.{SlotFits}
use Rattle.history_seats.specs.Views.{GateView, no_mount}
use Rattle.crash_core.specs.Pictures.{IsPictureOf, Picture}
use Rattle.crash_core.specs.CoreState.{IsTrusted, Phase}
use Rattle.crash_core.specs.Mounting.{mounted}
use Rattle.crash_core.specs.Theorem.{MountsTo}
use Rattle.core_laws.specs.SlotParts.{SlotHolds, SlotPart}
use Rattle.core_laws.specs.Finished.{IsMapAfter, MountsAfter}
use Rattle.core_laws.specs.TamperScenarios.{TamperScenario}
use Rattle.core_laws.specs.Mapped.{Versions, landed_version}
use Rattle.core_laws.specs.Stores.{Store, entries_at, entry_named, replay_at}
use Rattle.core_laws.specs.Ties.{IsTied}
use Rattle.crash_core.specs.declared.change.DoubtedChange.{DoubtedChange}
use Rattle.store_commit.specs.Sides.{Sides}
use Rattle.commit_gate.specs.FinishedPhases.{phase_under}
use Rattle.commit_gate.specs.Readings.{IsTiedUnder}
use Rattle.commit_gate.specs.Resting.{IsGateOf}

-- the slot of a file that may hold no object: nothing is known of it
abbrev pub no_slot : FileState → (file : ℕ) → SlotPart
no_slot state file = record {
  file = state;
  view = record { mounted = no_mount; seen = []; decided = 0; file = file; generation = 0 };
  stage = None;
}

-- the slots of the object files, and of any other number the file alone
abbrev pub slots_of : (slots : ℕ → SlotPart) → ℕ → SlotPart
slots_of slots file = if may_hold_object file then slots file else no_slot (slots file).file file

-- the files of the store: the directory's, and those of the slots
abbrev pub store_files : Sides → (slots : ℕ → SlotPart) → ℕ → FileState
store_files g slots file = if file == directory_file then g.file else (slots_of slots file).file

-- What holds of the slots: each is of its file, its view fits the gate's, and it has its fact. The other files are as files are, and behind
-- the bench there is none that is not honest.
pub record AreSlotsOf (store : Store) (view : GateView) (slots : ℕ → SlotPart) : Type 0 where
  pub numbered : (file : ℕ) → IsObjectFile file → (slots file).view.file ≡ file
  pub fits : (file : ℕ) → IsObjectFile file → SlotFits view (slots file).view
  pub holds : (file : ℕ) → IsObjectFile file → SlotHolds store.keys (slots file)
  pub sound : (file : ℕ) → Sound (slots file).file
  pub past : (file : ℕ) → file_count ≤ file → IsTrue (slots file).file.honest

-- those of the first so many files that are not honest
unfoldable pub tampered_below : (ℕ → FileState) → (count : ℕ) → List ℕ
tampered_below files zero = []
tampered_below files (suc file) = if (files file).honest then tampered_below files file else file ∷ tampered_below files file

-- the files that are not honest
abbrev pub tampered_in : (ℕ → FileState) → List ℕ
tampered_in files = tampered_below files file_count

-- The tamper scenario has all files as not honest that are not.
abbrev pub SupposesTampered : TamperScenario → (ℕ → FileState) → Type 0
SupposesTampered scenario files = (file : ℕ) → file < file_count → (Contains scenario.tampered file → ⊥) → IsTrue (files file).honest

-- A closed store, as a tamper scenario has it.
pub record IsClosedStore (store : Store) (scenario : TamperScenario) (g : Sides) (doubt : Option DoubtedChange) (holds : List (Option ℕ)) (card : CardState) (view : GateView) (slots : ℕ → SlotPart) : Type 0 where
  pub gate : IsGateOf store g doubt holds card
  pub tied : IsTiedUnder store scenario view g.dir.entries g.counter doubt
  pub slots_hold : AreSlotsOf store view slots
  pub tampered : SupposesTampered scenario (store_files g slots)

-- The picture mounts to the map that the history leaves; or, only while a commit is in doubt, to that with it.
abbrev pub MountsBy : {D : Type 0} → Option D → Phase → Picture → ReplayState → Type 0
MountsBy None phase picture s = MountsTo phase picture (s.state).objects
MountsBy (Some d) phase picture s = MountsAfter phase picture s

-- the same of the map itself
abbrev pub IsMapBy : {D : Type 0} → Option D → Phase → Picture → ReplayState → Type 0
IsMapBy None phase picture s = mounted phase.keys picture ≡ Ok (s.state).objects
IsMapBy (Some d) phase picture s = IsMapAfter phase picture s

-- Every picture of its files and its card mounts to the map that the history leaves under the tamper scenario, or to
-- that with the commit in doubt, where one is; nothing is said of the objects in files that are not honest, nor where
-- the directory's file is not.
abbrev pub ClosedStoresMount : Type 0
ClosedStoresMount =
    (store : Store) (scenario : TamperScenario) (g : Sides) (doubt : Option DoubtedChange) (holds : List (Option ℕ)) (card : CardState) (view : GateView) (slots : ℕ → SlotPart) (picture : Picture)
    → IsClosedStore store scenario g doubt holds card view slots → IsPictureOf (store_files g slots) card picture → IsTrusted (phase_under store scenario) directory_file
    → MountsBy doubt (phase_under store scenario) picture (replay_at store scenario view.all)

-- Where every file is honest, it mounts to that map itself.
abbrev pub HonestStoresMount : Type 0
HonestStoresMount =
    (store : Store) (scenario : TamperScenario) (g : Sides) (doubt : Option DoubtedChange) (holds : List (Option ℕ)) (card : CardState) (view : GateView) (slots : ℕ → SlotPart) (picture : Picture)
    → IsClosedStore store scenario g doubt holds card view slots → IsPictureOf (store_files g slots) card picture → ((file : ℕ) → IsTrusted (phase_under store scenario) file)
    → IsMapBy doubt (phase_under store scenario) picture (replay_at store scenario view.all)

-- the object of an entry's version
abbrev pub object_given : Versions → Option Entry → Option Object
object_given versions None = None
object_given versions (Some e) = option_map (λ v. v.object) (versions e.file e.generation)

-- The picture mounts to the map that has under the name of each of these entries the object of its version, and no other name.
pub record MountsGiven (phase : Phase) (picture : Picture) (versions : Versions) (entries : List Entry) : Type 0 where
  pub objects : ObjectMap
  pub given : (name : ObjectName) → object_at objects name ≡ object_given versions (entry_named name entries)
  pub mounts : MountsTo phase picture objects

-- So with the entries and versions that the records leave; or, only while a commit is in doubt, with those once it landed.
abbrev pub MountsGivenBy : {D : Type 0} → Option D → Store → Phase → Picture → List HistoryRecord → Type 0
MountsGivenBy None store phase picture records = MountsGiven phase picture (given_version store.mounted records) (entries_at store records).now
MountsGivenBy (Some d) store phase picture records =
    MountsGiven phase picture (given_version store.mounted records) (entries_at store records).now
    ⊎ MountsGiven phase picture (landed_version store.mounted records) (as_landed (entries_at store records)).now

-- A store that is closed, whatever its history tells: its gate is tied to the records, and its slots hold.
pub record IsTiedStore (store : Store) (scenario : TamperScenario) (g : Sides) (doubt : Option DoubtedChange) (holds : List (Option ℕ)) (card : CardState) (view : GateView) (slots : ℕ → SlotPart) : Type 0 where
  pub gate : IsGateOf store g doubt holds card
  pub tied : IsTied store view g.dir.entries g.counter doubt
  pub mounted : view.mounted ≡ Some store.mounted
  pub slots_hold : AreSlotsOf store view slots
  pub tampered : SupposesTampered scenario (store_files g slots)

-- Every picture of its files and its card mounts so, where the directory's file is honest, and but for objects in files that are not; that the
-- history is answered is not asked.
abbrev pub TiedStoresMount : Type 0
TiedStoresMount =
    (store : Store) (scenario : TamperScenario) (g : Sides) (doubt : Option DoubtedChange) (holds : List (Option ℕ)) (card : CardState) (view : GateView) (slots : ℕ → SlotPart) (picture : Picture)
    → IsTiedStore store scenario g doubt holds card view slots → IsPictureOf (store_files g slots) card picture → IsTrusted (phase_under store scenario) directory_file
    → MountsGivenBy doubt store (phase_under store scenario) picture view.all

-- A tamper scenario by which exactly the files are not honest that are not has them all.
abbrev pub TamperedFilesAreSupposed : Type 0
TamperedFilesAreSupposed = (scenario : TamperScenario) (files : ℕ → FileState) → scenario.tampered ≡ tampered_in files → SupposesTampered scenario files
