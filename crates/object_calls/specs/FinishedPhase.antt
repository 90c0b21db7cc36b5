-- What a phase leaves, once the store is no longer served.
use Rattle.std.specs.Prelude.{◌≡◌, ◌⊎◌, ◌<◌, ◌+◌, ℕ, List, [], length, Option, Some, None, Ok, slice_index_or, IsTrue}
use Rattle.disk_model.specs.State.{FileState}
use Rattle.hmac_keys.specs.declared.Keys.{Keys}
use Rattle.hmac_keys.specs.KeyTable.{rpmb_key}
use Rattle.tee_types.specs.Limits.{directory_file, last_file, old_directory_file}
use Rattle.rpmb_card.specs.Card.{CardState}
use Rattle.rpmb_card.specs.Port.{PortState}
use Rattle.rpmb_host.specs.Honest.{HasCard}
use Rattle.store_model.specs.declared.event.Event.{Event}
use Rattle.store_model.specs.History.{AreNumbered, count_of}
use Rattle.store_model.specs.Commits.{with_doubt}
use Rattle.store_model.specs.Legal.{IsLegalFrom}
use Rattle.store_model.specs.LegalHistory.{IsLegal, doubt_of}
use Rattle.store_model.specs.Object.{ObjectMap}
use Rattle.store_model.specs.Record.{events_of}
use Rattle.store_model.specs.ReplayState.{ReplayState, opening, replay}
use Rattle.history_seats.specs.Views.{GateView}
use Rattle.crash_core.specs.Mounting.{mounted}
use Rattle.crash_core.specs.Pictures.{IsPictureOf, Picture}
use Rattle.crash_core.specs.CoreState.{IsTrusted}
use Rattle.core_laws.specs.TamperScenarios.{TamperScenario, nothing_back}
use Rattle.core_laws.specs.Stores.{Store, mounted_files, phase_of, replay_at}
use Rattle.core_laws.specs.Answered.{AreAnswered, IsEnded}
use Rattle.core_laws.specs.EndLaws.{HasClashed}
use Rattle.core_laws.specs.Undamaged.{AreUndamagedIn}
use Rattle.serial_calls.specs.CallerSessions.{CallerSession}
use Rattle.serial_calls.specs.SessionViews.{BeginsAll}
use Rattle.serial_calls.specs.ClosedStores.{MountsBy, MountsGivenBy, tampered_in}
use Rattle.serial_calls.specs.FinishedPhases.{phase_under}
use Rattle.serial_calls.specs.SlotValues.{SlotValue}
use Rattle.serial_calls.specs.Slots.{AreOfObjectFiles}
use Rattle.object_calls.specs.OldStores.{HasNoOldFile}
use Rattle.object_calls.specs.OpeningFiles.{files_of}
use Rattle.object_calls.specs.Services.{ServiceValue}

-- Under a tamper scenario with just those files as not honest that are not, the history is answered, or the promises end at a first event.
abbrev pub IsAnsweredOrEnds : Store → GateView → (ℕ → FileState) → Type 0
IsAnsweredOrEnds store view files =
    (scenario : TamperScenario) → scenario.tampered ≡ tampered_in files → AreAnswered store scenario view.all ⊎ IsEnded store scenario view.all

-- Where it is answered, every picture of the files and the card mounts to the map that it leaves, or, only while a
-- commit is in doubt, to that with it; where the directory's file is honest, and but for objects in files that are not.
abbrev pub PicturesMountAfter : Store → GateView → (ℕ → FileState) → PortState → (doubt : Option ℕ) → Type 0
PicturesMountAfter store view files port doubt =
    (scenario : TamperScenario) (card : CardState) (picture : Picture) → scenario.tampered ≡ tampered_in files → AreAnswered store scenario view.all
    → HasCard port (rpmb_key store.keys.huk) card → IsPictureOf files card picture → IsTrusted (phase_under store scenario) directory_file
    → MountsBy doubt (phase_under store scenario) picture (replay_at store scenario view.all)

-- Whatever became of the history, so long as the directory's file is honest, every picture of the files and the card mounts to the entries that
-- the records leave, and each has the object of the version that they give for its file; or, only while a commit is in doubt, to those once it
-- landed. Nothing is said of objects in files that are not honest.
abbrev pub PicturesMountGiven : Store → GateView → (ℕ → FileState) → PortState → (doubt : Option ℕ) → Type 0
PicturesMountGiven store view files port doubt =
    (card : CardState) (picture : Picture) → HasCard port (rpmb_key store.keys.huk) card → IsPictureOf files card picture
    → IsTrusted (phase_under store (nothing_back (tampered_in files))) directory_file
    → MountsGivenBy doubt store (phase_under store (nothing_back (tampered_in files))) picture view.all

-- Where no object in a file that is not honest was damaged as the phase opened, the history is a legal one of the phase, with these files as
-- those that are not honest; or at a first event what such a file gave clashes with what was committed.
abbrev pub IsLegalOrClashed : Store → GateView → (ℕ → FileState) → (doubt : Option ℕ) → Type 0
IsLegalOrClashed store view files doubt =
    AreUndamagedIn (tampered_in files) (mounted_files store.mounted) store.objects
    → IsLegal (phase_of store) (tampered_in files) view.all doubt ⊎ HasClashed store (nothing_back (tampered_in files)) view.all

-- The doubt is the one that the history leaves open, or it was dropped.
abbrev pub IsDoubtLeft : Store → GateView → Option ℕ → Type 0
IsDoubtLeft store view doubt =
    (scenario : TamperScenario) → AreAnswered store scenario view.all → (doubt ≡ doubt_of (replay_at store scenario view.all)) ⊎ (doubt ≡ None)

-- Where it is answered, the counter of a card that has the key is the one that it leaves, or the number of the commit in
-- doubt.
abbrev pub IsCounterLeft : Store → GateView → PortState → (doubt : Option ℕ) → Type 0
IsCounterLeft store view port doubt =
    (scenario : TamperScenario) (card : CardState) → AreAnswered store scenario view.all → HasCard port (rpmb_key store.keys.huk) card
    → (card.counter ≡ (replay_at store scenario view.all).counter) ⊎ (doubt ≡ Some card.counter)

-- Each session's view begins the history, past which it has no event, and the session counted its events.
pub record HasCounted {E : Type 0} (view : GateView) (s : CallerSession E) : Type 0 where
  pub begins : BeginsAll view s.pass
  pub made : s.made ≡ count_of s.number (events_of view.all)

abbrev pub HaveCounted : {E : Type 0} → GateView → List (CallerSession E) → Type 0
HaveCounted {E} view sessions = (i : ℕ) (d : CallerSession E) → i < length sessions → HasCounted view (slice_index_or sessions i d)

-- every file is honest
abbrev pub AreAllHonest : (ℕ → FileState) → Type 0
AreAllHonest files = (file : ℕ) → IsTrue (files file).honest

-- where the history stands at its end, from the objects that the phase opened with
abbrev pub end_replay : Store → GateView → ReplayState
end_replay store view = replay (opening (phase_of store)) view.all

-- the picture mounts to the map of that standing, or to that with the commit in doubt
abbrev pub IsMapLeft : Keys → Picture → ReplayState → Type 0
IsMapLeft keys picture s =
    (mounted keys picture ≡ Ok (s.state).objects) ⊎ ((objects : ObjectMap) × (with_doubt s ≡ Some objects) × (mounted keys picture ≡ Ok objects))

-- so, only while a commit is in doubt; else it mounts to the map of that standing
abbrev pub IsMapWith : Keys → Picture → ReplayState → (doubt : Option ℕ) → Type 0
IsMapWith keys picture s None = mounted keys picture ≡ Ok (s.state).objects
IsMapWith keys picture s (Some commit) = IsMapLeft keys picture s

-- Where every file is honest: the history is a legal one of the phase, so each event is legal from the objects that it opened with; every picture of the files and the card mounts
-- to the map that the history leaves, or, only while a commit is in doubt, to that with it; and the card's counter is the history's, or the
-- number of that commit.
pub record LeavesHonest (store : Store) (view : GateView) (files : ℕ → FileState) (port : PortState) (doubt : Option ℕ) : Type 0 where
  pub legal : IsLegal (phase_of store) [] view.all doubt
  pub events_legal : IsLegalFrom [] (opening (phase_of store)) view.all
  pub doubt_left : (doubt ≡ doubt_of (end_replay store view)) ⊎ (doubt ≡ None)
  pub mounts : (card : CardState) (picture : Picture) → HasCard port (rpmb_key store.keys.huk) card → IsPictureOf files card picture
      → IsMapWith store.keys picture (end_replay store view) doubt
  pub counted : (card : CardState) → HasCard port (rpmb_key store.keys.huk) card → (card.counter ≡ (end_replay store view).counter) ⊎ (doubt ≡ Some card.counter)

-- What is said where files may have been altered: under tamper scenarios with those files that are not honest.
pub record LeavesAltered (store : Store) (view : GateView) (files : ℕ → FileState) (port : PortState) (doubt : Option ℕ) : Type 0 where
  pub answered : IsAnsweredOrEnds store view files
  pub mounts : PicturesMountAfter store view files port doubt
  pub given : PicturesMountGiven store view files port doubt
  pub legal_or_clashed : IsLegalOrClashed store view files doubt
  pub doubted : IsDoubtLeft store view doubt
  pub counted : IsCounterLeft store view port doubt

-- What is said of a store once its phase has ended: of the events in order, the files, the card and the doubt. Who trusts his files reads `honest`.
pub record LeavesStore (store : Store) (view : GateView) (files : ℕ → FileState) (port : PortState) (doubt : Option ℕ) : Type 0 where
  pub numbered : AreNumbered (events_of view.all)
  -- the tags name files of objects
  pub tagged : AreOfObjectFiles view.all
  -- where the directory's file is honest, each file that the card or an entry names is of the current format
  pub current : IsTrue (files directory_file).honest → HasNoOldFile store.keys files port
  pub honest : AreAllHonest files → LeavesHonest store view files port doubt
  pub altered : LeavesAltered store view files port doubt

-- The devices that are given back are those that were served, in their places.
pub record GivesBack {F R : Type 0} (state : F → FileState) (s : ServiceValue F R) (files : List F) (card : R) : Type 0 where
  pub dir : files_of state files directory_file ≡ state s.gate.gate.dir.file
  pub spare : files_of state files old_directory_file ≡ state s.spare
  pub each : (i : ℕ) (d : SlotValue) → i < last_file → files_of state files (i + 1) ≡ (slice_index_or s.slots i d).file
  pub port : card ≡ s.gate.gate.host.port

-- So of a phase that no call was made in.
pub record ClosesUnserved (store : Store) (files : ℕ → FileState) (port : PortState) (doubt : Option ℕ) (events : List Event) : Type 0 where
  pub view : GateView
  pub empty : view.all ≡ []
  pub events_are : events ≡ []
  pub leaves : LeavesStore store view files port doubt
