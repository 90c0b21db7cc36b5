-- The laws that are promised. What each takes of the program is what the contract of a public call says of it.
use Rattle.std.specs.Prelude.{◌≡◌, ◌≢◌, ◌⊎◌, ◌+◌, ◌++◌, ℕ, List, [], ◌∷◌, Ok, Option, Some}
use Rattle.commit_gate.specs.ClosedStores.{tampered_in}
use Rattle.core_laws.specs.EndLaws.{HasClashed}
use Rattle.core_laws.specs.Stores.{Store, mounted_files, phase_of}
use Rattle.core_laws.specs.TamperScenarios.{nothing_back}
use Rattle.core_laws.specs.Undamaged.{AreUndamagedIn}
use Rattle.crash_core.specs.Mounting.{mounted}
use Rattle.crash_core.specs.Pictures.{AreAllHonest, block_zero}
use Rattle.disk_model.specs.Bytes.{AreBytes}
use Rattle.disk_model.specs.Faults.{Rose}
use Rattle.disk_model.specs.State.{Sound}
use Rattle.history_seats.specs.Views.{GateView, PassView, Sight}
use Rattle.hmac_keys.specs.declared.Keys.{Keys}
use Rattle.hmac_keys.specs.KeyTable.{rpmb_key}
use Rattle.image_audit.specs.declared.fault.Listed.{Listed}
use Rattle.image_audit.specs.Certificate.{ClashesWithPicture, HasListed, IsCertificate}
use Rattle.image_audit.specs.Checking.{certificate_of}
use Rattle.image_audit.specs.Contents.{Answers}
use Rattle.object_calls.specs.Calling.{AnswersCall}
use Rattle.object_calls.specs.FinishedPhase.{LeavesStore}
use Rattle.object_calls.specs.Services.{ServiceValue}
use Rattle.rpmb_card.specs.Card.{CardState}
use Rattle.rpmb_card.specs.Port.{PortState}
use Rattle.rpmb_host.specs.Honest.{HasCard}
use Rattle.run_acts.specs.Quiet.{IsQuiet}
use Rattle.run_freshness.specs.Course.{HasItsCard}
use Rattle.run_freshness.specs.Runs.{IsFreshRun}
use Rattle.script_runner.specs.declared.status.Status.{Status}
use Rattle.script_runner.specs.declared.status.Status.TheVariants.{OverCommitted}
use Rattle.script_runner.specs.Migrations.{RunsMigration}
use Rattle.script_runner.specs.QuietLaws.{ArmNothing}
use Rattle.script_runner.specs.RunCauses.{HasCause, IsExact, RunsItsScript, World}
use Rattle.script_runner.specs.RunLaws.{IsDoneOrStarved}
use Rattle.script_runner.specs.Text.{Serve}
use Rattle.script_runner.specs.Trace.{IsTraceOf}
use Rattle.script_text.specs.declared.script.Mode.{Mode}
use Rattle.script_text.specs.declared.script.Step.{Step}
use Rattle.script_text.specs.Script.{ScriptValue}
use Rattle.shared_store.specs.Attempts.{EndsCall}
use Rattle.shared_store.specs.CallerSessions.{CallerSession}
use Rattle.store_model.specs.declared.event.Event.{Event}
use Rattle.store_model.specs.LegalHistory.{IsLegal}
use Rattle.store_model.specs.Record.{events_of}
use Rattle.tee_types.specs.declared.call.Call.{Call}
use Rattle.tee_types.specs.declared.reply.Reply.{Reply}
use Rattle.trusted_storage.specs.Altered.{AgreeWithLeft, AreByteImages, ClashesWith}
use Rattle.trusted_storage.specs.Benches.{BeginsWith, Holds, MountsToLeft}
use Rattle.trusted_storage.specs.Blame.{AccuseRightly}
use Rattle.trusted_storage.specs.Commits.{ReplayState, replay_left}
use Rattle.trusted_storage.specs.Devices.{AreUntainted, BenchState}
use Rattle.trusted_storage.specs.Objects.{ObjectMap}
use Rattle.trusted_storage.specs.PowerCuts.{FileState, IsPictureOf, MayCrash, Picture}
use Rattle.trusted_storage.specs.Quotas.{KeepsQuotas}
use Rattle.trusted_storage.specs.Replies.{IsLegalPhase, StandsAt}
use Rattle.trusted_storage.specs.Runs.{Act, AlterNothing, AreOfScript, EachBench, EachPhase, FindLeft, HasOpened, HoldsBehind, IsServed, NoneStarved, RefusedByDevices, RunCall, TaintNothing, TookScript, acts_in, applications_of, left_behind, outcomes_in, quotas_in, records_of, script_acts}
-- THE CARD ALONE. Over a card that has our key and the form of objects, the replies of a run of its script are those of a finite map.
pub use Rattle.script_runner.specs.CardRunLaws.{CardRunsAreOfAMap}

module _ {F R : Type 0} (of_file : F → FileState) (of_port : R → PortState) (image : FileState → ℕ → ℕ → List ℕ) (Reliable : Type 0) (w : World) where
  -- TEXT. What was put begins the text of the script that was taken, with what was recorded of its acts. Nothing is put but of a script.
  abbrev pub RunsWriteTheirRecords : Type 0
  RunsWriteTheirRecords = (c : RunCall of_file of_port image Reliable w) → IsTraceOf c.left_old c.left_new c.held_old c.held_new c.says.0

  -- EACH CALL ONCE AND IN ORDER. What was recorded is of the script's acts, in order. A phase that was run has the calls of its act, each once: as
  -- events, or as calls that were refused under quotas.
  abbrev pub CallsAreServedOnce : Type 0
  CallsAreServedOnce =
      (c : RunCall of_file of_port image Reliable w) (script : ScriptValue) → TookScript c script → AreOfScript script (records_of c) × EachPhase c (λ before behind. IsServed)

  -- LEGAL REPLIES. Over honest files each phase's history is legal, whatever its devices were armed to fail.
  abbrev pub RepliesAreLegal : Type 0
  RepliesAreLegal =
      (c : RunCall of_file of_port image Reliable w) (script : ScriptValue) → TookScript c script → AreUntainted c.handed.files → TaintNothing (script_acts script)
      → EachPhase c (λ before behind quotas mode calls phase. IsLegalPhase phase.opening (applications_of script) phase.events)

  -- QUOTAS, over honest files. Each phase under quotas that the script sets above it keeps them: no event takes more, no call is refused but for
  -- them, and what one application does, no other can tell.
  abbrev pub PhasesKeepQuotas : Type 0
  PhasesKeepQuotas =
      (c : RunCall of_file of_port image Reliable w) (script : ScriptValue) → TookScript c script → AreUntainted c.handed.files → TaintNothing (script_acts script)
      → EachPhase c (λ before behind quotas mode calls phase. quotas ≢ [] → KeepsQuotas (applications_of script) quotas calls phase)

  -- BLAME. In each phase, whatever its files and its card are: a reply that a device is not available carries the number of one of its failed calls.
  abbrev pub RepliesAccuseRightly : Type 0
  RepliesAccuseRightly =
      (c : RunCall of_file of_port image Reliable w) (script : ScriptValue) → TookScript c script
      → EachPhase c (λ before behind quotas mode calls phase. AccuseRightly Reliable c.keys (applications_of script) before behind phase.events)

  -- WHAT WAS ANSWERED STANDS. Each phase and each list finds what the records before it leave, whether the power failed between or not; and where
  -- an act is refused, a device failed or memory ran out.
  abbrev pub WhatIsLeftIsFound : Type 0
  WhatIsLeftIsFound =
      (c : RunCall of_file of_port image Reliable w) (script : ScriptValue) (s : ReplayState) → TookScript c script → BeginsWith c.keys (applications_of script) c.handed s → AlterNothing (script_acts script)
      → FindLeft (applications_of script) s (outcomes_in (records_of c)) × RefusedByDevices (outcomes_in (records_of c))

  -- A POWER CUT BETWEEN ACTS. Whatever it leaves of the bench, behind any act, mounts to what the records down to there leave.
  abbrev pub CutsBetweenActs : Type 0
  CutsBetweenActs =
      (c : RunCall of_file of_port image Reliable w) (script : ScriptValue) (s : ReplayState) → TookScript c script → HasOpened c
      → BeginsWith c.keys (applications_of script) c.handed s
      → EachBench (λ done bench. AlterNothing (acts_in done) → NoneStarved (outcomes_in done)
      → HoldsBehind c.keys (applications_of script) (acts_in done) bench (left_behind (applications_of script) s (outcomes_in done))) [] (records_of c) c.given

  -- A POWER CUT INSIDE A PHASE is the run in which every device stops at some call (PowerCuts). Behind its phase, wherever each device stopped and
  -- whatever else was armed, the bench holds what the history of that phase leaves.
  abbrev pub CutsInsidePhases : Type 0
  CutsInsidePhases =
      (c : RunCall of_file of_port image Reliable w) (script : ScriptValue) (s : ReplayState) → TookScript c script → HasOpened c
      → BeginsWith c.keys (applications_of script) c.handed s
      → EachBench (λ done bench. (before : List Act) (mode : Mode) (calls : List Step) → acts_in done ≡ before ++ Serve mode calls ∷ []
      → AlterNothing (acts_in done) → NoneStarved (outcomes_in done) → Holds c.keys bench (left_behind (applications_of script) s (outcomes_in done))) [] (records_of c) c.given

  -- A POWER CUT AT EXIT. So of the bench that is given back, at whatever status: it is one that the next run may begin with.
  abbrev pub CutsAtExit : Type 0
  CutsAtExit =
      (c : RunCall of_file of_port image Reliable w) (script : ScriptValue) (s : ReplayState) → TookScript c script → HasOpened c
      → BeginsWith c.keys (applications_of script) c.handed s → AlterNothing (script_acts script) → NoneStarved (outcomes_in (records_of c))
      → BeginsWith c.keys (applications_of script) c.given (left_behind (applications_of script) s (outcomes_in (records_of c)))

  -- ALTERED AND OLDER FILES IN A RUN. Whatever was done to the files between, each mount and each list agrees with the bench that was closed last
  -- before it under the same card, or what was read clashes with it.
  abbrev pub RunsAreFresh : Type 0
  RunsAreFresh =
      (c : RunCall of_file of_port image Reliable w) (closed : Option BenchState) → HasItsCard closed c.handed → IsFreshRun of_file of_port image Reliable c.keys closed c.drew c.draws c.says.0 c.handed c.given

  -- WHEN A STATUS COMES. Only where its cause holds; and where the length or the text decides it, it comes, or memory ran out.
  abbrev pub StatusesHaveCauses : Type 0
  StatusesHaveCauses = (c : RunCall of_file of_port image Reliable w) → HasCause w c.says.0 c.handed c.given c.status × IsExact w c.says.0 c.status

  -- A script that sets no quotas does not exceed the store.
  abbrev pub RunsWithoutQuotasFit : Type 0
  RunsWithoutQuotasFit =
      (c : RunCall of_file of_port image Reliable w) (script : ScriptValue) (sum : ℕ) → TookScript c script → quotas_in (script_acts script) ≡ [] → c.status ≡ OverCommitted sum → ⊥

  -- Over devices that do not fail a script that arms and alters nothing is done, or memory ran out, unless its quotas exceed the store.
  abbrev pub QuietRunsAreDone : Type 0
  QuietRunsAreDone =
      (c : RunCall of_file of_port image Reliable w) (script : ScriptValue) (s : ReplayState) → TookScript c script → HasOpened c → Holds c.keys c.handed s
      → IsQuiet c.keys c.handed → Reliable → (Rose c.drew c.draws → ⊥) → ArmNothing (script_acts script) → AlterNothing (script_acts script) → RunsItsScript c.status
      → ((sum : ℕ) → c.status ≡ OverCommitted sum → ⊥) → IsDoneOrStarved c.status

-- WHAT WAS ANSWERED STANDS IN THE NEXT RUN. A run ended, the power failed or did not, and another run began with that bench: each of its phases and
-- lists finds what both leave down to there, and where an act is refused, a device failed or memory ran out.
abbrev pub NextRunsFindLeft : {F R : Type 0} → (F → FileState) → (R → PortState) → (image : FileState → ℕ → ℕ → List ℕ) → (Reliable Later : Type 0) → (w after : World) → Type 0
NextRunsFindLeft of_file of_port image Reliable Later w after =
    (c : RunCall of_file of_port image Reliable w) (d : RunCall of_file of_port image Later after) (script next : ScriptValue) (s : ReplayState) → TookScript c script → HasOpened c
    → BeginsWith c.keys (applications_of script) c.handed s → AlterNothing (script_acts script) → NoneStarved (outcomes_in (records_of c)) → MayCrash c.given d.handed → d.keys ≡ c.keys → TookScript d next
    → AlterNothing (script_acts next)
    → FindLeft (applications_of next) (left_behind (applications_of script) s (outcomes_in (records_of c))) (outcomes_in (records_of d))
    × RefusedByDevices (outcomes_in (records_of d))

-- A POWER CUT KEEPS what a bench holds.
abbrev pub CutsKeep : Type 0
CutsKeep = (keys : Keys) (applications : List (List ℕ)) (s : ReplayState) (old new : BenchState) → BeginsWith keys applications old s → MayCrash old new → BeginsWith keys applications new s

-- ALTERED AND OLDER FILES. Beside a bench that holds what is left: whatever pictures have its card's block 0, what mounts of them agrees with what
-- is left, or their files clash with the bench's.
abbrev pub AlteredFilesAgree : Type 0
AlteredFilesAgree =
    (keys : Keys) (bench : BenchState) (s : ReplayState) (card : CardState) (picture : Picture) (objects : ObjectMap) → Holds keys bench s → ((file : ℕ) → Sound (bench.files file))
    → HasCard bench.card (rpmb_key keys.huk) card → AreByteImages picture.images → block_zero picture.card ≡ block_zero card → mounted keys picture ≡ Ok objects
    → AgreeWithLeft s objects ⊎ ClashesWith keys bench card picture

-- Each picture of the new bench mounts as some picture of the old one does.
pub record KeepsObjects (keys : Keys) (old new : BenchState) (before : CardState) : Type 0 where
  pub after : CardState
  pub has : HasCard new.card (rpmb_key keys.huk) after
  pub keeps : (picture : Picture) → IsPictureOf new.files after picture → (was : Picture) × IsPictureOf old.files before was × (mounted keys was ≡ mounted keys picture)

-- MIGRATION. However it ended, the bench mounts to the objects that it mounted to before, over honest files and a card that has our key.
abbrev pub MigrationsKeepObjects : {F R : Type 0} → (F → FileState) → (R → PortState) → (failed : Type 0) → Type 0
MigrationsKeepObjects of_file of_port failed =
    (keys : Keys) (drew draws : ℕ) (held_old held_new : Option (List ℕ)) (handed given : BenchState) (status : Status) (card : CardState)
    → RunsMigration of_file of_port keys drew draws failed held_old held_new handed given status → HasCard handed.card (rpmb_key keys.huk) card → AreAllHonest given.files
    → KeepsObjects keys handed given card

-- It has what is listed, or the certificate clashes with it.
pub record HoldsAsCertified (keys : Keys) (block bytes : List ℕ) (l : Listed) (picture : Picture) (objects : ObjectMap) : Type 0 where
  pub certificate : IsCertificate keys block bytes l
  pub holds : HasListed l objects ⊎ ClashesWithPicture certificate picture.images

-- CERTIFICATES. What `check` accepts under a card's block 0, holds in every picture with that block that mounts.
abbrev pub CertificatesHold : Type 0
CertificatesHold =
    (keys : Keys) (block bytes : List ℕ) (l : Listed) (picture : Picture) (objects : ObjectMap) → AreBytes bytes → Answers (certificate_of keys block bytes) (Ok l)
    → AreByteImages picture.images → block_zero picture.card ≡ block → mounted keys picture ≡ Ok objects → HoldsAsCertified keys block bytes l picture objects

-- What a phase leaves over honest files: its history is legal, and each picture of its devices mounts to what that leaves.
pub record EndsLegal (store : Store) (view : GateView) (files : ℕ → FileState) (port : PortState) : Type 0 where
  pub legal : IsLegalPhase store.objects (store.mounted).applications (events_of view.all)
  pub mounts : (card : CardState) (picture : Picture) → HasCard port (rpmb_key (store.keys).huk) card → IsPictureOf files card picture
      → MountsToLeft store.keys picture (replay_left store.objects (store.mounted).applications (events_of view.all))

-- A STORE THAT IS SERVED. So ends each phase of a service on one thread (`Service::finish`) and of a store that threads share (`close_slots`).
abbrev pub PhasesEndLegal : Type 0
PhasesEndLegal =
    (store : Store) (view : GateView) (files : ℕ → FileState) (port : PortState) (doubt : Option ℕ) → LeavesStore store view files port doubt → AreAllHonest files
    → EndsLegal store view files port

-- REPLIES OVER ALTERED FILES. Where no object in a file that is not honest was damaged as the phase opened, its history is legal, with these files as
-- those that may be answered as corrupt; or at a first event what such a file gave clashes with what was committed.
abbrev pub AlteredPhasesAreLegal : Type 0
AlteredPhasesAreLegal =
    (store : Store) (view : GateView) (files : ℕ → FileState) (port : PortState) (doubt : Option ℕ) → LeavesStore store view files port doubt
    → AreUndamagedIn (tampered_in files) (mounted_files store.mounted) store.objects
    → IsLegal (phase_of store) (tampered_in files) view.all doubt ⊎ HasClashed store (nothing_back (tampered_in files)) view.all

-- these events are what the session sees of the history
abbrev pub Sees : {E : Type 0} → CallerSession E → List Event → Type 0
Sees s events = (pass : Sight PassView) × (s.pass ≡ Some pass) × (events ≡ events_of pass.knows.seen)

-- A session's call was answered, and stands in the history once.
pub record CallStands {E : Type 0} (was now : CallerSession E) (call : Call) (reply : Reply) (place : ℕ) : Type 0 where
  pub before : List Event
  pub after : List Event
  pub saw : Sees was before
  pub sees : Sees now after
  pub stands : StandsAt was.number was.made call reply place before after
  pub made : now.made ≡ was.made + 1

-- A CALL OF A SERVICE on one thread (`Service::call`) that is given a place.
abbrev pub ServiceCallsStand : {F R E : Type 0} → (F → FileState) → (R → PortState) → (draws : E → ℕ) → Type 0
ServiceCallsStand {F = F} {R = R} {E = E} of_file of_port draws =
    (store : Store) (old new : ServiceValue F R) (was now : CallerSession E) (call : Call) (reply : Reply) (place : ℕ)
    → AnswersCall of_file of_port draws store old new was now call (Some place) reply → CallStands was now call reply place

-- A CALL OF A STORE THAT THREADS SHARE (`SharedStore::call`) that is answered.
abbrev pub SharedCallsStand : (E X : Type 0) → Type 0
SharedCallsStand E X =
    (store : Store) (was now : CallerSession E) (call : Call) (reply : Reply) (place : ℕ) → EndsCall {E = E} {X = X} store was now call (Ok (record { place = place; reply = reply }))
    → CallStands was now call reply place
