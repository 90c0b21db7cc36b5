-- A phase that begins over files that are not honest: what the bench that was closed last held, in the place of damage.
use Rattle.std.specs.Prelude.{◌≡◌, ◌⊎◌, ℕ, List, true, Ok, Option, Some, None}
use Rattle.disk_model.specs.State.{FileState}
use Rattle.hmac_keys.specs.declared.Keys.{Keys}
use Rattle.hmac_keys.specs.KeyTable.{rpmb_key}
use Rattle.tee_types.specs.Limits.{directory_file}
use Rattle.rpmb_card.specs.Card.{CardState}
use Rattle.rpmb_card.specs.Port.{PortState}
use Rattle.rpmb_host.specs.Honest.{HasCard}
use Rattle.store_model.specs.Damage.{HasLessDamage}
use Rattle.store_model.specs.declared.event.Event.{Event}
use Rattle.store_model.specs.Object.{Object, ObjectMap, object_at}
use Rattle.dir_records.specs.declared.entry.DirEntry.{DirEntry}
use Rattle.crash_core.specs.Entries.{name_of}
use Rattle.crash_core.specs.EntryLists.{entry_at}
use Rattle.crash_core.specs.MountedObject.{root_of}
use Rattle.crash_core.specs.Mounting.{mounted}
use Rattle.history_seats.specs.Numbers.{is_in}
use Rattle.core_laws.specs.Answered.{AreAnswered, IsEnded}
use Rattle.core_laws.specs.Stores.{Store, objects_under}
use Rattle.core_laws.specs.TamperScenarios.{TamperScenario}
use Rattle.commit_gate.specs.ClosedStores.{tampered_in}
use Rattle.script_text.specs.declared.script.Arm.{Arm}
use Rattle.script_text.specs.declared.script.Mode.{Mode}
use Rattle.script_text.specs.declared.script.Step.{Step}
use Rattle.object_calls.specs.MountedEntries.{version_in}
use Rattle.object_calls.specs.Opening.{bench_files}
use Rattle.run_acts.specs.Benches.{BenchState}
use Rattle.run_acts.specs.Between.{AreSound}
use Rattle.run_acts.specs.Phases.{RunsPhase}
use Rattle.run_acts.specs.declared.refused_call.RefusedCall.{RefusedCall}
use Rattle.app_quota.specs.declared.quotas.Quota.{Quota}
use Rattle.freshness_laws.specs.Readings.{ReadTree}
use Rattle.freshness_laws.specs.SeenStores.{SeenStore, map_seen, object_read}
use Rattle.freshness_laws.specs.Takings.{ClashesOwn, TakesStore}
use Rattle.run_freshness.specs.Laws.{KeepsCard}
use Rattle.run_freshness.specs.Seen.{ClosedStore, MountedDirectoryClash, picture_read}

module _ {keys : Keys} {block : List ℕ} (before : SeenStore keys block) (e : DirEntry) where
  -- Under the scenario the entry's object is, as the phase begins, the one that was held, with less damage or the same.
  pub record BeginsMended (store : Store) (scenario : TamperScenario) : Type 0 where
    pub object : Object
    pub begins : object_at (objects_under store scenario) (name_of e) ≡ Some object
    pub less : HasLessDamage (object_read keys e (before.trees e)) object

  -- What was held of the entry clashes with the version that its file holds as the phase begins.
  pub record OpeningClash (files : ℕ → FileState) : Type 0 where
    pub read : ReadTree (root_of e)
    pub is_read : before.trees e ≡ Some read
    pub clash : ClashesOwn keys (version_in keys files e) read

module _ {F R : Type 0} (of_file : F → FileState) (of_port : R → PortState) (Reliable : Type 0) where
  module _ {keys : Keys} {applications : List (List ℕ)} {quotas : List Quota} {arms : List Arm} {mode : Mode} {calls : List Step} {old new : BenchState} {opening : ObjectMap} {events : List Event}
      {refused : List RefusedCall} where
    -- A tamper scenario takes what the closed bench held. The files that are not honest are those of the phase's end. Under it the phase's history
    -- is answered, or the promises end at a first event; and each object in such a file begins with no more damage than it had, or there is a clash.
    pub record BeginsTaken (closed : BenchState) (card : CardState) (objects : ObjectMap) (p : RunsPhase of_file of_port Reliable keys applications quotas arms mode calls old new opening events refused) : Type 0 where
      pub before : ClosedStore keys closed card
      pub objects_are : objects ≡ map_seen before.seen
      pub scenario : TamperScenario
      pub takes : TakesStore scenario (tampered_in (p.closed).files) before.seen
      pub answered : AreAnswered (p.serves).store scenario (((p.serves).closes).view).all ⊎ IsEnded (p.serves).store scenario (((p.serves).closes).view).all
      pub mends : (index : ℕ) (e : DirEntry) → entry_at (before.seen).entries index ≡ Some e → is_in e.file (tampered_in (p.closed).files) ≡ true
          → BeginsMended before.seen e (p.serves).store scenario ⊎ OpeningClash before.seen e (bench_files of_file (p.serves).armed)

    -- So beside a bench that mounts; or the directory that the phase's mount read clashes with its own.
    abbrev pub BeginsBeside : (closed : BenchState) → RunsPhase of_file of_port Reliable keys applications quotas arms mode calls old new opening events refused → Type 0
    BeginsBeside closed p =
        (card : CardState) (objects : ObjectMap) → HasCard closed.card (rpmb_key keys.huk) card → mounted keys (picture_read closed card) ≡ Ok objects
        → BeginsTaken closed card objects p ⊎ MountedDirectoryClash of_file of_port keys closed card (old.files directory_file) p.opened

    -- beside the bench that was closed last, if one was
    abbrev pub BeginsSince : (closed : Option BenchState) → RunsPhase of_file of_port Reliable keys applications quotas arms mode calls old new opening events refused → Type 0
    BeginsSince None p = Unit {0}
    BeginsSince (Some closed) p = BeginsBeside closed p

  -- Every phase begins so beside a bench that was closed before it under the same card, whatever was done to the files since.
  abbrev pub PhasesBeginBeside : Type 0
  PhasesBeginBeside =
      (keys : Keys) (applications : List (List ℕ)) (quotas : List Quota) (arms : List Arm) (mode : Mode) (calls : List Step) (closed old new : BenchState) (opening : ObjectMap) (events : List Event)
      (refused : List RefusedCall)
      → AreSound closed.files → KeepsCard closed old → (p : RunsPhase of_file of_port Reliable keys applications quotas arms mode calls old new opening events refused) → BeginsBeside closed p
