-- How the quotas of a phase isolate its applications.
use Rattle.std.specs.Prelude.{◌≡◌, ◌≢◌, ℕ, All, List, [], slice_get, take, true, Some}
use Rattle.disk_model.specs.State.{FileState}
use Rattle.hmac_keys.specs.declared.Keys.{Keys}
use Rattle.rpmb_card.specs.Port.{PortState}
use Rattle.tee_types.specs.declared.call.Call.{Call}
use Rattle.tee_types.specs.declared.reply.Code.TheVariants.{NoSpace}
use Rattle.tee_types.specs.declared.reply.Reply.TheVariants.{Refused}
use Rattle.app_totals.specs.Totals.{objects_of}
use Rattle.app_quota.specs.Isolation.{IsIsolated, StayWithinEach}
use Rattle.app_quota.specs.Limits.{Limits, is_beyond, quota_reply}
use Rattle.app_quota.specs.Quotas.{limit_of}
use Rattle.app_quota.specs.declared.quotas.Quota.{Quota}
use Rattle.store_model.specs.declared.event.Event.{Event}
use Rattle.store_model.specs.Legal.{IsLegalFrom}
use Rattle.store_model.specs.LegalHistory.{opening_with}
use Rattle.store_model.specs.Object.{ObjectMap}
use Rattle.store_model.specs.ReplayState.{PhaseOpening, replay}
use Rattle.history_seats.specs.Records.{HistoryRecord}
use Rattle.core_laws.specs.Answered.{AreAnswered}
use Rattle.core_laws.specs.Stores.{objects_under, phase_of, start_under}
use Rattle.core_laws.specs.TamperScenarios.{TamperScenario}
use Rattle.script_text.specs.declared.script.Arm.{Arm}
use Rattle.script_text.specs.declared.script.Mode.{Mode}
use Rattle.script_text.specs.declared.script.Step.{Step}
use Rattle.script_text.specs.declared.script.Step.TheVariants.{Call as CallStep}
use Rattle.object_calls.specs.FinishedPhase.{AreAllHonest}
use Rattle.run_acts.specs.Benches.{BenchState}
use Rattle.run_acts.specs.Phases.{RunsPhase}
use Rattle.run_acts.specs.declared.refused_call.RefusedCall.{RefusedCall}

-- Of a phase that begins with these objects, in whose history files of that list are not honest.
module _ (limits : Limits) (tampered : List ℕ) (phase : PhaseOpening) (begins : ObjectMap) (records : List HistoryRecord) (steps : List Step) where
  -- The call of a step is one that quotas refuse, behind so many records.
  pub record IsOverQuota (r : RefusedCall) : Type 0 where
    pub app : ℕ
    pub call : Call
    pub is : slice_get steps r.step ≡ Some (CallStep app call)
    -- it would leave its application more than that may have
    pub beyond : is_beyond limits (replay (opening_with phase begins) (take r.place records)).state app call ≡ true
    pub reply : quota_reply limits (replay (opening_with phase begins) (take r.place records)).state app call ≡ Refused NoSpace

  pub record AreIsolated (refused : List RefusedCall) : Type 0 where
    -- each event that raises a number of an application leaves it within its quota
    pub within : StayWithinEach limits (opening_with phase begins) records
    -- each call that was refused is one that quotas refuse
    pub refused_rightly : All IsOverQuota refused
    -- each application's calls are answered by its own calls alone, from its own objects; or a device has the blame. The limit of 256 objects is
    -- in no reply
    pub alone : (app : List ℕ) → IsIsolated limits tampered app (opening_with phase begins) (opening_with phase (objects_of app begins)) records

module _ {F R : Type 0} (of_file : F → FileState) (of_port : R → PortState) (Reliable : Type 0) where
  -- In a phase under quotas applications are isolated under each tamper scenario under which the history is answered, and legal.
  abbrev pub QuotaPhasesIsolate : Type 0
  QuotaPhasesIsolate =
      (keys : Keys) (applications : List (List ℕ)) (quotas : List Quota) (arms : List Arm) (mode : Mode) (calls : List Step) (old new : BenchState) (opening : ObjectMap) (events : List Event)
      (refused : List RefusedCall) (scenario : TamperScenario)
      → (r : RunsPhase of_file of_port Reliable keys applications quotas arms mode calls old new opening events refused) → quotas ≢ []
      → AreAnswered (r.serves).store scenario (((r.serves).closes).view).all
      → IsLegalFrom scenario.tampered (start_under (r.serves).store scenario) (((r.serves).closes).view).all
      → AreIsolated (limit_of quotas) scenario.tampered (phase_of (r.serves).store) (objects_under (r.serves).store scenario) (((r.serves).closes).view).all calls refused

  -- So they are where every file is honest, from the objects that the phase opens with.
  abbrev pub HonestQuotaPhasesIsolate : Type 0
  HonestQuotaPhasesIsolate =
      (keys : Keys) (applications : List (List ℕ)) (quotas : List Quota) (arms : List Arm) (mode : Mode) (calls : List Step) (old new : BenchState) (opening : ObjectMap) (events : List Event)
      (refused : List RefusedCall)
      → (r : RunsPhase of_file of_port Reliable keys applications quotas arms mode calls old new opening events refused) → quotas ≢ [] → AreAllHonest new.files
      → AreIsolated (limit_of quotas) [] (phase_of (r.serves).store) opening (((r.serves).closes).view).all calls refused
