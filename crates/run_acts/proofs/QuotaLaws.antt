-- How the quotas of a phase isolate its applications.
use Rattle.std.proofs.Common.{◌≡◌, ◌≢◌, ◌≤◌, ◌∙◌, ℕ, cond, List, [], ◌∷◌, take, drop, Bool, true, refl, sym, ap, subst, take-append-drop}
use Rattle.std.proofs.lemmas.List.Elements.{All-weaker}
use Rattle.disk_model.specs.State.{FileState, Sound}
use Rattle.hmac_keys.specs.declared.Keys.{Keys}
use Rattle.rpmb_card.specs.Port.{PortState}
use Rattle.tee_types.specs.declared.call.Call.{Call}
use Rattle.tee_types.specs.declared.reply.Code.TheVariants.{NoSpace}
use Rattle.tee_types.specs.declared.reply.Reply.TheVariants.{Refused}
use Rattle.app_quota.specs.Commitments.{committed_objects, distinct_apps}
use Rattle.app_quota.specs.Limits.{Limits, is_beyond, quota_reply}
use Rattle.app_quota.specs.Quotas.{limit_of}
use Rattle.app_quota.specs.declared.quotas.Quota.{Quota}
use Rattle.app_quota.proofs.Bounded.{quotas_isolate}
use Rattle.app_quota.proofs.Commitments.{distinct_apps_are_apart}
use Rattle.app_quota.proofs.Raises.{events_stay_within}
use Rattle.store_model.specs.declared.event.Event.{Event}
use Rattle.store_model.specs.Calls.{outcome_of}
use Rattle.store_model.specs.Legal.{IsLegalFrom}
use Rattle.store_model.specs.LegalHistory.{opening_with}
use Rattle.store_model.specs.Machine.{MachineState, refuse}
use Rattle.store_model.specs.Object.{ObjectMap}
use Rattle.store_model.specs.ReplayState.{PhaseOpening}
use Rattle.history_seats.specs.Records.{HistoryRecord}
use Rattle.core_laws.specs.Answered.{AreAnswered}
use Rattle.core_laws.specs.Stores.{Store, objects_under, phase_of, replay_at, start_under}
use Rattle.core_laws.specs.TamperScenarios.{TamperScenario, nothing_back}
use Rattle.core_laws.specs.TieLaws.{AreRising}
use Rattle.core_laws.proofs.Answers.{answered-front}
use Rattle.core_laws.proofs.Rising.{replay_state-rises}
use Rattle.quota_store.proofs.QuotaHistories.{committed_same}
use Rattle.script_text.specs.declared.script.Arm.{Arm}
use Rattle.script_text.specs.declared.script.Mode.{Mode}
use Rattle.script_text.specs.declared.script.Step.{Step}
use Rattle.object_calls.specs.FinishedPhase.{AreAllHonest}
use Rattle.object_calls.specs.Opening.{bench_files, entries_in}
use Rattle.object_calls.proofs.HonestOpenings.{answered-honest, unchanged-found}
use Rattle.object_calls.proofs.OpeningMaps.{opening-rises}
use Rattle.run_acts.specs.Benches.{BenchState}
use Rattle.run_acts.specs.Phases.{RunsPhase}
use Rattle.run_acts.specs.QuotaLaws.{AreIsolated, HonestQuotaPhasesIsolate, IsOverQuota, QuotaPhasesIsolate}
use Rattle.run_acts.specs.QuotaRefusals.{AreRoomFor, IsRightlyRefused, KeepsQuotas}
use Rattle.run_acts.specs.declared.refused_call.RefusedCall.{RefusedCall}
use Rattle.run_acts.proofs.Admissions.{quotas-of}
use Rattle.run_acts.proofs.PhasesLeft.{applications_are, closed_honest, objects_are}

room-of : (quotas : List Quota) (applications : List (List ℕ)) (objects : ObjectMap) → quotas ≢ [] → AreRoomFor quotas applications objects
    → committed_objects (limit_of quotas) (distinct_apps applications) objects ≤ 256
room-of [] applications objects some room = absurd (some refl)
room-of (quota ∷ quotas) applications objects some room = room

over-quota : (limits : Limits) (s : MachineState) (session : ℕ) (call : Call) → is_beyond limits s session call ≡ true → quota_reply limits s session call ≡ Refused NoSpace
over-quota limits s session call beyond = ap (λ (b : Bool). (cond b (refuse s (Refused NoSpace)) (outcome_of s session call)).reply) beyond

-- what a phase opens with under a tamper scenario
abbrev phase_in : Store → TamperScenario → PhaseOpening
phase_in store scenario = record (phase_of store) { objects = objects_under store scenario }

-- A HISTORY THAT KEEPS ITS QUOTAS
module _ (quotas : List Quota) (store : Store) (records : List HistoryRecord) (steps : List Step) (refused : List RefusedCall) (kept : KeepsQuotas quotas store records steps refused)
    (rising : AreRising store.objects) (room : committed_objects (limit_of quotas) (distinct_apps store.mounted.applications) store.objects ≤ 256)
    (scenario : TamperScenario) (answered : AreAnswered store scenario records) (legal : IsLegalFrom scenario.tampered (start_under store scenario) records) where
  abbrev limits : Limits
  limits = limit_of quotas

  abbrev apps : List (List ℕ)
  apps = distinct_apps store.mounted.applications

  refused-there : (r : RefusedCall) → IsRightlyRefused limits store records steps refused r → IsOverQuota limits scenario.tampered (phase_of store) (objects_under store scenario) records steps r
  refused-there r w =
      let before : AreAnswered store scenario (take r.place records) =
      answered-front store scenario (take r.place records) (drop r.place records) (subst (AreAnswered store scenario) (sym (take-append-drop r.place records)) answered) in
      record {
        app = w.app;
        call = w.call;
        is = w.is;
        beyond = w.beyond scenario before;
        reply = over-quota limits (replay_at store scenario (take r.place records)).state w.app w.call (w.beyond scenario before);
      }

  pub isolated-under : AreIsolated limits scenario.tampered (phase_of store) (objects_under store scenario) records steps refused
  isolated-under = record {
    within = events_stay_within limits scenario.tampered (phase_in store scenario) records legal (kept.within scenario answered);
    refused_rightly = All-weaker (IsRightlyRefused limits store records steps refused) (IsOverQuota limits scenario.tampered (phase_of store) (objects_under store scenario) records steps) refused-there refused
        kept.rightly;
    alone = λ app.
        quotas_isolate limits scenario.tampered app apps (phase_in store scenario) records (distinct_apps_are_apart.apart store.mounted.applications) (distinct_apps_are_apart.among store.mounted.applications)
        (subst (λ (n : ℕ). n ≤ 256) (sym (committed_same store scenario limits apps)) room) (replay_state-rises store scenario [] rising) legal (kept.within scenario answered);
  }

-- A PHASE
module _ {F R : Type 0} (of_file : F → FileState) (of_port : R → PortState) (Reliable : Type 0) (keys : Keys) (applications : List (List ℕ)) (quotas : List Quota) (arms : List Arm) (mode : Mode)
    (calls : List Step) (old new : BenchState) (opening : ObjectMap) (events : List Event) (refused : List RefusedCall)
    (r : RunsPhase of_file of_port Reliable keys applications quotas arms mode calls old new opening events refused) (some : quotas ≢ []) where
  abbrev s : Store
  s = (r.serves).store

  abbrev all : List HistoryRecord
  all = (((r.serves).closes).view).all

  objects-opened : s.objects ≡ opening
  objects-opened = objects_are of_file of_port Reliable keys applications quotas arms mode calls old new opening events refused r

  rising : AreRising s.objects
  rising = subst AreRising (sym (r.serves).opens) (opening-rises keys (bench_files of_file r.opened) (entries_in r.opened))

  room : committed_objects (limit_of quotas) (distinct_apps s.mounted.applications) s.objects ≤ 256
  room =
      subst (λ (x : List (List ℕ) × ObjectMap). committed_objects (limit_of quotas) (distinct_apps x.0) x.1 ≤ 256)
      (λ i. (sym (applications_are of_file of_port Reliable keys applications quotas arms mode calls old new opening events refused r) i, sym objects-opened i))
      (room-of quotas applications opening some r.room)

  pub isolates : (scenario : TamperScenario) → AreAnswered s scenario all → IsLegalFrom scenario.tampered (start_under s scenario) all
      → AreIsolated (limit_of quotas) scenario.tampered (phase_of s) (objects_under s scenario) all calls refused
  isolates scenario answered legal = isolated-under quotas s all calls refused (quotas-of quotas s all calls refused some (r.serves).quotas_kept) rising room scenario answered legal

  module _ (sound : (f : F) → Sound (of_file f)) (honest : AreAllHonest new.files) where
    unchanged : objects_under s (nothing_back []) ≡ s.objects
    unchanged = unchanged-found of_file sound s (r.serves).armed (r.serves).is_store []

    left : AreAllHonest (r.closed).files
    left = closed_honest of_file of_port Reliable keys applications quotas arms mode calls old new opening events refused r honest

    pub isolates-honest : AreIsolated (limit_of quotas) [] (phase_of s) opening all calls refused
    isolates-honest =
        subst (λ (m : ObjectMap). AreIsolated (limit_of quotas) [] (phase_of s) m all calls refused) (unchanged ∙ objects-opened)
        (isolates (nothing_back [])
        (answered-honest s ((r.serves).closes).view (r.closed).files (r.closed).card ((r.serves).closes).doubt ((r.serves).closes).leaves left)
        (subst (λ (m : ObjectMap). IsLegalFrom [] (opening_with (phase_of s) m) all) (sym unchanged) ((((r.serves).closes).leaves).honest left).events_legal))

pub quota_phases_isolate : {F R : Type 0} (of_file : F → FileState) (of_port : R → PortState) (Reliable : Type 0) → QuotaPhasesIsolate of_file of_port Reliable
quota_phases_isolate of_file of_port Reliable keys applications quotas arms mode calls old new opening events refused scenario r some answered legal =
    isolates of_file of_port Reliable keys applications quotas arms mode calls old new opening events refused r some scenario answered legal

pub honest_quota_phases_isolate : {F R : Type 0} (of_file : F → FileState) → ((f : F) → Sound (of_file f)) → (of_port : R → PortState) (Reliable : Type 0) → HonestQuotaPhasesIsolate of_file of_port Reliable
honest_quota_phases_isolate of_file sound of_port Reliable keys applications quotas arms mode calls old new opening events refused r some honest =
    isolates-honest of_file of_port Reliable keys applications quotas arms mode calls old new opening events refused r some sound honest
