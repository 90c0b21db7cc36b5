-- Phases in which memory ran out: what became of the bench.
use Rattle.std.proofs.Common.{◌≡◌, ℕ, List, [], ◌∷◌, inr, refl, subst}
use Rattle.disk_model.specs.State.{FileState}
use Rattle.hmac_keys.specs.declared.Keys.{Keys}
use Rattle.rpmb_card.specs.Port.{PortState}
use Rattle.app_quota.specs.declared.quotas.Quota.{Quota}
use Rattle.store_model.specs.declared.event.Event.{Event}
use Rattle.script_text.specs.declared.script.Arm.{Arm}
use Rattle.script_text.specs.declared.script.Mode.{Mode}
use Rattle.script_text.specs.declared.script.Step.{Step}
use Rattle.store_commit.specs.declared.fault.MountFault.{MountFault}
use Rattle.store_commit.specs.declared.fault.MountFault.TheVariants.{NoMemory}
use Rattle.core_laws.specs.Stores.{Store}
use Rattle.history_seats.specs.Records.{HistoryRecord}
use Rattle.object_calls.specs.OpenedStores.{store_in}
use Rattle.object_calls.specs.Opening.{IsKeyed, OpeningValue}
use Rattle.run_acts.specs.Benches.{BenchState, KeepsDevices, opening_state}
use Rattle.run_acts.specs.Closing.{ClosesEarly, served}
use Rattle.run_acts.specs.Disarming.{Disarms}
use Rattle.run_acts.specs.MountedDevices.{IsMounted}
use Rattle.run_acts.specs.PhaseArms.{IsReady}
use Rattle.run_acts.specs.PhaseRefusals.{ClosesOpened, EndsStarved, IsGivenUp, in_part, mounted}
use Rattle.run_acts.specs.Phases.{ServesOpened}
use Rattle.run_acts.specs.QuotaRefusals.{HoldsOfAdmitted, KeepsPhaseQuotas, admitted}
use Rattle.run_acts.specs.ServedSteps.{ServesFront}
use Rattle.run_acts.specs.declared.refused_call.RefusedCall.{RefusedCall}
use Rattle.run_acts.proofs.Admissions.{holds-weaker}
use Rattle.run_acts.proofs.Ready.{ready-keyed, ready-map}
use Rattle.run_acts.proofs.ServedSteps.{serves_all}

-- without any quota no call is refused
none-refused : (quotas : List Quota) (store : Store) (records : List HistoryRecord) (steps : List Step) (refused : List RefusedCall) → quotas ≡ [] → KeepsPhaseQuotas quotas store records steps refused → refused ≡ []
none-refused [] store records steps refused none kept = kept
none-refused (quota ∷ quotas) store records steps refused none kept = absurd (cc (none))

module _ {F R : Type 0} (of_file : F → FileState) (of_port : R → PortState) (keys : Keys) (applications : List (List ℕ)) (arms : List Arm) (mode : Mode) (calls : List Step) where
  -- a store that was ready, and closed early
  pub early_opened : (opened armed : OpeningValue F R) (closed : BenchState) → IsReady of_file of_port applications arms opened armed → IsKeyed keys opened
      → ClosesEarly (store_in keys of_file armed) (opening_state of_file of_port armed) mode calls closed → ClosesOpened of_file of_port keys applications arms mode calls opened closed
  early_opened opened armed closed ready keyed closes = in_part (record {
    armed = armed;
    ready = ready;
    store = store_in keys of_file armed;
    is_store = record { keyed = ready-keyed of_file of_port applications arms opened armed ready keys keyed; is = refl };
    keys_are = refl;
    opens = ready-map of_file of_port applications arms opened armed ready keys;
    closes = closes;
  })

  -- a store that was served to the end, and closed
  pub served_opened : (quotas : List Quota) (Reliable : Type 0) (opened : OpeningValue F R) (closed : BenchState) (events : List Event) (refused : List RefusedCall)
      → ServesOpened of_file of_port Reliable keys applications quotas arms mode calls opened closed events refused
      → HoldsOfAdmitted quotas calls (λ steps. ClosesOpened of_file of_port keys applications arms mode steps opened closed)
  served_opened quotas Reliable opened closed events refused s =
      let c = s.closes in
      let made = admitted refused calls in
      record {
        refused = refused;
        unrefused = λ none. none-refused quotas s.store c.view.all calls refused none s.quotas_kept;
        holds = in_part (record {
          armed = s.armed;
          ready = s.ready;
          store = s.store;
          is_store = s.is_store;
          keys_are = s.keys_are;
          opens = s.opens;
          closes = served c.view c.doubt (subst (ServesFront mode made) c.events_are (serves_all mode made events c.serves)) c.leaves c.devices;
        });
      }

  -- a bench that was disarmed then
  pub starved_opened : (old new : BenchState) (opened : OpeningValue F R) (closed : BenchState) (fault : MountFault) (drew draws : ℕ) → fault ≡ NoMemory → IsMounted of_file of_port keys old opened
      → KeepsDevices old (opening_state of_file of_port opened) → draws ≡ drew → ClosesOpened of_file of_port keys applications arms mode calls opened closed → Disarms closed new
      → EndsStarved of_file of_port keys applications arms mode calls old new drew draws fault
  starved_opened old new opened closed fault drew draws is mounts keeps undrawn closes disarms = record {
    fault_is = is;
    left = closed;
    leaves = mounted opened mounts keeps undrawn closes;
    disarms = disarms;
  }

-- so under quotas, whichever calls were admitted
module _ {F R : Type 0} (of_file : F → FileState) (of_port : R → PortState) (keys : Keys) (applications : List (List ℕ)) (quotas : List Quota) (arms : List Arm) (mode : Mode) (calls : List Step)
    (old new : BenchState) (fault : MountFault) (drew draws : ℕ) where
  pub given_up_within : IsGivenUp of_file of_port keys applications arms mode (admitted [] calls) old new drew draws fault
      → HoldsOfAdmitted quotas calls (λ steps. IsGivenUp of_file of_port keys applications arms mode steps old new drew draws fault)
  given_up_within given = record { refused = []; unrefused = λ none. refl; holds = given }

  pub starved_within : (opened : OpeningValue F R) (closed : BenchState) → fault ≡ NoMemory → IsMounted of_file of_port keys old opened → KeepsDevices old (opening_state of_file of_port opened) → draws ≡ drew
      → HoldsOfAdmitted quotas calls (λ steps. ClosesOpened of_file of_port keys applications arms mode steps opened closed) → Disarms closed new
      → HoldsOfAdmitted quotas calls (λ steps. IsGivenUp of_file of_port keys applications arms mode steps old new drew draws fault)
  starved_within opened closed is mounts keeps undrawn closes disarms =
      holds-weaker quotas calls (λ steps. ClosesOpened of_file of_port keys applications arms mode steps opened closed)
      (λ steps. IsGivenUp of_file of_port keys applications arms mode steps old new drew draws fault)
      (λ steps some. inr (starved_opened of_file of_port keys applications arms mode steps old new opened closed fault drew draws is mounts keeps undrawn some disarms)) closes
