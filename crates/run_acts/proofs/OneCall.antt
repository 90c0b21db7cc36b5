-- One call, as the making of one.
use Rattle.std.proofs.Common.{◌≡◌, ◌==◌, ◌<◌, ℕ, Bool, true, false, cond, List, [], ◌∷◌, ◌++◌, length, get_or, Option, Some, None, refl, sym, ap, ◌∙◌, subst, inl, inr, append_assoc, eq-eqb}
use Rattle.std.specs.Prelude.{slice_set}
use Rattle.std.proofs.lemmas.Bool.{cases_eq, ne_eqb}
use Rattle.std.proofs.lemmas.List.{get_or-set_other, get_or-set_same, get_or_default}
use Rattle.disk_model.specs.State.{FileState}
use Rattle.hmac_keys.specs.KeyTable.{rpmb_key}
use Rattle.rpmb_card.specs.Port.{PortState}
use Rattle.tee_types.specs.declared.call.Call.{Call}
use Rattle.tee_types.specs.declared.reply.Device.{Device}
use Rattle.tee_types.specs.declared.reply.Device.TheVariants.{Card, Dir, Entropy, File}
use Rattle.tee_types.specs.declared.reply.Reply.{Reply}
use Rattle.store_model.specs.declared.event.Event.TheVariants.{Call as CallEvent}
use Rattle.store_model.specs.declared.event.Mark.{Mark}
use Rattle.script_text.specs.declared.script.Step.TheVariants.{Call as CallStep}
use Rattle.core_laws.specs.Stores.{Store}
use Rattle.quota_store.specs.CallerSessions.{CallerSession}
use Rattle.quota_store.specs.EventCounts.{events_at, landing_events}
use Rattle.quota_store.specs.DeviceCounts.{Rise, told_of}
use Rattle.quota_store.specs.Devices.{CountsGrow, Devices, DevicesGoOn, faults_of}
use Rattle.quota_store.specs.Rising.{devices_in}
use Rattle.quota_store.proofs.CarriedCounts.{added_by, counts_of-call, counts_of-landing, draws_of-call, draws_of-landing}
use Rattle.quota_store.proofs.Cards.{TellsCard-call, TellsCard-landing}
use Rattle.quota_store.proofs.CountGrowth.{counts_grow}
use Rattle.quota_store.proofs.Tellings.{Rise-told_of}
use Rattle.object_calls.specs.OpeningArms.{IsOnBench}
use Rattle.object_calls.specs.Calling.{AnswersCall, serving}
use Rattle.object_calls.specs.Services.{ServiceValue}
use Rattle.object_calls.specs.OpeningSessions.{AreSeated}
use Rattle.run_acts.specs.MadeCalls.{MakesCalls, bench_devices, faults_at}
use Rattle.run_acts.specs.ServedSteps.{steps_served}
use Rattle.run_acts.proofs.Seats.{seated_with}

-- what the events of a landing, and of a call behind it, serve
steps_served-landing : (landed : Option ℕ) → steps_served (landing_events landed) ≡ []
steps_served-landing None = refl
steps_served-landing (Some commit) = refl

steps_served-call : (app number : ℕ) (call : Call) (reply : Reply) (mark : Mark) (landed : Option ℕ) → steps_served (added_by app number call reply mark landed) ≡ CallStep app call ∷ []
steps_served-call app number call reply mark None = refl
steps_served-call app number call reply mark (Some commit) = refl

module _ {F R E : Type 0} (of_file : F → FileState) (of_port : R → PortState) (draws : E → ℕ) (store : Store) (old new : ServiceValue F R) (was : List (CallerSession E))
    (app : ℕ) (found after : CallerSession E) (call : Call) (reply : Reply) (seated : AreSeated store was) (within : app < length was) where
  -- the session that makes the call
  abbrev caller : CallerSession E
  caller = get_or was app found

  abbrev before : Devices
  before = devices_in of_file of_port draws (serving old caller)

  abbrev behind : Devices
  behind = devices_in of_file of_port draws (serving new after)

  abbrev now : List (CallerSession E)
  now = slice_set was app after

  abbrev Answered : Option ℕ → Type 0
  Answered place = AnswersCall of_file of_port draws store old new caller after call place reply

  abbrev key : List ℕ
  key = rpmb_key store.keys.huk

  grows : DevicesGoOn key before behind → CountsGrow before behind
  grows goes_on = counts_grow key before behind goes_on

  -- but for the session's entropy, the devices are those of the bench
  bench_goes_on : DevicesGoOn key before behind → DevicesGoOn key (bench_devices of_file of_port old) (bench_devices of_file of_port new)
  bench_goes_on goes_on = record { dir = goes_on.dir; file = goes_on.file; card = goes_on.card; draws = inl refl }

  number_is : caller.number ≡ app
  number_is = seated.numbered app found within

  -- the devices of the bench are no session's
  on_bench : (device : Device) → IsOnBench device → (counts : List ℕ) → Rise (faults_of before device) (faults_of behind device) counts
      → Rise (faults_at of_file of_port draws old device) (faults_at of_file of_port draws new device) counts
  on_bench Dir on counts rise = rise
  on_bench (File n) on counts rise = rise
  on_bench Card on counts rise = rise
  on_bench Entropy on counts rise = absurd on

  -- each session's entropy: the caller's as it is behind the call, and the others as they were
  drew : (own : List ℕ) → Rise (draws caller.entropy) (draws after.entropy) own → (session : ℕ) (d : CallerSession E)
      → Rise (draws (get_or was session d).entropy) (draws (get_or now session d).entropy) (cond (app == session) own [])
  drew own rise session d = elim (cases_eq session app) [
    | inl same ↦
        let here : (app == session) ≡ true = eq-eqb app session (sym same) in
        let first : get_or was session d ≡ caller = ap (λ k. get_or was k d) same ∙ get_or_default was app d found within in
        let last : get_or now session d ≡ after = ap (λ k. get_or now k d) same ∙ get_or-set_same was app after d within in
        subst (λ (s : CallerSession E). Rise (draws s.entropy) (draws (get_or now session d).entropy) (cond (app == session) own [])) (sym first)
        (subst (λ (s : CallerSession E). Rise (draws caller.entropy) (draws s.entropy) (cond (app == session) own [])) (sym last)
        (subst (λ b. Rise (draws caller.entropy) (draws after.entropy) (cond b own [])) (sym here) rise))
    | inr other ↦
        let elsewhere : (app == session) ≡ false = ne_eqb app session (λ e. other (sym e)) in
        let same : get_or now session d ≡ get_or was session d = get_or-set_other was app session after d other in
        subst (λ (s : CallerSession E). Rise (draws (get_or was session d).entropy) (draws s.entropy) (cond (app == session) own [])) (sym same)
        (subst (λ b. Rise (draws (get_or was session d).entropy) (draws (get_or was session d).entropy) (cond b own [])) (sym elsewhere) (inl refl))
  ]

  -- the call was answered, and has its event
  pub made_one : (place : ℕ) → Answered (Some place) → MakesCalls of_file of_port draws store old new was now (CallStep app call ∷ [])
  made_one place answered =
      let goes_on = answered.at.goes_on in
      let told : (device : Device) → Rise (faults_of before device) (faults_of behind device) (told_of device reply) =
      λ device. Rise-told_of key before behind device reply answered.at.accuses (grows answered.devices device) in
      record {
        added = added_by app caller.made call reply goes_on.mark goes_on.landed;
        events = goes_on.events
            ∙ ap (λ n. (events_at old.gate ++ landing_events goes_on.landed) ++ CallEvent n caller.made call reply goes_on.mark ∷ []) number_is
            ∙ append_assoc (events_at old.gate) (landing_events goes_on.landed) (CallEvent app caller.made call reply goes_on.mark ∷ []);
        served = steps_served-call app caller.made call reply goes_on.mark goes_on.landed;
        counted = λ device on.
            subst (Rise (faults_at of_file of_port draws old device) (faults_at of_file of_port draws new device)) (sym (counts_of-call app caller.made call reply goes_on.mark device goes_on.landed))
            (on_bench device on (told_of device reply) (told device));
        drawn = λ session d below.
            subst (Rise (draws (get_or was session d).entropy) (draws (get_or now session d).entropy)) (sym (draws_of-call app caller.made call reply goes_on.mark session goes_on.landed))
            (drew (told_of Entropy reply) (told Entropy) session d);
        devices = bench_goes_on answered.devices;
        card = TellsCard-call key before behind goes_on.landed app caller.made call reply goes_on.mark answered.at.accuses answered.at.costs;
        storage_key = answered.storage_key;
        spare = answered.spare;
      }

  -- memory ran out, and the call has none
  pub made_none : Answered None → MakesCalls of_file of_port draws store old new was now []
  made_none answered =
      let goes_on = answered.at.1 in
      record {
        added = landing_events goes_on.landed;
        events = goes_on.events;
        served = steps_served-landing goes_on.landed;
        counted = λ device on.
            subst (Rise (faults_at of_file of_port draws old device) (faults_at of_file of_port draws new device)) (sym (counts_of-landing device goes_on.landed))
            (on_bench device on [] (grows answered.devices device));
        drawn = λ session d below.
            subst (Rise (draws (get_or was session d).entropy) (draws (get_or now session d).entropy)) (sym (draws_of-landing session goes_on.landed))
            (drew_none session d);
        devices = bench_goes_on answered.devices;
        card = TellsCard-landing key (of_port old.gate.gate.host.port) goes_on.landed;
        storage_key = answered.storage_key;
        spare = answered.spare;
      }
    where
      either_way : (own : Bool) (counts : List ℕ) → cond own counts counts ≡ counts
      either_way true counts = refl
      either_way false counts = refl

      drew_none : (session : ℕ) (d : CallerSession E) → Rise (draws (get_or was session d).entropy) (draws (get_or now session d).entropy) []
      drew_none session d =
          subst (Rise (draws (get_or was session d).entropy) (draws (get_or now session d).entropy)) (either_way (app == session) [])
          (drew [] (grows answered.devices Entropy) session d)

  pub seated_behind : (place : Option ℕ) → Answered place → AreSeated store now
  seated_behind (Some place) answered =
      let goes_on = answered.at.goes_on in
      seated_with was app within after store seated goes_on.appends.caller (goes_on.appends.extends.number ∙ number_is)
  seated_behind None answered =
      let goes_on = answered.at.1 in
      seated_with was app within after store seated goes_on.waits.caller (goes_on.waits.number ∙ number_is)
