-- Calls that are made one after another.
use Rattle.std.proofs.Common.{◌≡◌, ◌<◌, ◌+◌, ℕ, List, [], ◌∷◌, ◌++◌, length, get_or, take, refl, sym, ap, ◌∙◌, subst, inl, append_assoc}
use Rattle.std.proofs.lemmas.List.{take_more, append-nil}
use Rattle.disk_model.specs.State.{FileState}
use Rattle.rpmb_card.specs.Port.{PortState}
use Rattle.hmac_keys.specs.KeyTable.{rpmb_key}
use Rattle.core_laws.specs.Stores.{Store}
use Rattle.quota_store.proofs.CountGrowth.{devices_go_on_none, devices_go_on_then}
use Rattle.tee_types.specs.declared.reply.Device.{Device}
use Rattle.tee_types.specs.declared.reply.Device.TheVariants.{Card}
use Rattle.store_model.specs.declared.event.Event.{Event}
use Rattle.script_text.specs.declared.script.Mode.{Mode}
use Rattle.script_text.specs.declared.script.Step.{Step}
use Rattle.quota_store.specs.CallerSessions.{CallerSession}
use Rattle.quota_store.specs.EventCounts.{events_at}
use Rattle.quota_store.specs.Cards.{TellsCard}
use Rattle.quota_store.specs.DeviceCounts.{Rise, counts_of, draws_of}
use Rattle.quota_store.proofs.CarriedCounts.{counts_of-append, draws_of-append}
use Rattle.quota_store.proofs.Cards.{TellsCard-append, TellsCard-none}
use Rattle.quota_store.proofs.Rises.{Rise-append}
use Rattle.object_calls.specs.OpeningArms.{IsOnBench}
use Rattle.object_calls.specs.Services.{ServiceValue}
use Rattle.run_acts.specs.MadeCalls.{MakesCalls, MakesFront, bench_devices, faults_at}
use Rattle.run_acts.specs.ServedSteps.{ServesSteps, steps_served}
use Rattle.run_acts.proofs.ServedSteps.{events_in_order_serve, steps_served-append}

module _ {F R E : Type 0} (of_file : F → FileState) (of_port : R → PortState) (draws : E → ℕ) (store : Store) where
  abbrev Makes : (old new : ServiceValue F R) → (was now : List (CallerSession E)) → List Step → Type 0
  Makes old new was now calls = MakesCalls of_file of_port draws store old new was now calls

  pub makes_none : (s : ServiceValue F R) (sessions : List (CallerSession E)) → Makes s s sessions sessions []
  makes_none s sessions = record {
    added = [];
    events = sym (append-nil (events_at s.gate));
    served = refl;
    counted = λ device on. inl refl;
    drawn = λ session d below. inl refl;
    devices = devices_go_on_none (rpmb_key store.keys.huk) (bench_devices of_file of_port s);
    card = TellsCard-none (rpmb_key store.keys.huk) (of_port s.gate.gate.host.port);
    storage_key = refl;
    spare = refl;
  }

  module _ (old between new : ServiceValue F R) (was middle now : List (CallerSession E)) where
    pub makes_then : (first then : List Step) → length middle ≡ length was → Makes old between was middle first → Makes between new middle now then → Makes old new was now (first ++ then)
    makes_then first then many a b = record {
      added = a.added ++ b.added;
      events = b.events ∙ ap (λ events. events ++ b.added) a.events ∙ append_assoc (events_at old.gate) a.added b.added;
      served = steps_served-append a.added b.added ∙ ap (λ steps. steps ++ steps_served b.added) a.served ∙ ap (λ steps. first ++ steps) b.served;
      counted = λ device on.
          subst (Rise (faults_at of_file of_port draws old device) (faults_at of_file of_port draws new device)) (sym (counts_of-append device a.added b.added))
          (Rise-append _ _ _ (counts_of device a.added) (counts_of device b.added) (a.counted device on) (b.counted device on));
      drawn = λ session d below.
          subst (Rise (draws (get_or was session d).entropy) (draws (get_or now session d).entropy)) (sym (draws_of-append session a.added b.added))
          (Rise-append _ _ _ (draws_of session a.added) (draws_of session b.added) (a.drawn session d below) (b.drawn session d (subst (λ n. session < n) (sym many) below)));
      devices = devices_go_on_then (rpmb_key store.keys.huk) (bench_devices of_file of_port old) (bench_devices of_file of_port between) (bench_devices of_file of_port new) a.devices b.devices;
      card = TellsCard-append (rpmb_key store.keys.huk) (of_port old.gate.gate.host.port) (of_port between.gate.gate.host.port) a.added b.added a.devices.card (a.counted Card tt) a.card b.card;
      storage_key = b.storage_key ∙ a.storage_key;
      spare = b.spare ∙ a.spare;
    }

    -- one more of these calls
    pub makes_more : (calls : List Step) (index : ℕ) (step : Step) → index < length calls → step ≡ get_or calls index step → length middle ≡ length was
        → Makes old between was middle (take index calls) → Makes between new middle now (step ∷ []) → Makes old new was now (take (index + 1) calls)
    makes_more calls index step below is many a b =
        subst (Makes old new was now) (ap (λ s. take index calls ++ s ∷ []) is ∙ sym (take_more calls index step below))
        (makes_then (take index calls) (step ∷ []) many a b)

    -- memory ran out in the next of them
    pub makes_front : (calls : List Step) (index : ℕ) → index < length calls → length middle ≡ length was
        → Makes old between was middle (take index calls) → Makes between new middle now [] → MakesFront of_file of_port draws store old new was now calls
    makes_front calls index below many a b =
        (index, below, subst (Makes old new was now) (append-nil (take index calls)) (makes_then (take index calls) [] many a b))

  -- where the store had no event before, its counts are those of its history
  module _ (old new : ServiceValue F R) (was now : List (CallerSession E)) (calls : List Step) (made : Makes old new was now calls) (none : events_at old.gate ≡ []) where
    pub all_added : events_at new.gate ≡ made.added
    all_added = made.events ∙ ap (λ (events : List Event). events ++ made.added) none

    pub counted_in_all : (device : Device) → IsOnBench device → Rise (faults_at of_file of_port draws old device) (faults_at of_file of_port draws new device) (counts_of device (events_at new.gate))
    counted_in_all device on =
        subst (λ events. Rise (faults_at of_file of_port draws old device) (faults_at of_file of_port draws new device) (counts_of device events)) (sym all_added) (made.counted device on)

    pub drawn_in_all : (session : ℕ) (d : CallerSession E) → session < length was
        → Rise (draws (get_or was session d).entropy) (draws (get_or now session d).entropy) (draws_of session (events_at new.gate))
    drawn_in_all session d below =
        subst (λ events. Rise (draws (get_or was session d).entropy) (draws (get_or now session d).entropy) (draws_of session events)) (sym all_added) (made.drawn session d below)

    pub card_in_all : TellsCard (rpmb_key store.keys.huk) (of_port old.gate.gate.host.port) (events_at new.gate)
    card_in_all = subst (TellsCard (rpmb_key store.keys.huk) (of_port old.gate.gate.host.port)) (sym all_added) made.card

    pub serves_made : (mode : Mode) → ServesSteps mode calls (events_at new.gate)
    serves_made mode = events_in_order_serve mode calls (events_at new.gate) (ap steps_served all_added ∙ made.served)
