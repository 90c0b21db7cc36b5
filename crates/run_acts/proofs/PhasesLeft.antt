-- What a phase leaves of its bench.
use Rattle.std.proofs.Common.{◌≡◌, ◌∙◌, ℕ, List, IsTrue, None, Option, Some, inl, sym, ap, subst}
use Rattle.disk_model.specs.State.{FileState, LeftNow}
use Rattle.hmac_keys.specs.declared.Keys.{Keys}
use Rattle.hmac_keys.specs.KeyTable.{rpmb_key}
use Rattle.tee_types.specs.Limits.{directory_file}
use Rattle.rpmb_card.specs.Card.{CardState}
use Rattle.rpmb_card.specs.Port.{PortState}
use Rattle.rpmb_host.specs.Honest.{HasCard}
use Rattle.script_text.specs.declared.script.Arm.{Arm}
use Rattle.script_text.specs.declared.script.Mode.{Mode}
use Rattle.script_text.specs.declared.script.Step.{Step}
use Rattle.app_quota.specs.declared.quotas.Quota.{Quota}
use Rattle.store_model.specs.declared.event.Event.{Event}
use Rattle.store_model.specs.Machine.{opened_store}
use Rattle.store_model.specs.Object.{ObjectMap}
use Rattle.store_model.specs.ReplayState.{ReplayState, opening as opening_of}
use Rattle.crash_core.specs.OldFormats.{old_file}
use Rattle.crash_core.specs.Pictures.{IsPictureOf, Picture}
use Rattle.core_laws.specs.Stores.{Store, phase_of}
use Rattle.object_calls.specs.Opening.{OpeningValue}
use Rattle.object_calls.specs.FinishedPhase.{AreAllHonest, IsMapLeft, IsMapWith, end_replay}
use Rattle.run_acts.specs.Benches.{BenchState}
use Rattle.run_acts.specs.Phases.{RunsPhase}
use Rattle.run_acts.specs.declared.refused_call.RefusedCall.{RefusedCall}
use Rattle.run_acts.specs.DeviceLaws.{CountersAreOfCards, PhasesLeave}
use Rattle.run_acts.specs.Left.{HoldsLeft, replay_left}
use Rattle.run_acts.proofs.CrashedLaws.{card_of}
use Rattle.run_acts.proofs.Ready.{ready-applications}
use Rattle.run_acts.proofs.Replays.{AreAlike, left_alike, replay_alike}

-- a map that is left with a commit in doubt, or without one, is left
left_of : (keys : Keys) (picture : Picture) (s : ReplayState) (doubt : Option ℕ) → IsMapWith keys picture s doubt → IsMapLeft keys picture s
left_of keys picture s None is = inl is
left_of keys picture s (Some commit) is = is

module _ {F R : Type 0} (of_file : F → FileState) (of_port : R → PortState) (Reliable : Type 0) (keys : Keys) (applications : List (List ℕ)) (quotas : List Quota) (arms : List Arm) (mode : Mode) (calls : List Step) (old new : BenchState)
    (opening : ObjectMap) (events : List Event) (refused : List RefusedCall) (r : RunsPhase of_file of_port Reliable keys applications quotas arms mode calls old new opening events refused) where
  open r use {closed, disarms}

  abbrev s : Store
  s = (r.serves).store

  -- the store's objects and applications are the phase's
  pub objects_are : s.objects ≡ opening
  objects_are = (r.serves).opens ∙ sym r.objects

  pub applications_are : (s.mounted).applications ≡ applications
  applications_are = ap (λ (x : Store). (x.mounted).applications) ((r.serves).is_store).is
      ∙ ready-applications of_file of_port applications arms r.opened (r.serves).armed (r.serves).ready

  alike : AreAlike (end_replay s ((r.serves).closes).view) (replay_left opening applications events)
  alike =
      let start : AreAlike (opening_of (phase_of s)) (opening_of (record { objects = opening; files = λ name. None; applications = applications; counter = 0 })) = record {
        state = ap (λ (m : ObjectMap). opened_store m (s.mounted).applications) objects_are ∙ ap (opened_store opening) applications_are;
        doubt = tt;
      } in
      subst (λ (es : List Event). AreAlike (end_replay s ((r.serves).closes).view) (replay_left opening applications es)) (sym ((r.serves).closes).events_are)
      (replay_alike (opening_of (phase_of s)) (opening_of (record { objects = opening; files = λ name. None; applications = applications; counter = 0 })) (((r.serves).closes).view).all start)

  -- the counter from which its history is legal is that of the card
  pub counter_is : (card : CardState) → HasCard old.card (rpmb_key keys.huk) card → s.counter ≡ card.counter
  counter_is card has =
      let gate = (r.mounts).gate in
      let here : HasCard (of_port ((r.opened).gate).host.port) ((r.opened).gate).host.key card = record { told = (gate.devices).card ∙ has.told; keyed = has.keyed ∙ ap Some (sym gate.key_is) } in
      ap (λ (x : Store). x.counter) ((r.serves).is_store).is
      ∙ ap (λ (o : OpeningValue F R). (o.gate).counter) ((r.serves).ready).others
      ∙ sym ((gate.settled).named card here).counted

  module _ (honest : AreAllHonest new.files) where
    pub closed_honest : AreAllHonest closed.files
    closed_honest file = subst (λ (x : FileState). IsTrue x.honest) (disarms.files file) (honest file)

    closed_card : (card : CardState) → HasCard new.card (rpmb_key keys.huk) card → HasCard closed.card (rpmb_key (s.keys).huk) card
    closed_card card has =
        subst (λ (k : Keys). HasCard closed.card (rpmb_key k.huk) card) (sym (r.serves).keys_are)
        (card_of closed.card new.card (rpmb_key keys.huk) card (ap (λ (p : PortState). p.card) (disarms.card).others) has)

    closed_picture : (card : CardState) (picture : Picture) → IsPictureOf new.files card picture → IsPictureOf closed.files card picture
    closed_picture card picture is = record {
      left = λ file. subst (λ (x : FileState). LeftNow x (picture.images file)) (disarms.files file) (is.left file);
      same = is.same;
    }

    pub holds : HoldsLeft keys new (replay_left opening applications events)
    holds = record {
      honest = honest;
      mounts = λ card picture has is.
          left_alike keys picture (end_replay s ((r.serves).closes).view) (replay_left opening applications events) alike
          (subst (λ (k : Keys). IsMapLeft k picture (end_replay s ((r.serves).closes).view)) (r.serves).keys_are
          (left_of (s.keys) picture (end_replay s ((r.serves).closes).view) ((r.serves).closes).doubt
          (((((r.serves).closes).leaves).honest closed_honest).mounts card picture (closed_card card has) (closed_picture card picture is))));
      current = λ card picture has is.
          subst (λ (k : Keys). old_file k picture ≡ None) (r.serves).keys_are
          ((((r.serves).closes).leaves).current (closed_honest directory_file) card picture (closed_card card has) (closed_picture card picture is));
    }

pub phases_leave : {F R : Type 0} (of_file : F → FileState) (of_port : R → PortState) (Reliable : Type 0) → PhasesLeave of_file of_port Reliable
phases_leave of_file of_port Reliable keys applications quotas arms mode calls old new opening events refused r honest = holds of_file of_port Reliable keys applications quotas arms mode calls old new opening events refused r honest

pub counters_are_of_cards : {F R : Type 0} (of_file : F → FileState) (of_port : R → PortState) (Reliable : Type 0) → CountersAreOfCards of_file of_port Reliable
counters_are_of_cards of_file of_port Reliable keys applications quotas arms mode calls old new opening events refused card r has =
    counter_is of_file of_port Reliable keys applications quotas arms mode calls old new opening events refused r card has
