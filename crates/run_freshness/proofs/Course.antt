-- Freshness over the course of a run.
use Rattle.std.proofs.Common.{◌≡◌, inl, inr, ℕ, List, [], ◌∷◌, ◌++◌, Option, Some, None, refl, sym, ap, subst, ◌∙◌}
use Rattle.disk_model.specs.State.{FileState, Sound}
use Rattle.hmac_keys.specs.declared.Keys.{Keys}
use Rattle.tee_types.specs.Limits.{directory_file}
use Rattle.rpmb_card.specs.Port.{PortState}
use Rattle.script_text.specs.declared.script.Arm.{Arm}
use Rattle.script_text.specs.declared.script.Mode.{Mode}
use Rattle.script_text.specs.declared.script.Step.{Step}
use Rattle.script_text.specs.declared.script.Control.TheVariants.{Arm as ArmControl, Crash, Flip, Mode as ModeControl, Phase, Quota as QuotaControl, Restore, Save}
use Rattle.store_model.specs.declared.event.Event.{Event}
use Rattle.store_model.specs.Object.{ObjectMap}
use Rattle.object_calls.specs.Opening.{OpeningValue}
use Rattle.run_acts.specs.Benches.{BenchState}
use Rattle.run_acts.specs.ListedBenches.{ListsBench}
use Rattle.run_acts.specs.MountedDevices.{IsMounted}
use Rattle.run_acts.specs.Phases.{RunsPhase}
use Rattle.run_acts.specs.declared.refused_call.RefusedCall.{RefusedCall}
use Rattle.app_quota.specs.declared.quotas.Quota.{Quota}
use Rattle.run_acts.specs.Alterations.{file_number}
use Rattle.script_runner.specs.Course.{AreActs, Does, StopsAt}
use Rattle.script_runner.specs.Records.{EachAct, RunRecord, outcomes_in}
use Rattle.script_runner.specs.SavedFiles.{Standing, awaits_arm, quota_for, saves_files, sets_quota}
use Rattle.script_runner.proofs.CalmFiles.{card_put_back}
use Rattle.script_runner.specs.Text.{Act, ActOutcome, Controlled, CutShort, Do, Exceeded, Listed, Ran, Refused, Serve, stop_of}
use Rattle.script_runner.proofs.Walks.{goes-no_stop}
use Rattle.run_freshness.specs.Course.{CoursesAreFresh, HasItsCard, IsFreshAct, IsFreshSince, IsListedSince, closed_by, closed_in}
use Rattle.run_freshness.proofs.Mounts.{fresh_mount, same_entries}
use Rattle.run_freshness.specs.Taken.{BeginsSince}
use Rattle.run_freshness.proofs.Lists.{fresh_list}
use Rattle.run_freshness.proofs.Taken.{begins_beside}

-- the card goes on
pub card_then : (closed : Option BenchState) (old new : BenchState) → new.card.card ≡ old.card.card → HasItsCard closed old → HasItsCard closed new
card_then None old new same has = tt
card_then (Some closed) old new same has = (same ∙ has.0, has.1)

same_then : (closed : Option BenchState) (old new : Standing) → new ≡ old → HasItsCard closed old.bench → HasItsCard closed new.bench
same_then closed old new same has = subst (λ (s : Standing). HasItsCard closed s.bench) (sym same) has

closed_in-more : (closed : Option BenchState) (done : List RunRecord) (r : RunRecord) → closed_in closed (done ++ r ∷ []) ≡ closed_by (closed_in closed done) r.outcome r.behind
closed_in-more closed [] r = refl
closed_in-more closed (first ∷ done) r = closed_in-more (closed_by closed first.outcome first.behind) done r

module _ {F R : Type 0} (of_file : F → FileState) (of_port : R → PortState) (all_sound : (file : F) → Sound (of_file file)) (keys : Keys) where
  mount_since : (closed : Option BenchState) (old : BenchState) (o : OpeningValue F R) → HasItsCard closed old → IsMounted of_file of_port keys old o → IsFreshSince of_file of_port keys closed (old.files directory_file) o
  mount_since None old o has mounts = tt
  mount_since (Some closed) old o has mounts = λ card there. (
    fresh_mount of_file of_port all_sound keys closed old card o has.1 there has.0 mounts,
    same_entries of_file of_port all_sound keys closed old card o has.1 there has.0 mounts,
  )

  list_since : (closed : Option BenchState) (old new : BenchState) (objects : ObjectMap) (lines : List ℕ) → HasItsCard closed old → (l : ListsBench of_file of_port keys old new objects lines)
      → IsListedSince of_file of_port keys closed (old.files directory_file) l.opened ((l.shows).listed).steps
  list_since None old new objects lines has l = tt
  list_since (Some closed) old new objects lines has l = λ card there. (
    fresh_list of_file of_port all_sound keys old new objects lines l closed card has.1 there has.0,
    same_entries of_file of_port all_sound keys closed old card l.opened has.1 there has.0 l.mounts,
  )

  module _ (image : FileState → ℕ → ℕ → List ℕ) (Reliable : Type 0) (applications : List (List ℕ)) where
    begins_since : (closed : Option BenchState) (quotas : List Quota) (arms : List Arm) (mode : Mode) (calls : List Step) (old new : BenchState) (opening : ObjectMap) (events : List Event) (refused : List RefusedCall) → HasItsCard closed old
        → (p : RunsPhase of_file of_port Reliable keys applications quotas arms mode calls old new opening events refused) → BeginsSince of_file of_port Reliable closed p
    begins_since None quotas arms mode calls old new opening events refused has p = tt
    begins_since (Some closed) quotas arms mode calls old new opening events refused has p =
        begins_beside of_file of_port all_sound Reliable keys applications quotas arms mode calls old new opening events refused p closed has.1 has.0

    -- one act that was done: it is fresh, and the card goes on
    act_fresh : (closed : Option BenchState) (act : Act) (outcome : ActOutcome) (old new : Standing) → HasItsCard closed old.bench → Does of_file of_port image Reliable keys applications act outcome old new
        → IsFreshAct of_file of_port Reliable keys applications closed act outcome old new × HasItsCard (closed_by closed outcome new) new.bench
    act_fresh closed (Serve mode calls) (Ran phase) old new has does = (
      (
        does.0,
        mount_since closed old.bench (does.0).opened has (does.0).mounts,
        begins_since closed old.quotas old.arms mode calls old.bench new.bench phase.opening phase.events phase.refused has does.0,
      ),
      (refl, (does.0).sound_left),
    )
    act_fresh closed (Do control) (Listed objects) old new has does = (
      ((does.1).0, list_since closed old.bench new.bench objects _ has (does.1).0),
      card_then closed old.bench new.bench (((does.1).0).keeps).card has,
    )
    act_fresh closed (Do (ModeControl mode)) Controlled old new has does = (tt, same_then closed old new does has)
    act_fresh closed (Do Phase) Controlled old new has does = (tt, same_then closed old new does has)
    act_fresh closed (Do (ArmControl arm)) Controlled old new has does = (tt, same_then closed (awaits_arm arm old) new does has)
    act_fresh closed (Do (Crash seed)) Controlled old new has does = (tt, card_then closed old.bench new.bench (ap (λ (p : PortState). p.card) (does.0).card) has)
    act_fresh closed (Do (Save mark)) Controlled old new has does = (tt, same_then closed (saves_files mark old) new does has)
    act_fresh closed (Do (QuotaControl app objects bytes)) Controlled old new has does = (tt, same_then closed (sets_quota (quota_for app objects bytes) old) new does has)
    act_fresh closed (Do (Restore file mark)) Controlled old new has does =
        (tt, card_then closed old.bench new.bench (ap (λ (p : PortState). p.card) (card_put_back (file_number file) (old.saved mark (file_number file)) old.bench new.bench does.0)) has)
    act_fresh closed (Do (Flip file at mask)) Controlled old new has does = (tt, card_then closed old.bench new.bench (ap (λ (p : PortState). p.card) (does.0).card) has)
    act_fresh closed act outcome old new has does = absurd does

    module _ (closed : Option BenchState) where
      abbrev Has : List RunRecord → Standing → Type 0
      Has done there = HasItsCard (closed_in closed done) there.bench

      abbrev Fresh : List RunRecord → RunRecord → Type 0
      Fresh done r = Has done r.before × IsFreshAct of_file of_port Reliable keys applications (closed_in closed done) r.act r.outcome r.before r.behind

      module _ (drew draws : ℕ) where
        -- one at which the run stopped shows nothing
        stop_fresh : (there : Option BenchState) (act : Act) (outcome : ActOutcome) (old new : Standing) → StopsAt of_file of_port image Reliable keys applications drew draws act outcome old new
            → IsFreshAct of_file of_port Reliable keys applications there act outcome old new
        stop_fresh there (Serve mode calls) (Ran phase) old new stops = absurd stops
        stop_fresh there (Do control) (Listed objects) old new stops = absurd stops
        stop_fresh there act outcome old new stops = tt

        stop_stops : (act : Act) (outcome : ActOutcome) (old new : Standing) → StopsAt of_file of_port image Reliable keys applications drew draws act outcome old new → stop_of (outcome ∷ []) ≡ None → ⊥
        stop_stops act (Refused fault) old new stops none = let no : ◌≡◌ {A = Option ActOutcome} (Some (Refused fault)) None = none in cc
        stop_stops act (Exceeded sum) old new stops none = let no : ◌≡◌ {A = Option ActOutcome} (Some (Exceeded sum)) None = none in cc
        stop_stops act CutShort old new stops none = let no : ◌≡◌ {A = Option ActOutcome} (Some CutShort) None = none in cc
        stop_stops (Serve mode calls) outcome old new stops none = absurd stops
        stop_stops (Do control) outcome old new stops none = absurd stops

        fresh_acts : (done records : List RunRecord) (old new : Standing) → AreActs of_file of_port image Reliable keys applications drew draws records old new → Has done old
            → EachAct Fresh done records × (stop_of (outcomes_in records) ≡ None → HasItsCard (closed_in (closed_in closed done) records) new.bench)
        fresh_acts done [] old new acts has = (tt, λ through. same_then (closed_in closed done) old new acts has)
        fresh_acts done (r ∷ records) old new acts has =
            let there = closed_in closed done in
            let first : Has done r.before = same_then there old r.before acts.0 has in
            elim acts.1 [
              | inl does ↦
                  let fresh = act_fresh there r.act r.outcome r.before r.behind first does in
                  let behind = sym (closed_in-more closed done r) in
                  let rest = fresh_acts (done ++ r ∷ []) records r.behind new acts.2 (subst (λ (c : Option BenchState). HasItsCard c (r.behind).bench) behind fresh.1) in (
                    ((first, fresh.0), rest.0),
                    λ through. subst (λ (c : Option BenchState). HasItsCard (closed_in c records) new.bench) (sym behind)
                        (rest.1 (sym (goes-no_stop of_file of_port image Reliable keys applications (r ∷ []) r.before r.behind (refl, does, refl) (outcomes_in records)) ∙ through)),
                  )
              | inr stop ↦ (
                ((first, stop_fresh there r.act r.outcome r.before r.behind stop.0), subst (λ (l : List RunRecord). EachAct Fresh (done ++ r ∷ []) l) (sym stop.1) tt),
                λ through. absurd (stop_stops r.act r.outcome r.before r.behind stop.0 (ap (λ (l : List RunRecord). stop_of (r.outcome ∷ outcomes_in l)) (sym stop.1) ∙ through)),
              )
            ]

pub courses_fresh : {F R : Type 0} (of_file : F → FileState) (of_port : R → PortState) (image : FileState → ℕ → ℕ → List ℕ) (Reliable : Type 0) → ((file : F) → Sound (of_file file))
    → CoursesAreFresh of_file of_port image Reliable
courses_fresh of_file of_port image Reliable all_sound keys applications closed drew draws records old new has acts =
    let fresh = fresh_acts of_file of_port all_sound keys image Reliable applications closed drew draws [] records old new acts has in record { each = fresh.0; last = fresh.1 }
