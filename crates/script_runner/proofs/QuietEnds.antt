-- A run over quiet devices is done, or wants memory.
use Rattle.std.proofs.Common.{ℕ, ◌≡◌, ◌⊎◌, ◌∙◌, List, [], ◌∷◌, ◌++◌, None, Option, Some, inl, inr, refl, sym, ap, subst}
use Rattle.disk_model.specs.Faults.{Rose}
use Rattle.disk_model.specs.State.{FileState}
use Rattle.hmac_keys.specs.declared.Keys.{Keys}
use Rattle.rpmb_card.specs.Port.{PortState}
use Rattle.script_text.specs.declared.script.Control.TheVariants.{Arm as ArmControl}
use Rattle.tee_types.specs.declared.reply.Cause.{Cause}
use Rattle.run_acts.specs.declared.MountFault.{MountFault}
use Rattle.run_acts.specs.declared.MountFault.TheVariants.{Failed, Spent}
use Rattle.run_acts.specs.ListedBenches.{IsListRefused}
use Rattle.run_acts.specs.MountingLaws.{IsOfDevice}
use Rattle.run_acts.specs.PhaseRefusals.{IsGivenUp}
use Rattle.run_acts.specs.QuotaRefusals.{admitted}
use Rattle.run_acts.proofs.HeldOpenings.{opens_same}
use Rattle.run_acts.proofs.QuietPhases.{openings_stay_quiet}
use Rattle.run_acts.proofs.QuietRefusals.{quiet_list_refusal, quiet_phase_refusal}
use Rattle.script_runner.specs.declared.status.Status.TheVariants.{DeviceFault, Done, MountRefused, NoMemory, OverCommitted}
use Rattle.script_runner.specs.Course.{StopsAt}
use Rattle.script_runner.specs.QuietLaws.{ArmNothing}
use Rattle.script_runner.specs.Records.{RunRecord, acts_in, outcomes_in}
use Rattle.script_runner.specs.RunCauses.{World}
use Rattle.script_runner.specs.RunLaws.{QuietRunsEnd}
use Rattle.script_runner.specs.RunRefusals.{IsDeviceFault}
use Rattle.script_runner.specs.Text.{Act, ActOutcome, CutShort, Do, Exceeded, Refused, Serve, run_stop, stop_of}
use Rattle.script_runner.specs.Trace.{applications_of}
use Rattle.script_runner.specs.SavedFiles.{Standing, begins_with}
use Rattle.script_runner.proofs.Ended.{HowEnded, how_ended, no_start, ran, shut, undone}
use Rattle.script_runner.proofs.OpenedBenches.{same_untainted}
use Rattle.script_runner.proofs.QuietRuns.{QuietAt, quiet_acts}
use Rattle.script_runner.proofs.RunLaws.{by_devices-stop, not_both, runs_find_left}
use Rattle.script_runner.proofs.Walks.{Parted, Stopped, acts_in-append, goes-no_stop, goes-through, outcomes_in-append, part}

-- the first of acts that arm nothing arm nothing
arm_nothing-front : (done left : List Act) → ArmNothing (done ++ left) → ArmNothing done
arm_nothing-front [] left none = tt
arm_nothing-front (Do (ArmControl arm) ∷ done) left none = none
arm_nothing-front (act ∷ done) left none = arm_nothing-front done left none

-- a device fault that is of a device is a failure
failed_device : (P : Type 0) (fault : MountFault) → IsDeviceFault fault → IsOfDevice fault → ((cause : Cause) → fault ≡ Failed cause → P) → P
failed_device P (Failed cause) is device by = by cause refl
failed_device P Spent is device by = absurd device
failed_device P fault is device by = absurd is

-- without a fault before the first act the run stopped where its acts did
same_stop : (start : Option MountFault) (outcomes : List ActOutcome) (stop : Option ActOutcome) → start ≡ None → run_stop start outcomes ≡ stop → stop_of outcomes ≡ stop
same_stop None outcomes stop none is = is
same_stop (Some fault) outcomes stop none is = absurd (no_start (Some fault) fault none refl)

module _ {F R : Type 0} (of_file : F → FileState) (of_port : R → PortState) (image : FileState → ℕ → ℕ → List ℕ) (Reliable : Type 0) (drew draws : ℕ) (keys : Keys) (undrawn : Rose drew draws → ⊥) (apps : List (List ℕ)) (reliable : Reliable) where
  abbrev Quiet' : Standing → Type 0
  Quiet' there = QuietAt of_file of_port image Reliable keys apps reliable there

  -- no act of a quiet bench is refused for a failure
  quiet_stop : (act : Act) (outcome : ActOutcome) (old new : Standing) (cause : Cause) → Quiet' old → StopsAt of_file of_port image Reliable keys apps drew draws act outcome old new → stop_of (outcome ∷ []) ≡ Some (Refused (Failed cause)) → ⊥
  quiet_stop (Serve mode calls) (Refused fault) old new cause q stops is =
      let e : ◌≡◌ {A = Option ActOutcome} (Some (Refused fault)) (Some (Refused (Failed cause))) = is in
      let same : fault ≡ Failed cause = cc in
      quiet_phase_refusal keys old.bench new.bench drew draws q.quiet undrawn q.files of_file of_port apps old.arms mode (admitted (stops.0).refused calls) cause
      (subst (λ (f : MountFault). IsGivenUp of_file of_port keys apps old.arms mode (admitted (stops.0).refused calls) old.bench new.bench drew draws f) same (stops.0).holds)
  quiet_stop (Do control) (Refused fault) old new cause q stops is =
      let e : ◌≡◌ {A = Option ActOutcome} (Some (Refused fault)) (Some (Refused (Failed cause))) = is in
      let same : fault ≡ Failed cause = cc in
      quiet_list_refusal keys old.bench new.bench drew draws q.quiet undrawn q.files of_file of_port cause (subst (λ (f : MountFault). IsListRefused of_file of_port keys old.bench new.bench drew draws f) same (stops.1).0)
  quiet_stop act (Exceeded sum) old new cause q stops is = let no : ◌≡◌ {A = Option ActOutcome} (Some (Exceeded sum)) (Some (Refused (Failed cause))) = is in cc
  quiet_stop act CutShort old new cause q stops is = let no : ◌≡◌ {A = Option ActOutcome} (Some CutShort) (Some (Refused (Failed cause))) = is in cc
  quiet_stop act outcome old new cause q stops is = absurd stops

  -- so no run stops at one
  none_failed : (records : List RunRecord) (old last : Standing) (p : Parted of_file of_port image Reliable keys apps drew draws records old last)
      → ((records ≡ p.done) × (last ≡ p.mid)) ⊎ Stopped of_file of_port image Reliable keys apps drew draws records p.done p.mid last → Quiet' old → ArmNothing (acts_in records)
      → (cause : Cause) → stop_of (outcomes_in records) ≡ Some (Refused (Failed cause)) → ⊥
  none_failed records old last p (inl x) q none cause is =
      let no : ◌≡◌ {A = Option ActOutcome} None (Some (Refused (Failed cause))) =
      sym (goes-through of_file of_port image Reliable keys apps p.done old p.mid p.goes) ∙ ap (λ l. stop_of (outcomes_in l)) (sym x.0) ∙ is in cc
  none_failed records old last p (inr x) q none cause is =
      let r = x.r in
      let all : ArmNothing (acts_in p.done ++ r.act ∷ []) = subst ArmNothing (ap acts_in x.is ∙ acts_in-append p.done (r ∷ [])) none in
      let found = quiet_acts of_file of_port image Reliable keys apps reliable [] p.done old p.mid p.goes (arm_nothing-front (acts_in p.done) (r.act ∷ []) all) q in
      let stop : stop_of (r.outcome ∷ []) ≡ Some (Refused (Failed cause)) =
      sym (goes-no_stop of_file of_port image Reliable keys apps p.done old p.mid p.goes (r.outcome ∷ [])) ∙ ap stop_of (sym (outcomes_in-append p.done (r ∷ []))) ∙ ap (λ l. stop_of (outcomes_in l)) (sym x.is) ∙ is in
      quiet_stop r.act r.outcome r.before r.behind cause (subst Quiet' (sym x.there) found.1) x.stops stop

pub quiet_runs_end : {F R : Type 0} (of_file : F → FileState) (of_port : R → PortState) (image : FileState → ℕ → ℕ → List ℕ) (Reliable : Type 0) (w : World) → QuietRunsEnd of_file of_port image Reliable w
quiet_runs_end of_file of_port image Reliable w left_old left_new held_old held_new drew draws keys handed given Done s script r held is opened quiet reliable undrawn unarmed unaltered runs within = tt
quiet_runs_end of_file of_port image Reliable w left_old left_new held_old held_new drew draws keys handed given NoMemory s script r held is opened quiet reliable undrawn unarmed unaltered runs within = tt
quiet_runs_end of_file of_port image Reliable w left_old left_new held_old held_new drew draws keys handed given (MountRefused fault) s script r held is opened quiet reliable undrawn unarmed unaltered runs within =
    let found = runs_find_left of_file of_port image Reliable w left_old left_new held_old held_new drew draws keys handed given (MountRefused fault) s script r (inl held) is unaltered in
    let ends = ((r.1).cause).1.2 in
    let stop = same_stop (r.0).start (outcomes_in (r.0).records) (Some (Refused fault)) opened ends.1 in
    not_both fault (by_devices-stop (outcomes_in (r.0).records) fault found.refused stop) ends.2
quiet_runs_end of_file of_port image Reliable w left_old left_new held_old held_new drew draws keys handed given (DeviceFault fault) s script r held is opened quiet reliable undrawn unarmed unaltered runs within =
    let found = runs_find_left of_file of_port image Reliable w left_old left_new held_old held_new drew draws keys handed given (DeviceFault fault) s script r (inl held) is unaltered in
    let ends = ((r.1).cause).1.2 in
    let stop = same_stop (r.0).start (outcomes_in (r.0).records) (Some (Refused fault)) opened ends.1 in
    failed_device ⊥ fault ends.2 (by_devices-stop (outcomes_in (r.0).records) fault found.refused stop)
    (λ cause same. one cause (subst (λ (f : MountFault). stop_of (outcomes_in (r.0).records) ≡ Some (Refused f)) same stop) (how_ended of_file of_port image Reliable drew draws keys r.0 handed given script is r.2))
  where
    apps : List (List ℕ)
    apps = applications_of script

    one : (cause : Cause) → stop_of (outcomes_in (r.0).records) ≡ Some (Refused (Failed cause)) → HowEnded of_file of_port image Reliable drew draws keys r.0 handed given script is → ⊥
    one cause stop (undone same start none) =
        let no : ◌≡◌ {A = Option ActOutcome} None (Some (Refused (Failed cause))) = ap (λ (l : List RunRecord). stop_of (outcomes_in l)) (sym none) ∙ stop in cc
    one cause stop (shut why start none refused) = no_start (r.0).start why opened start
    one cause stop (ran start between opens left front goes) =
        let card = held.card in
        let there = same_untainted keys s handed between (opens_same keys s handed card.0 held.holds card.1 between opens) held in
        let p = part of_file of_port image Reliable keys apps drew draws (r.0).records (begins_with between) goes.last goes.acts in
        none_failed of_file of_port image Reliable drew draws keys undrawn apps reliable (r.0).records (begins_with between) goes.last p p.end
        (record { unarmed = refl; files = there.files; quiet = openings_stay_quiet keys handed between opens quiet })
        (arm_nothing-front (acts_in (r.0).records) left (subst ArmNothing front unarmed)) cause stop
quiet_runs_end of_file of_port image Reliable w left_old left_new held_old held_new drew draws keys handed given (OverCommitted sum) s script r held is opened quiet reliable undrawn unarmed unaltered runs within = absurd (within sum refl)
quiet_runs_end of_file of_port image Reliable w left_old left_new held_old held_new drew draws keys handed given status s script r held is opened quiet reliable undrawn unarmed unaltered runs within = absurd runs
