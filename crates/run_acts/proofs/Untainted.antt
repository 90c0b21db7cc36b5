-- Files stay untainted.
use Rattle.std.proofs.Common.{◌≡◌, ◌⊎◌, ◌∙◌, ◌<◌, ◌≤◌, ℕ, List, Bool, IsTrue, inl, inr, refl, sym, ap, subst, arith}
use Rattle.std.proofs.lemmas.Bool.{cases_eq, cases_lt}
use Rattle.disk_model.specs.Bytes.{after_mask}
use Rattle.disk_model.specs.Calls.{GoesOn}
use Rattle.disk_model.specs.Controls.{disarmed, failure_armed, renamed_as, settled_as, stop_armed}
use Rattle.disk_model.specs.State.{FileState, LeftNow, no_file}
use Rattle.hmac_keys.specs.declared.Keys.{Keys}
use Rattle.hmac_keys.specs.KeyTable.{rpmb_key}
use Rattle.tee_types.specs.Limits.{directory_file, file_count}
use Rattle.tee_types.proofs.FileNumbers.{directory_on_bench}
use Rattle.rpmb_card.specs.Port.{PortState}
use Rattle.rpmb_host.specs.Honest.{HasCard}
use Rattle.script_text.specs.declared.script.Arm.{Arm}
use Rattle.script_text.specs.declared.script.Mode.{Mode}
use Rattle.script_text.specs.declared.script.Step.{Step}
use Rattle.app_quota.specs.declared.quotas.Quota.{Quota}
use Rattle.store_model.specs.declared.event.Event.{Event}
use Rattle.store_model.specs.Object.{ObjectMap}
use Rattle.object_calls.specs.Opening.{OpeningValue, bench_files}
use Rattle.run_acts.specs.Alterations.{AltersFile}
use Rattle.run_acts.specs.Benches.{BenchState, opening_state}
use Rattle.run_acts.specs.Between.{AreReadable, TakesImage}
use Rattle.run_acts.specs.DeviceLaws.{NextOpeningsAreLeft, NextPhasesOpenWithLeft}
use Rattle.run_acts.specs.Left.{AreLeft, HoldsLeft, replay_left}
use Rattle.run_acts.specs.MountedDevices.{IsMounted}
use Rattle.run_acts.specs.Opens.{FormsBench, found, made}
use Rattle.run_acts.specs.Phases.{RunsPhase}
use Rattle.run_acts.specs.declared.refused_call.RefusedCall.{RefusedCall}
use Rattle.run_acts.specs.Untainted.{AreUntainted, ArmNoMask, CrashesStayUntainted, FlipsStayUntainted, RestoresStayUntainted, IsUntainted, ListsStayUntainted, OpeningsStayUntainted, PhasesStayUntainted, RefusalsStayHonest, UntaintedFilesAreHonest}
use Rattle.run_acts.proofs.ArmedFiles.{unmasked_keep}
use Rattle.run_acts.proofs.CrashedLaws.{card_of, crashes_keep}
use Rattle.run_acts.proofs.Mounted.{mount_goes_on, mounts_open_with_left}
use Rattle.run_acts.proofs.PhasesLeft.{phases_leave}

-- no call takes a file's honesty then, and it keeps its arms
pub untainted_then : (old new : FileState) → GoesOn old new → IsUntainted old → IsUntainted new
untainted_then old new goes u = record {
  honest = goes.stays_honest u.tells_arms u.none u.honest;
  tells_arms = subst (λ (t : Bool). IsTrue t) (sym goes.tells_arms) u.tells_arms;
  none = (goes.arms u.tells_arms).taints ∙ u.none;
}

untainted_disarmed : (s : FileState) → IsUntainted s → IsUntainted (disarmed s)
untainted_disarmed s u = record { honest = u.honest; tells_arms = u.tells_arms; none = refl }

untainted_renamed : (s : FileState) (image : List ℕ) → IsUntainted s → IsUntainted (renamed_as s image)
untainted_renamed s image u = record { honest = refl; tells_arms = u.tells_arms; none = u.none }

untainted_stop : (s : FileState) (calls : ℕ) → IsUntainted s → IsUntainted (stop_armed s calls)
untainted_stop s calls u = record { honest = u.honest; tells_arms = u.tells_arms; none = u.none }

untainted_failure : (s : FileState) (call : ℕ) → IsUntainted s → IsUntainted (failure_armed s call)
untainted_failure s call u = record { honest = u.honest; tells_arms = u.tells_arms; none = u.none }

pub untainted_files_are_honest : UntaintedFilesAreHonest
untainted_files_are_honest files u file = elim (cases_lt file file_count) [
  | inl within ↦ (u.each file within).honest
  | inr beyond ↦ subst (λ (s : FileState). IsTrue s.honest) (sym (u.past file beyond)) refl
]

crashed_untainted : (old new : FileState) → (new ≡ old) ⊎ TakesImage old new → IsUntainted old → IsUntainted new
crashed_untainted old new (inl same) u = subst IsUntainted (sym same) u
crashed_untainted old new (inr (image, left, is)) u = subst IsUntainted (sym is) (untainted_renamed old image u)

crashed_past : (old new : FileState) → (new ≡ old) ⊎ TakesImage old new → old ≡ no_file → new ≡ no_file
crashed_past old new (inl same) none = same ∙ none
crashed_past old new (inr (image, left, is)) none =
    let there : LeftNow no_file image = subst (λ (s : FileState). LeftNow s image) none left in
    is ∙ ap (λ (s : FileState). renamed_as s image) none ∙ ap (renamed_as no_file) ((there refl).exact (λ p. refl))

pub crashes_stay_untainted : CrashesStayUntainted
crashes_stay_untainted old new u may = record {
  each = λ file within. crashed_untainted (old.files file) (new.files file) (may.files file) (u.each file within);
  past = λ file beyond. crashed_past (old.files file) (new.files file) (may.files file) (u.past file beyond);
}

altered_untainted : (file : ℕ) (altered : FileState) (old new : BenchState) → (IsUntainted (old.files file) → IsUntainted altered) → AltersFile file altered old new → AreUntainted old.files → AreUntainted new.files
altered_untainted file altered old new stays a u = record { each = each; past = past }
  where
    each : (k : ℕ) → k < file_count → IsUntainted (new.files k)
    each k below = elim (cases_eq k file) [
      | inl same ↦ subst (λ (n : ℕ). IsUntainted (new.files n)) (sym same) (subst IsUntainted (sym a.here) (stays (u.each file a.within)))
      | inr other ↦ subst IsUntainted (sym (a.others k other)) (u.each k below)
    ]

    past : (k : ℕ) → file_count ≤ k → new.files k ≡ no_file
    past k beyond = a.others k (λ same. omega (arith, same, a.within, beyond)) ∙ u.past k beyond

pub restores_stay_untainted : RestoresStayUntainted
restores_stay_untainted file bytes old new is u = altered_untainted file (renamed_as (old.files file) bytes) old new (untainted_renamed (old.files file) bytes) is u

pub flips_stay_untainted : FlipsStayUntainted
flips_stay_untainted file at mask old new is u =
    altered_untainted file (settled_as (old.files file) (after_mask (old.files file).reads at mask)) old new
    (λ (f : IsUntainted (old.files file)). record { honest = f.honest; tells_arms = f.tells_arms; none = f.none }) is u

same_untainted : (old new : ℕ → FileState) → ((file : ℕ) → new file ≡ old file) → AreUntainted old → AreUntainted new
same_untainted old new same u = record {
  each = λ file within. subst IsUntainted (sym (same file)) (u.each file within);
  past = λ file beyond. same file ∙ u.past file beyond;
}

formed_untainted : (keys : Keys) (old new : BenchState) → FormsBench keys old new → AreUntainted old.files → AreUntainted new.files
formed_untainted keys old new forms u = record { each = each; past = λ file beyond. forms.others file (λ is. omega (arith, is, beyond, directory_on_bench)) ∙ u.past file beyond }
  where
    each : (file : ℕ) → file < file_count → IsUntainted (new.files file)
    each file within = elim (cases_eq file directory_file) [
      | inl is ↦ subst (λ (n : ℕ). IsUntainted (new.files n)) (sym is) (untainted_then (old.files directory_file) (new.files directory_file) (forms.goes_on).file (u.each directory_file directory_on_bench))
      | inr other ↦ subst IsUntainted (sym (forms.others file other)) (u.each file within)
    ]

pub openings_stay_untainted : OpeningsStayUntainted
openings_stay_untainted keys old new (found block some reads) u = same_untainted old.files new.files reads.files u
openings_stay_untainted keys old new (made block between blank reads forms) u =
    formed_untainted keys between new forms (same_untainted old.files between.files reads.files u)

pub refusals_stay_honest : RefusalsStayHonest
refusals_stay_honest keys old new drew draws fault u m = (untainted_then (old.files directory_file) (new.files directory_file) ((m.leaves).keeps).goes_on (u.each directory_file directory_on_bench)).honest

pub lists_stay_untainted : {F R : Type 0} (of_file : F → FileState) (of_port : R → PortState) → ListsStayUntainted of_file of_port
lists_stay_untainted of_file of_port keys old new objects lines l u = record {
  each = λ file within. untainted_then (old.files file) (new.files file) (((l.keeps).files file).keeps).goes_on (u.each file within);
  past = l.past;
}

-- a bench that is mounted can be followed
pub untainted_readable : {F R : Type 0} (of_file : F → FileState) (of_port : R → PortState) (keys : Keys) (old : BenchState) (o : OpeningValue F R) → IsMounted of_file of_port keys old o → AreUntainted old.files
    → AreReadable old.files (bench_files of_file o)
untainted_readable of_file of_port keys old o m u file = elim (cases_lt file file_count) [
  | inl within ↦ inl (untainted_then (old.files file) (bench_files of_file o file) (mount_goes_on of_file of_port keys old o m file) (u.each file within)).honest
  | inr beyond ↦ inr (subst (λ (s : FileState). IsTrue s.steady) (sym (u.past file beyond)) refl)
]

module _ {F R : Type 0} (of_file : F → FileState) (of_port : R → PortState) (Reliable : Type 0) (keys : Keys) (applications : List (List ℕ)) (quotas : List Quota) (arms : List Arm) (mode : Mode) (calls : List Step) (old new : BenchState)
    (opening : ObjectMap) (events : List Event) (refused : List RefusedCall) (r : RunsPhase of_file of_port Reliable keys applications quotas arms mode calls old new opening events refused) (unmasked : ArmNoMask arms) (u : AreUntainted old.files) where
  open r use {closed, disarms}

  abbrev opened : BenchState
  opened = opening_state of_file of_port r.opened

  abbrev armed : BenchState
  armed = opening_state of_file of_port (r.serves).armed

  left_untainted : (file : ℕ) → file < file_count → IsUntainted (new.files file)
  left_untainted file within =
      let mounted = untainted_then (old.files file) (opened.files file) (((r.keeps).files file).keeps).goes_on (u.each file within) in
      let ready = unmasked_keep IsUntainted untainted_stop untainted_failure arms opened armed unmasked ((r.serves).ready).arms_are file mounted in
      let served = untainted_then (armed.files file) (closed.files file) (((((r.serves).closes).devices).files) file within) ready in
      subst IsUntainted (sym (disarms.files file)) (untainted_disarmed (closed.files file) served)

  pub phase_untainted : AreUntainted new.files
  phase_untainted = record { each = left_untainted; past = r.past }

pub phases_stay_untainted : {F R : Type 0} (of_file : F → FileState) (of_port : R → PortState) (Reliable : Type 0) → PhasesStayUntainted of_file of_port Reliable
phases_stay_untainted of_file of_port Reliable keys applications quotas arms mode calls old new opening events refused r unmasked u =
    phase_untainted of_file of_port Reliable keys applications quotas arms mode calls old new opening events refused r unmasked u

pub next_openings_are_left : {F R : Type 0} (of_file : F → FileState) (of_port : R → PortState) (Reliable : Type 0) → NextOpeningsAreLeft of_file of_port Reliable
next_openings_are_left of_file of_port Reliable keys applications quotas arms mode calls old new opening events refused between o card r unmasked u may sound m has =
    let left = replay_left opening applications events in
    let after = phase_untainted of_file of_port Reliable keys applications quotas arms mode calls old new opening events refused r unmasked u in
    let honest = untainted_files_are_honest new.files after in
    let holds : HoldsLeft keys between left = crashes_keep keys left new between (phases_leave of_file of_port Reliable keys applications quotas arms mode calls old new opening events refused r honest) may in
    let there : HasCard between.card (rpmb_key keys.huk) card =
    card_of between.card new.card (rpmb_key keys.huk) card (ap (λ (p : PortState). p.card) (sym may.card)) has in
    mounts_open_with_left of_file of_port keys left between o card holds sound m (untainted_readable of_file of_port keys between o m (crashes_stay_untainted new between after may)) there

pub next_phases_open_with_left : {F R : Type 0} (of_file : F → FileState) (of_port : R → PortState) (Reliable : Type 0) → NextPhasesOpenWithLeft of_file of_port Reliable
next_phases_open_with_left of_file of_port Reliable keys applications later quotas allowed arms more mode next calls others old new between last opening objects events after refused declined card r unmasked u may second has =
    subst (AreLeft (replay_left opening applications events)) (sym second.objects)
    (next_openings_are_left of_file of_port Reliable keys applications quotas arms mode calls old new opening events refused between second.opened card r unmasked u may second.sound second.mounts has)
