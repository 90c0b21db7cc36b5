-- What quotas promise of each phase of a run.
use Rattle.std.proofs.Common.{◌≢◌, ◌∙◌, ℕ, List, [], sym}
use Rattle.disk_model.specs.State.{FileState, Sound}
use Rattle.rpmb_card.specs.Port.{PortState}
use Rattle.core_laws.specs.Stores.{phase_of}
use Rattle.run_acts.proofs.PhasesLeft.{closed_honest}
use Rattle.run_acts.proofs.QuotaLaws.{honest_quota_phases_isolate}
use Rattle.script_runner.specs.RunCauses.{World}
use Rattle.script_runner.specs.Trace.{applications_of}
use Rattle.trusted_storage.specs.Laws.{PhasesKeepQuotas}
use Rattle.trusted_storage.specs.Quotas.{KeepsQuotas}
use Rattle.trusted_storage.proofs.Legal.{applications_are}
use Rattle.trusted_storage.proofs.Phases.{each_of_run}

pub phases_keep : {F R : Type 0} (of_file : F → FileState) (all_sound : (f : F) → Sound (of_file f)) (of_port : R → PortState) (image : FileState → ℕ → ℕ → List ℕ) (Reliable : Type 0) (w : World)
    → PhasesKeepQuotas of_file of_port image Reliable w
phases_keep of_file all_sound of_port image Reliable w c script is files none =
    each_of_run of_file of_port image Reliable w (Unit {0}) (λ before behind quotas mode calls phase. quotas ≢ [] → KeepsQuotas applications quotas calls phase) c script
    (λ quotas arms mode calls old new phase r honest some.
    let s = r.serves in
    let isolated = honest_quota_phases_isolate of_file all_sound of_port Reliable c.keys applications quotas arms mode calls old new phase.opening phase.events phase.refused r some (honest tt) in
    record {
      opens = phase_of s.store;
      objects_are = s.opens ∙ sym r.objects;
      applications_are = applications_are of_file of_port Reliable c.keys applications quotas arms mode calls old new phase.opening phase.events phase.refused r;
      records = ((s.closes).view).all;
      events_are = (s.closes).events_are;
      legal = ((s.closes).leaves.honest (closed_honest of_file of_port Reliable c.keys applications quotas arms mode calls old new phase.opening phase.events phase.refused r (honest tt))).events_legal;
      within = isolated.within;
      refused = isolated.refused_rightly;
      isolated = isolated.alone;
    }) is (λ trusted. (files, none))
  where
    applications : List (List ℕ)
    applications = applications_of script
