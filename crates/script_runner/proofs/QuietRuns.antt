-- Over quiet devices each phase is the machine's.
use Rattle.std.proofs.Common.{◌≡◌, ℕ, List, [], ◌∷◌, ◌++◌, None, Option, Some, refl, sym, subst}
use Rattle.disk_model.specs.State.{FileState}
use Rattle.hmac_keys.specs.declared.Keys.{Keys}
use Rattle.rpmb_card.specs.Port.{PortState}
use Rattle.script_text.specs.declared.script.Arm.{Arm}
use Rattle.script_text.specs.declared.script.Control.TheVariants.{Arm as ArmControl, Crash, Flip, Mode as ModeControl, Phase, Quota as QuotaControl, Restore, Save}
use Rattle.run_acts.specs.Alterations.{file_number}
use Rattle.run_acts.specs.Benches.{BenchState}
use Rattle.run_acts.specs.Lines.{objects_text}
use Rattle.run_acts.specs.Phases.{RunsPhase}
use Rattle.run_acts.specs.Quiet.{IsPhaseOfMachine, IsQuiet}
use Rattle.run_acts.specs.Untainted.{AreUntainted, ArmNoMask}
use Rattle.run_acts.proofs.CrashedLaws.{crashes_may_be}
use Rattle.run_acts.proofs.QuietPhases.{left_quiet, openings_stay_quiet, quiet_crash, quiet_flipped, quiet_list, quiet_of_machine, quiet_restored}
use Rattle.run_acts.proofs.Untainted.{crashes_stay_untainted, flips_stay_untainted, lists_stay_untainted, openings_stay_untainted, phases_stay_untainted, restores_stay_untainted, untainted_files_are_honest}
use Rattle.script_runner.specs.Course.{Does, Goes}
use Rattle.script_runner.specs.QuietLaws.{ArmNothing, IsOfMachine, OpenedRunsAreOfMachine, QuietRunsAreOfMachine}
use Rattle.script_runner.specs.Records.{EachAct, IfPhase, OfPhase, RunRecord, acts_in}
use Rattle.script_runner.specs.Text.{Act, ActOutcome, Controlled, Do, Listed, Ran, Serve}
use Rattle.script_runner.specs.SavedFiles.{PutsBack, Standing, begins_with}

-- acts that arm nothing, one behind the other
arm_nothing-parts : (act : Act) (acts : List Act) → ArmNothing (act ∷ acts) → ArmNothing (act ∷ []) × ArmNothing acts
arm_nothing-parts (Do (ArmControl arm)) acts none = absurd none
arm_nothing-parts act acts none = (tt, none)

put_back_quiet : (keys : Keys) (file : ℕ) (kept : Option (List ℕ)) (old new : BenchState) → PutsBack file kept old new → IsQuiet keys old → AreUntainted old.files → IsQuiet keys new × AreUntainted new.files
put_back_quiet keys file None old new same quiet files = (subst (IsQuiet keys) (sym same) quiet, subst (λ (b : BenchState). AreUntainted b.files) (sym same) files)
put_back_quiet keys file (Some bytes) old new a quiet files = (quiet_restored keys file bytes old new a quiet, restores_stay_untainted file bytes old new a files)

module _ {F R : Type 0} (of_file : F → FileState) (of_port : R → PortState) (image : FileState → ℕ → ℕ → List ℕ) (Reliable : Type 0) (keys : Keys) (apps : List (List ℕ)) (reliable : Reliable) where
  abbrev Machine : Act → ActOutcome → (old new : Standing) → Type 0
  Machine act outcome old new = IfPhase (IsOfMachine of_file of_port image Reliable keys apps) act outcome old new

  -- nothing is armed, no file is tainted, and the devices are quiet
  pub record QuietAt (there : Standing) : Type 0 where
    pub unarmed : there.arms ≡ []
    pub files : AreUntainted (there.bench).files
    pub quiet : IsQuiet keys there.bench

  -- so on another bench
  quiet_on : (old new : Standing) → new.arms ≡ old.arms → QuietAt old → AreUntainted (new.bench).files → IsQuiet keys new.bench → QuietAt new
  quiet_on old new same q files quiet = record { unarmed = subst (λ (a : List Arm). a ≡ []) (sym same) q.unarmed; files = files; quiet = quiet }

  quiet_act : (act : Act) (outcome : ActOutcome) (old new : Standing) → ArmNothing (act ∷ []) → Does of_file of_port image Reliable keys apps act outcome old new → QuietAt old → Machine act outcome old new × QuietAt new
  quiet_act (Serve mode calls) (Ran phase) old new none does q =
      let Runs = λ (arms : List Arm). RunsPhase of_file of_port Reliable keys apps old.quotas arms mode calls old.bench new.bench phase.opening phase.events phase.refused in
      let unmasked : ArmNoMask old.arms = subst ArmNoMask (sym q.unarmed) tt in
      let files = phases_stay_untainted of_file of_port Reliable keys apps old.quotas old.arms mode calls old.bench new.bench phase.opening phase.events phase.refused does.0 unmasked q.files in
      let honest = untainted_files_are_honest (new.bench).files files in
      let machine = subst (λ (arms : List Arm). (runs : Runs arms) → IsPhaseOfMachine of_file of_port Reliable keys apps old.quotas arms mode calls old.bench new.bench phase.opening phase.events phase.refused runs) (sym q.unarmed)
      (λ runs. quiet_of_machine of_file of_port Reliable keys apps old.quotas mode calls old.bench new.bench phase.opening phase.events phase.refused runs q.quiet reliable honest) in
      let later : IsQuiet keys new.bench = subst (λ (arms : List Arm). Runs arms → IsQuiet keys new.bench) (sym q.unarmed)
      (λ runs. left_quiet of_file of_port Reliable keys apps old.quotas mode calls old.bench new.bench phase.opening phase.events phase.refused runs q.quiet) does.0 in (
        record { runs = does.0; is = machine does.0 },
        record { unarmed = subst (λ (there : Standing). there.arms ≡ []) (sym does.1) refl; files = files; quiet = later },
      )
  quiet_act (Do control) (Listed objects) old new none does q = (
    tt,
    quiet_on old new (subst (λ (there : Standing). there.arms ≡ old.arms) (sym (does.1).1) refl) q
        (lists_stay_untainted of_file of_port keys old.bench new.bench objects (objects_text objects) (does.1).0 q.files)
        (quiet_list of_file of_port keys old.bench new.bench objects (objects_text objects) (does.1).0 q.quiet),
  )
  quiet_act (Do (ModeControl mode)) Controlled old new none does q = (tt, subst QuietAt (sym does) q)
  quiet_act (Do Phase) Controlled old new none does q = (tt, subst QuietAt (sym does) q)
  quiet_act (Do (ArmControl arm)) Controlled old new none does q = absurd none
  quiet_act (Do (Save mark)) Controlled old new none does q = (tt, subst QuietAt (sym does) (record { unarmed = q.unarmed; files = q.files; quiet = q.quiet }))
  quiet_act (Do (QuotaControl app objects bytes)) Controlled old new none does q = (tt, subst QuietAt (sym does) (record { unarmed = q.unarmed; files = q.files; quiet = q.quiet }))
  quiet_act (Do (Crash seed)) Controlled old new none does q = (
    tt,
    quiet_on old new (subst (λ (there : Standing). there.arms ≡ old.arms) (sym does.1) refl) q
        (crashes_stay_untainted old.bench new.bench q.files (crashes_may_be image seed old.bench new.bench does.0)) (quiet_crash image seed keys old.bench new.bench does.0 q.quiet),
  )
  quiet_act (Do (Restore file mark)) Controlled old new none does q =
      let found = put_back_quiet keys (file_number file) (old.saved mark (file_number file)) old.bench new.bench does.0 q.quiet q.files in
      (tt, quiet_on old new (subst (λ (there : Standing). there.arms ≡ old.arms) (sym does.1) refl) q found.1 found.0)
  quiet_act (Do (Flip file at mask)) Controlled old new none does q = (
    tt,
    quiet_on old new (subst (λ (there : Standing). there.arms ≡ old.arms) (sym does.1) refl) q
        (flips_stay_untainted (file_number file) at mask old.bench new.bench does.0 q.files) (quiet_flipped keys (file_number file) at mask old.bench new.bench does.0 q.quiet),
  )
  quiet_act act outcome old new none does q = absurd does

  pub quiet_acts : (done records : List RunRecord) (old new : Standing) → Goes of_file of_port image Reliable keys apps records old new → ArmNothing (acts_in records) → QuietAt old
      → EachAct (λ before r. OfPhase (IsOfMachine of_file of_port image Reliable keys apps) r) done records × QuietAt new
  quiet_acts done [] old new goes none q = (tt, subst QuietAt (sym goes) q)
  quiet_acts done (r ∷ records) old new goes none q =
      let parts = arm_nothing-parts r.act (acts_in records) none in
      let one = quiet_act r.act r.outcome r.before r.behind parts.0 goes.1 (subst QuietAt (sym goes.0) q) in
      let rest = quiet_acts (done ++ r ∷ []) records r.behind new goes.2 parts.1 one.1 in
      ((one.0, rest.0), rest.1)

pub quiet_runs_are_of_machine : {F R : Type 0} (of_file : F → FileState) (of_port : R → PortState) (image : FileState → ℕ → ℕ → List ℕ) (Reliable : Type 0) (keys : Keys) (apps : List (List ℕ))
    → QuietRunsAreOfMachine of_file of_port image Reliable keys apps
quiet_runs_are_of_machine of_file of_port image Reliable keys apps records old new goes files unarmed none quiet reliable =
    let found = quiet_acts of_file of_port image Reliable keys apps reliable [] records old new goes none (record { unarmed = unarmed; files = files; quiet = quiet }) in
    (found.0, (found.1).quiet)

pub opened_runs_are_of_machine : {F R : Type 0} (of_file : F → FileState) (of_port : R → PortState) (image : FileState → ℕ → ℕ → List ℕ) (Reliable : Type 0) (keys : Keys) (apps : List (List ℕ))
    → OpenedRunsAreOfMachine of_file of_port image Reliable keys apps
opened_runs_are_of_machine of_file of_port image Reliable keys apps records first old new opens files quiet goes none reliable =
    quiet_runs_are_of_machine of_file of_port image Reliable keys apps records (begins_with old) new goes (openings_stay_untainted keys first old opens files) refl none
    (openings_stay_quiet keys first old opens quiet) reliable
