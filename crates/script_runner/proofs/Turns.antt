-- One act of a run, and what its text leaves.
use Rattle.std.proofs.Common.{◌≡◌, ◌≤◌, ◌+◌, ℕ, List, [], ◌∷◌, ◌++◌, refl, sym, ap, ◌∙◌, subst, arith, All, Option, drop, take, length, vec_len, Result, IfErr, IfOk}
use Rattle.std.specs.List.{prefix_len}
use Rattle.std.proofs.lemmas.List.{length-append, length-take-le, take-append-drop, drop-drop}
use Rattle.std.proofs.lemmas.List.Elements.{All-drop, All-nil, All-push}
use Rattle.std.proofs.lemmas.Result.{IfErr-weaker, IfOk-weaker}
use Rattle.disk_model.specs.State.{FileState}
use Rattle.hmac_keys.specs.declared.Keys.{Keys}
use Rattle.tee_types.specs.Limits.{file_count}
use Rattle.rpmb_card.specs.Port.{PortState}
use Rattle.app_quota.specs.declared.quotas.Quota.{Quota}
use Rattle.script_text.specs.declared.script.Arm.{Arm}
use Rattle.script_text.specs.declared.script.Control.TheVariants.{Arm as ArmControl, Crash, Flip, List as ListControl, Mode as ModeControl, Phase, Quota as QuotaControl, Restore, Save}
use Rattle.script_text.specs.declared.script.Mode.{Mode}
use Rattle.script_text.specs.declared.script.Step.{Step}
use Rattle.script_text.specs.declared.script.Step.TheVariants.{Control as ControlStep}
use Rattle.script_text.specs.Laws.{IsArm, IsFormed}
use Rattle.script_text.specs.Script.{ScriptValue, is_call}
use Rattle.store_model.specs.Object.{ObjectMap}
use Rattle.tee_types.specs.declared.reply.Device.{Device}
use Rattle.run_acts.specs.Alterations.{FlipsFile, file_number}
use Rattle.run_acts.specs.Benches.{bench_state}
use Rattle.run_acts.specs.Crashes.{Crashes}
use Rattle.run_acts.specs.ListedBenches.{IsListRefused, ListsBench}
use Rattle.run_acts.specs.PhaseOutcomes.{OverCommits}
use Rattle.run_acts.specs.Phases.{RunsPhase}
use Rattle.run_acts.specs.QuotaRefusals.{HoldsOfAdmitted}
use Rattle.run_acts.proofs.PhaseChains.{files_none}
use Rattle.script_runner.specs.declared.run_state.Run.{Run}
use Rattle.script_runner.specs.declared.run_state.RunEnd.{RunEnd}
use Rattle.script_runner.specs.Text.{Act, Controlled, Do, Listed, PhaseRecord, Ran, ActOutcome, Serve, acts_of, acts_text, mode_behind}
use Rattle.script_runner.specs.Trace.{applications_of}
use Rattle.run_acts.specs.declared.MountFault.{MountFault}
use Rattle.run_acts.specs.PhaseRefusals.{IsGivenUp}
use Rattle.script_text.specs.declared.script.Control.{Control}
use Rattle.script_runner.specs.Course.{Does}
use Rattle.script_runner.specs.Points.{standing_of}
use Rattle.script_runner.specs.SavedFiles.{PutsBack, quota_for, reads_saved, saved_of, with_bench, with_saved}
use Rattle.script_runner.specs.RunReady.{IsCallFirst, IsNext, IsReady, IsSound}
use Rattle.script_runner.specs.Running.{EndsAt, GoesOn}
use Rattle.script_runner.specs.Prints.{IsCutOff, IsSent, PrintsExcess, PrintsRefusal}
use Rattle.script_runner.proofs.Steps.{acts_of-calls, prefix_len-some}
use Rattle.script_runner.proofs.Once.{EndsAt-act, EndsAt-exceeded, EndsAt-refused, GoesOn-act, HasDone, HasDone-control}

-- the calls of the next phase
abbrev pub next_calls : {F R : Type 0} → ScriptValue → Run F R → List Step
next_calls script run = take (prefix_len is_call (drop run.at script.steps)) (drop run.at script.steps)

-- what holds of what a phase was given, holds of what the run has
pub as_given : {F R : Type 0} (script : ScriptValue) (run : Run F R) (P : List (List ℕ) → List Quota → List Arm → List Step → Type 0) (apps : List (List ℕ)) (quotas : List Quota) (arms : List Arm) (steps : List Step)
    → apps ≡ applications_of script → quotas ≡ run.quotas.items → arms ≡ run.arms.items → steps ≡ next_calls script run → P apps quotas arms steps
    → P (applications_of script) run.quotas.items run.arms.items (next_calls script run)
as_given script run P apps quotas arms steps same_apps same_quotas same_arms same_steps holds =
    subst (λ (s : List Step). P (applications_of script) run.quotas.items run.arms.items s) same_steps
    (subst (λ (a : List Arm). P (applications_of script) run.quotas.items a steps) same_arms
    (subst (λ (q : List Quota). P (applications_of script) q arms steps) same_quotas
    (subst (λ (l : List (List ℕ)). P l quotas arms steps) same_apps holds)))

-- what the next step carries is formed
pub formed-next : (steps rest : List Step) (at : ℕ) (step : Step) → All IsFormed steps → drop at steps ≡ step ∷ rest → IsFormed step
formed-next steps rest at step all e = subst (All IsFormed) e (All-drop IsFormed at steps all) 0 step (omega arith)

module _ {F R : Type 0} (of_file : F → FileState) (of_port : R → PortState) (image : FileState → ℕ → ℕ → List ℕ) (Reliable : Type 0) (keys : Keys) (script : ScriptValue) where
  -- a run at the next place
  abbrev pub next_place : Run F R → Run F R
  next_place run = record run { at = run.at + 1 }

  -- another bench, and all else the same
  standing_with : (run other : Run F R) → other ≡ record run { bench = other.bench }
      → standing_of of_file of_port other ≡ with_bench (standing_of of_file of_port run) (bench_state of_file of_port other.bench)
  standing_with run other same =
      (λ i. record { bench = bench_state of_file of_port other.bench; saved = saved_of (same i).saved; quotas = (same i).quotas.items; arms = (same i).arms.items })

  pub HasDone-mode : (mode : Mode) (run : Run F R) → IsReady script run → IsNext script run (ControlStep (ModeControl mode))
      → HasDone of_file of_port image Reliable keys script (Do (ModeControl mode)) Controlled run (next_place (record run { mode = mode }))
  HasDone-mode mode run ready next =
      HasDone-control of_file of_port image Reliable keys script (ModeControl mode) Controlled run (next_place (record run { mode = mode })) ready next refl ready.arms ready.whole refl refl refl refl

  pub HasDone-phase : (run : Run F R) → IsReady script run → IsNext script run (ControlStep Phase) → HasDone of_file of_port image Reliable keys script (Do Phase) Controlled run (next_place run)
  HasDone-phase run ready next = HasDone-control of_file of_port image Reliable keys script Phase Controlled run (next_place run) ready next refl ready.arms ready.whole refl refl refl refl

  -- a control behind which the run has the same bench, mode and number
  HasDone-kept : (control : Control) (run kept : Run F R) → IsReady script run → IsNext script run (ControlStep control)
      → Does of_file of_port image Reliable keys (applications_of script) (Do control) Controlled (standing_of of_file of_port run) (standing_of of_file of_port (next_place kept))
      → All IsArm kept.arms.items → vec_len kept.bench.files ≡ file_count → kept.number ≡ run.number → kept.mode ≡ run.mode → mode_behind run.mode control ≡ run.mode → kept.kept.items ≡ run.kept.items → kept.at ≡ run.at
      → HasDone of_file of_port image Reliable keys script (Do control) Controlled run (next_place kept)
  HasDone-kept control run kept ready next does arms whole number mode no_mode text at =
      HasDone-control of_file of_port image Reliable keys script control Controlled run (next_place kept) ready next does arms whole number (mode ∙ sym no_mode) text (ap (λ n. n + 1) at)

  pub HasDone-arm : (arm : Arm) (run waits : Run F R) → IsSound script → IsReady script run → IsNext script run (ControlStep (ArmControl arm)) → waits ≡ record run { arms = waits.arms } → waits.arms.items ≡ run.arms.items ++ arm ∷ [] → HasDone of_file of_port image Reliable keys script (Do (ArmControl arm)) Controlled run (next_place waits)
  HasDone-arm arm run waits sound ready next same arms =
      let of_arm : IsArm arm = formed-next script.steps (drop (run.at + 1) script.steps) run.at (ControlStep (ArmControl arm)) sound.formed next in
      HasDone-kept (ArmControl arm) run waits ready next
      (λ i. record { bench = bench_state of_file of_port (same i).bench; saved = saved_of (same i).saved; quotas = (same i).quotas.items; arms = arms i })
      (subst (All IsArm) (sym arms) (All-push IsArm run.arms.items arm ready.arms of_arm))
      (ap (λ (r : Run F R). vec_len r.bench.files) same ∙ ready.whole) (ap (λ (r : Run F R). r.number) same) (ap (λ (r : Run F R). r.mode) same) refl (ap (λ (r : Run F R). r.kept.items) same) (ap (λ (r : Run F R). r.at) same)

  -- a control that changes the bench alone
  HasDone-bench : (control : Control) (run altered : Run F R) → IsReady script run → IsNext script run (ControlStep control) → altered ≡ record run { bench = altered.bench } → vec_len altered.bench.files ≡ file_count
      → Does of_file of_port image Reliable keys (applications_of script) (Do control) Controlled (standing_of of_file of_port run) (standing_of of_file of_port altered)
      → mode_behind run.mode control ≡ run.mode
      → HasDone of_file of_port image Reliable keys script (Do control) Controlled run (next_place altered)
  HasDone-bench control run altered ready next same whole does no_mode =
      HasDone-kept control run altered ready next does (subst (All IsArm) (sym (ap (λ (r : Run F R). r.arms.items) same)) ready.arms)
      whole (ap (λ (r : Run F R). r.number) same) (ap (λ (r : Run F R). r.mode) same) no_mode (ap (λ (r : Run F R). r.kept.items) same) (ap (λ (r : Run F R). r.at) same)

  pub HasDone-crash : (seed : ℕ) (run crashed : Run F R) → IsReady script run → IsNext script run (ControlStep (Crash seed)) → crashed ≡ record run { bench = crashed.bench } → vec_len crashed.bench.files ≡ file_count
      → Crashes image seed (bench_state of_file of_port run.bench) (bench_state of_file of_port crashed.bench) → HasDone of_file of_port image Reliable keys script (Do (Crash seed)) Controlled run (next_place crashed)
  HasDone-crash seed run crashed ready next same whole crashes = HasDone-bench (Crash seed) run crashed ready next same whole (crashes, standing_with run crashed same) refl

  pub HasDone-save : (mark : List ℕ) (run saved : Run F R) → IsReady script run → IsNext script run (ControlStep (Save mark))
      → saved ≡ record run { saved = saved.saved } → saved_of saved.saved ≡ with_saved (saved_of run.saved) mark (reads_saved (bench_state of_file of_port run.bench).files)
      → HasDone of_file of_port image Reliable keys script (Do (Save mark)) Controlled run (next_place saved)
  HasDone-save mark run saved ready next same kept =
      HasDone-kept (Save mark) run saved ready next
      (λ i. record { bench = bench_state of_file of_port (same i).bench; saved = kept i; quotas = (same i).quotas.items; arms = (same i).arms.items })
      (subst (All IsArm) (sym (ap (λ (r : Run F R). r.arms.items) same)) ready.arms)
      (ap (λ (r : Run F R). vec_len r.bench.files) same ∙ ready.whole) (ap (λ (r : Run F R). r.number) same) (ap (λ (r : Run F R). r.mode) same) refl (ap (λ (r : Run F R). r.kept.items) same) (ap (λ (r : Run F R). r.at) same)

  pub HasDone-quota : (app : List ℕ) (objects bytes : ℕ) (run set : Run F R) → IsReady script run → IsNext script run (ControlStep (QuotaControl app objects bytes))
      → set ≡ record run { quotas = set.quotas } → set.quotas.items ≡ run.quotas.items ++ quota_for app objects bytes ∷ []
      → HasDone of_file of_port image Reliable keys script (Do (QuotaControl app objects bytes)) Controlled run (next_place set)
  HasDone-quota app objects bytes run set ready next same quotas =
      HasDone-kept (QuotaControl app objects bytes) run set ready next
      (λ i. record { bench = bench_state of_file of_port (same i).bench; saved = saved_of (same i).saved; quotas = quotas i; arms = (same i).arms.items })
      (subst (All IsArm) (sym (ap (λ (r : Run F R). r.arms.items) same)) ready.arms)
      (ap (λ (r : Run F R). vec_len r.bench.files) same ∙ ready.whole) (ap (λ (r : Run F R). r.number) same) (ap (λ (r : Run F R). r.mode) same) refl (ap (λ (r : Run F R). r.kept.items) same) (ap (λ (r : Run F R). r.at) same)

  pub HasDone-restore : (file : Device) (mark : List ℕ) (run altered : Run F R) → IsReady script run → IsNext script run (ControlStep (Restore file mark)) → altered ≡ record run { bench = altered.bench } → vec_len altered.bench.files ≡ file_count
      → PutsBack (file_number file) (saved_of run.saved mark (file_number file)) (bench_state of_file of_port run.bench) (bench_state of_file of_port altered.bench)
      → HasDone of_file of_port image Reliable keys script (Do (Restore file mark)) Controlled run (next_place altered)
  HasDone-restore file mark run altered ready next same whole puts = HasDone-bench (Restore file mark) run altered ready next same whole (puts, standing_with run altered same) refl

  pub HasDone-flip : (file : Device) (at : ℕ) (mask : List ℕ) (run altered : Run F R) → IsReady script run → IsNext script run (ControlStep (Flip file at mask)) → altered ≡ record run { bench = altered.bench } → vec_len altered.bench.files ≡ file_count
      → FlipsFile (file_number file) at mask (bench_state of_file of_port run.bench) (bench_state of_file of_port altered.bench)
      → HasDone of_file of_port image Reliable keys script (Do (Flip file at mask)) Controlled run (next_place altered)
  HasDone-flip file at mask run altered ready next same whole flips = HasDone-bench (Flip file at mask) run altered ready next same whole (flips, standing_with run altered same) refl

  pub HasDone-list : (run listed : Run F R) (objects : ObjectMap) (lines : List ℕ) → IsReady script run → IsNext script run (ControlStep ListControl) → listed ≡ record run { bench = listed.bench; at = run.at + 1 } → vec_len listed.bench.files ≡ file_count
      → ListsBench of_file of_port keys (bench_state of_file of_port run.bench) (bench_state of_file of_port listed.bench) objects lines → HasDone of_file of_port image Reliable keys script (Do ListControl) (Listed objects) run listed
  HasDone-list run listed objects lines ready next same whole lists =
      HasDone-control of_file of_port image Reliable keys script ListControl (Listed objects) run listed ready next (
        refl,
        (
          subst (λ t. ListsBench of_file of_port keys (bench_state of_file of_port run.bench) (bench_state of_file of_port listed.bench) objects t) lists.lines_are lists,
          (λ i. record { bench = bench_state of_file of_port listed.bench; saved = saved_of (same i).saved; quotas = (same i).quotas.items; arms = (same i).arms.items }),
        ),
      )
      (subst (All IsArm) (sym (ap (λ (r : Run F R). r.arms.items) same)) ready.arms)
      whole (ap (λ (r : Run F R). r.number) same) (ap (λ (r : Run F R). r.mode) same) (ap (λ (r : Run F R). r.kept.items) same) (ap (λ (r : Run F R). r.at) same)

  -- the steps behind a phase
  abbrev calls_length : Run F R → ℕ
  calls_length run = prefix_len is_call (drop run.at script.steps)

  pub HasDone-calls : (run ran : Run F R) (phase : PhaseRecord) → IsReady script run → IsCallFirst (drop run.at script.steps)
      → RunsPhase of_file of_port Reliable keys (applications_of script) run.quotas.items run.arms.items run.mode (next_calls script run) (bench_state of_file of_port run.bench)
      (bench_state of_file of_port ran.bench) phase.opening phase.events phase.refused
      → ran.arms.items ≡ [] → ran.saved ≡ run.saved → ran.quotas ≡ run.quotas → vec_len ran.bench.files ≡ file_count → ran.number ≡ run.number + 1 → ran.mode ≡ run.mode → ran.kept.items ≡ run.kept.items → ran.at ≡ run.at + calls_length run → calls_length run ≤ length (drop run.at script.steps)
      → HasDone of_file of_port image Reliable keys script (Serve run.mode (next_calls script run)) (Ran phase) run ran
  HasDone-calls run ran phase ready first runs arms saved quotas whole number mode kept at within =
      let count = calls_length run in
      let rest = drop run.at script.steps in
      let some = prefix_len-some rest first in
      let behind : drop ran.at script.steps ≡ drop count rest = ap (λ n. drop n script.steps) at ∙ sym (drop-drop count run.at script.steps) in
      let lengths : length (take run.at script.steps) + length rest ≡ length script.steps = sym (length-append (take run.at script.steps) rest) ∙ ap length (take-append-drop run.at script.steps) in
      let front : length (take run.at script.steps) ≡ run.at = length-take-le run.at script.steps ready.within in record {
        acts = acts_of-calls run.mode rest first ∙ ap (λ (m : Mode). Serve run.mode (take count rest) ∷ acts_of m (drop count rest)) (sym mode)
            ∙ ap (λ s. Serve run.mode (take count rest) ∷ acts_of ran.mode s) (sym behind);
        does = (
          runs,
          (λ i. record { bench = bench_state of_file of_port ran.bench; saved = saved_of (saved i); quotas = (quotas i).items; arms = arms i }),
        );
        number_is = number;
        kept_is = kept;
        ready = record { within = omega (arith, at, within, lengths, front); phases = omega (arith, at, some, number, ready.phases); arms = subst (All IsArm) (sym arms) (All-nil IsArm); whole = whole };
        further = omega (arith, at, some);
      }

  module _ (run behind : Run F R) (r : Result (Run F R) (RunEnd F R)) (held_old held_new : Option (List ℕ)) (act : Act) (outcome : ActOutcome) (text : List ℕ) (done : HasDone of_file of_port image Reliable keys script act outcome run behind)
      (same : acts_text script run.number (act ∷ []) (outcome ∷ []) ≡ text) where
    pub goes-on : IfOk r (IsSent held_old held_new text behind) → IfOk r (GoesOn of_file of_port image Reliable keys script held_old held_new run)
    goes-on = IfOk-weaker r (IsSent held_old held_new text behind) (GoesOn of_file of_port image Reliable keys script held_old held_new run)
        (λ next sent. GoesOn-act of_file of_port image Reliable keys script held_old held_new act outcome run behind next done (subst (λ t. IsSent held_old held_new t behind next) (sym same) sent))

    pub cut-off : (drew draws : ℕ) (failed : Type 0) → IfErr r (IsCutOff failed held_old held_new text behind) → IfErr r (EndsAt of_file of_port image Reliable drew draws keys script failed held_old held_new run)
    cut-off drew draws failed = IfErr-weaker r (IsCutOff failed held_old held_new text behind) (EndsAt of_file of_port image Reliable drew draws keys script failed held_old held_new run)
        (λ end cut. EndsAt-act of_file of_port image Reliable drew draws keys script failed held_old held_new act outcome run behind end done (subst (λ t. IsCutOff failed held_old held_new t behind end) (sym same) cut))

  pub EndsAt-list : (drew draws : ℕ) (failed : Type 0) (held_old held_new : Option (List ℕ)) (run : Run F R) (end : RunEnd F R) (fault : MountFault) → IsNext script run (ControlStep ListControl)
      → IsListRefused of_file of_port keys (bench_state of_file of_port run.bench) (bench_state of_file of_port end.bench) drew draws fault → PrintsRefusal failed held_old held_new run.kept.items fault end.status → vec_len end.bench.files ≡ file_count
      → EndsAt of_file of_port image Reliable drew draws keys script failed held_old held_new run end
  EndsAt-list drew draws failed held_old held_new run end fault next refused prints whole =
      EndsAt-refused of_file of_port image Reliable drew draws keys script failed held_old held_new run end fault
      (Do ListControl) (acts_of run.mode (drop (run.at + 1) script.steps)) (ap (acts_of run.mode) next) (refl, (refused, refl)) prints whole

  pub EndsAt-calls : (drew draws : ℕ) (failed : Type 0) (held_old held_new : Option (List ℕ)) (run : Run F R) (end : RunEnd F R) (fault : MountFault) → IsCallFirst (drop run.at script.steps)
      → HoldsOfAdmitted run.quotas.items (next_calls script run)
      (λ steps. IsGivenUp of_file of_port keys (applications_of script) run.arms.items run.mode steps (bench_state of_file of_port run.bench) (bench_state of_file of_port end.bench) drew draws fault)
      → PrintsRefusal failed held_old held_new run.kept.items fault end.status → vec_len end.bench.files ≡ file_count
      → EndsAt of_file of_port image Reliable drew draws keys script failed held_old held_new run end
  EndsAt-calls drew draws failed held_old held_new run end fault first refused prints whole =
      EndsAt-refused of_file of_port image Reliable drew draws keys script failed held_old held_new run end fault
      (Serve run.mode (next_calls script run)) (acts_of run.mode (drop (calls_length run) (drop run.at script.steps))) (acts_of-calls run.mode (drop run.at script.steps) first) (refused, refl) prints whole

  -- the quotas of the next phase are over-committed
  pub EndsAt-over : (drew draws : ℕ) (failed : Type 0) (held_old held_new : Option (List ℕ)) (run : Run F R) (end : RunEnd F R) (sum : ℕ) → IsCallFirst (drop run.at script.steps)
      → OverCommits of_file of_port keys (applications_of script) run.quotas.items (bench_state of_file of_port run.bench) (bench_state of_file of_port end.bench) sum
      → PrintsExcess failed held_old held_new run.kept.items sum end.status → vec_len end.bench.files ≡ file_count
      → EndsAt of_file of_port image Reliable drew draws keys script failed held_old held_new run end
  EndsAt-over drew draws failed held_old held_new run end sum first over prints whole =
      EndsAt-exceeded of_file of_port image Reliable drew draws keys script failed held_old held_new run end run.mode (next_calls script run)
      (acts_of run.mode (drop (calls_length run) (drop run.at script.steps))) sum (acts_of-calls run.mode (drop run.at script.steps) first) over
      (λ file beyond. files_none of_file end.bench.files.items file (omega (arith, beyond, whole, end.bench.files.ok.0))) prints whole
