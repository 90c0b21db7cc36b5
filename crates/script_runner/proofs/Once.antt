-- One act of a run.
use Rattle.std.proofs.Common.{◌≡◌, ◌≢◌, ◌<◌, ◌+◌, ℕ, List, [], ◌∷◌, ◌++◌, refl, sym, ap, ◌∙◌, subst, arith, All, Option, drop, length, vec_len, append-nil}
use Rattle.disk_model.specs.State.{FileState}
use Rattle.hmac_keys.specs.declared.Keys.{Keys}
use Rattle.tee_types.specs.Limits.{file_count}
use Rattle.rpmb_card.specs.Port.{PortState}
use Rattle.run_acts.specs.declared.MountFault.{MountFault}
use Rattle.script_text.specs.declared.script.Control.{Control}
use Rattle.script_text.specs.declared.script.Control.TheVariants.{Arm as ArmControl, Crash, Flip, List as ListControl, Mode as ModeControl, Phase, Quota as QuotaControl, Restore, Save}
use Rattle.script_text.specs.declared.script.Mode.{Mode}
use Rattle.script_text.specs.declared.script.Step.{Step}
use Rattle.script_text.specs.declared.script.Step.TheVariants.{Control as ControlStep}
use Rattle.script_text.specs.Laws.{IsArm}
use Rattle.script_text.specs.Script.{ScriptValue}
use Rattle.script_text.specs.Text.{control_line, events_text, phase_line}
use Rattle.run_acts.specs.Lines.{objects_text}
use Rattle.store_model.specs.Object.{ObjectMap}
use Rattle.script_runner.proofs.Steps.{place-lt}
use Rattle.run_acts.specs.Benches.{BenchState, bench_state, IsWhole}
use Rattle.script_runner.specs.Sending.{Sends, Stops}
use Rattle.script_runner.specs.declared.status.Status.{Status}
use Rattle.script_runner.specs.declared.status.Status.TheVariants.{NoMemory}
use Rattle.script_runner.specs.declared.run_state.Run.{Run}
use Rattle.script_runner.specs.declared.run_state.RunEnd.{RunEnd}
use Rattle.script_runner.specs.RefusedLines.{refused_lines}
use Rattle.script_runner.specs.Text.{Act, Controlled, Do, Listed, PhaseRecord, Ran, ActOutcome, Serve, acts_of, acts_text, mode_behind, phase_text, Refused}
use Rattle.script_runner.specs.Trace.{applications_of}
use Rattle.script_runner.specs.Course.{Does, StopsAt}
use Rattle.script_runner.specs.Points.{phases_in, point_of, standing_of}
use Rattle.script_runner.specs.RunReady.{IsNext, IsReady}
use Rattle.script_runner.specs.Running.{EndsAt, EndsFrom, GoesOn}
use Rattle.script_runner.specs.Prints.{IsCutOff, IsSent, PrintsExcess, PrintsRefusal}
use Rattle.run_acts.specs.Crashes.{CrashesInPart}
use Rattle.run_acts.specs.PhaseOutcomes.{OverCommits}
use Rattle.script_runner.proofs.Endings.{EndsFrom-crashed, EndsFrom-exceeded, EndsFrom-no_memory, EndsFrom-refused, EndsFrom-text}
use Rattle.script_runner.specs.Records.{RunRecord}
use Rattle.script_runner.specs.SavedFiles.{with_bench}

-- the text of a control that is no list
pub control_text : (script : ScriptValue) (number : ℕ) (control : Control) → control ≢ ListControl → acts_text script number (Do control ∷ []) (Controlled ∷ []) ≡ control_line control
control_text script number (ModeControl mode) h = append-nil _
control_text script number Phase h = append-nil _
control_text script number (ArmControl arm) h = append-nil _
control_text script number (Crash seed) h = append-nil _
control_text script number (Save mark) h = append-nil _
control_text script number (QuotaControl app objects bytes) h = append-nil _
control_text script number (Restore file mark) h = append-nil _
control_text script number (Flip file at mask) h = append-nil _
control_text script number ListControl h = absurd (h refl)

-- the text of a list
pub list_text : (script : ScriptValue) (number : ℕ) (objects : ObjectMap) (lines : List ℕ) → lines ≡ objects_text objects → acts_text script number (Do ListControl ∷ []) (Listed objects ∷ []) ≡ control_line ListControl ++ lines
list_text script number objects lines e = append-nil (control_line ListControl ++ objects_text objects) ∙ ap (λ t. control_line ListControl ++ t) (sym e)

-- the text of a phase
pub phase_text_is : (script : ScriptValue) (number : ℕ) (mode : Mode) (objects : ℕ) (calls : List Step) (phase : PhaseRecord) → length phase.opening ≡ objects
    → acts_text script number (Serve mode calls ∷ []) (Ran phase ∷ []) ≡ phase_line number mode objects ++ events_text script 0 phase.events ++ refused_lines script calls phase.refused
phase_text_is script number mode objects calls phase e =
    append-nil (phase_text script number mode calls phase) ∙ ap (λ n. phase_line number mode n ++ events_text script 0 phase.events ++ refused_lines script calls phase.refused) e

module _ {F R : Type 0} (of_file : F → FileState) (of_port : R → PortState) (image : FileState → ℕ → ℕ → List ℕ) (Reliable : Type 0) (keys : Keys) (script : ScriptValue) where
  -- What an act did to a run, but for its text: `behind` is the run with the bench, the arms, the mode and the place as they are then.
  pub record HasDone (act : Act) (outcome : ActOutcome) (run behind : Run F R) : Type 0 where
    pub acts : acts_of run.mode (drop run.at script.steps) ≡ act ∷ acts_of behind.mode (drop behind.at script.steps)
    pub does : Does of_file of_port image Reliable keys (applications_of script) act outcome (standing_of of_file of_port run) (standing_of of_file of_port behind)
    pub number_is : behind.number ≡ run.number + phases_in (act ∷ [])
    pub kept_is : behind.kept.items ≡ run.kept.items
    pub ready : IsReady script behind
    pub further : run.at < behind.at

  -- a control was done: the place is the next one, and the bench, the arms and the mode are as the control says
  pub HasDone-control : (control : Control) (outcome : ActOutcome) (run behind : Run F R) → IsReady script run → IsNext script run (ControlStep control)
      → Does of_file of_port image Reliable keys (applications_of script) (Do control) outcome (standing_of of_file of_port run) (standing_of of_file of_port behind)
      → All IsArm behind.arms.items → vec_len behind.bench.files ≡ file_count
      → behind.number ≡ run.number → behind.mode ≡ mode_behind run.mode control → behind.kept.items ≡ run.kept.items → behind.at ≡ run.at + 1 → HasDone (Do control) outcome run behind
  HasDone-control control outcome run behind ready next does arms whole number mode kept at =
      let inside = place-lt script.steps (drop (run.at + 1) script.steps) run.at (ControlStep control) next in record {
        acts = ap (acts_of run.mode) next ∙ ap (λ (m : Mode). Do control ∷ acts_of m (drop (run.at + 1) script.steps)) (sym mode)
            ∙ ap (λ n. Do control ∷ acts_of behind.mode (drop n script.steps)) (sym at);
        does = does;
        number_is = omega (arith, number);
        kept_is = kept;
        ready = record { within = omega (arith, at, inside); phases = omega (arith, at, number, ready.phases); arms = arms; whole = whole };
        further = omega (arith, at);
      }

  IsReady-sent : (held_old held_new : Option (List ℕ)) (text : List ℕ) (run next : Run F R) → IsSent held_old held_new text run next → IsReady script run → IsReady script next
  IsReady-sent held_old held_new text run next s r = record {
    within = omega (arith, s.at, r.within);
    phases = omega (arith, s.at, s.number, r.phases);
    arms = rw s.arms r.arms;
    whole = rw s.bench r.whole;
  }

  abbrev pub recorded : Act → ActOutcome → (run behind : Run F R) → RunRecord
  recorded act outcome run behind = record { act = act; outcome = outcome; before = standing_of of_file of_port run; behind = standing_of of_file of_port behind }

  pub GoesOn-act : (held_old held_new : Option (List ℕ)) (act : Act) (outcome : ActOutcome) (run behind next : Run F R) → HasDone act outcome run behind → IsSent held_old held_new (acts_text script run.number (act ∷ []) (outcome ∷ [])) behind next → GoesOn of_file of_port image Reliable keys script held_old held_new run next
  GoesOn-act held_old held_new act outcome run behind next d s = record {
    advances = record {
      records = recorded act outcome run next ∷ [];
      acts = rw (s.at, s.mode) d.acts;
      goes = (refl, rw (s.bench, s.saved, s.quotas, s.arms) d.does, refl);
      number_is = s.number ∙ d.number_is;
      sent = subst (λ k. Sends held_old held_new k next.kept.items (acts_text script run.number (act ∷ []) (outcome ∷ []))) d.kept_is s.sends;
    };
    ready = IsReady-sent held_old held_new _ behind next s d.ready;
    further = omega (arith, s.at, d.further);
  }

module _ {F R : Type 0} (of_file : F → FileState) (of_port : R → PortState) (image : FileState → ℕ → ℕ → List ℕ) (Reliable : Type 0) (drew draws : ℕ) (keys : Keys) (script : ScriptValue) where
  pub EndsAt-act : (failed : Type 0) (held_old held_new : Option (List ℕ)) (act : Act) (outcome : ActOutcome) (run behind : Run F R) (end : RunEnd F R) → HasDone of_file of_port image Reliable keys script act outcome run behind → IsCutOff failed held_old held_new (acts_text script run.number (act ∷ []) (outcome ∷ [])) behind end → EndsAt of_file of_port image Reliable drew draws keys script failed held_old held_new run end
  EndsAt-act failed held_old held_new act outcome run behind end d s = record {
    ends = rw s.bench
        (EndsFrom-text of_file of_port image Reliable drew draws keys script failed (point_of of_file of_port script held_old run) held_new (standing_of of_file of_port behind)
        (recorded of_file of_port image Reliable keys script act outcome run behind ∷ []) (acts_of behind.mode (drop behind.at script.steps)) end.status
        d.acts (refl, d.does, refl) (subst (λ k. Stops held_old held_new k (acts_text script run.number (act ∷ []) (outcome ∷ []))) d.kept_is s.stops) s.error);
    whole = rw s.bench d.ready.whole;
  }

  -- what the run stops at, on that bench
  abbrev pub StopsOn : (run : Run F R) (given : BenchState) → Act → ActOutcome → Type 0
  StopsOn run given act outcome =
      StopsAt of_file of_port image Reliable keys (applications_of script) drew draws act outcome (standing_of of_file of_port run) (with_bench (standing_of of_file of_port run) given)

  pub EndsAt-refused : (failed : Type 0) (held_old held_new : Option (List ℕ)) (run : Run F R) (end : RunEnd F R) (fault : MountFault) (act : Act) (left : List Act) → acts_of run.mode (drop run.at script.steps) ≡ act ∷ left
      → StopsOn run (bench_state of_file of_port end.bench) act (Refused fault) → PrintsRefusal failed held_old held_new run.kept.items fault end.status → vec_len end.bench.files ≡ file_count → EndsAt of_file of_port image Reliable drew draws keys script failed held_old held_new run end
  EndsAt-refused failed held_old held_new run end fault act left next h t whole = record {
    ends = EndsFrom-refused of_file of_port image Reliable drew draws keys script (point_of of_file of_port script held_old run) (bench_state of_file of_port end.bench) act left next failed held_new fault h end.status t;
    whole = whole;
  }

  -- there is no memory, and nothing was done
  pub EndsAt-no_memory : (failed : Type 0) (held : Option (List ℕ)) (run : Run F R) (end : RunEnd F R) → end.status ≡ NoMemory → bench_state of_file of_port end.bench ≡ bench_state of_file of_port run.bench → vec_len end.bench.files ≡ file_count
      → EndsAt of_file of_port image Reliable drew draws keys script failed held held run end
  EndsAt-no_memory failed held run end is same whole =
      let here = point_of of_file of_port script held run in
      record {
        ends = subst (λ (b : BenchState). EndsFrom of_file of_port image Reliable drew draws keys script failed here held b end.status) (sym same)
            (subst (λ (s : Status). EndsFrom of_file of_port image Reliable drew draws keys script failed here held (bench_state of_file of_port run.bench) s) (sym is)
            (EndsFrom-no_memory of_file of_port image Reliable drew draws keys script failed here));
        whole = whole;
      }

  -- there is no memory for all of a crash
  pub EndsAt-crashed : (failed : Type 0) (held : Option (List ℕ)) (run : Run F R) (end : RunEnd F R) (seed : ℕ) → IsNext script run (ControlStep (Crash seed)) → end.status ≡ NoMemory
      → CrashesInPart image seed (bench_state of_file of_port run.bench) (bench_state of_file of_port end.bench) → vec_len end.bench.files ≡ file_count → EndsAt of_file of_port image Reliable drew draws keys script failed held held run end
  EndsAt-crashed failed held run end seed next is crashes whole = record {
    ends = rw is
        (EndsFrom-crashed of_file of_port image Reliable drew draws keys script (point_of of_file of_port script held run) (bench_state of_file of_port end.bench) (Do (Crash seed))
        (acts_of run.mode (drop (run.at + 1) script.steps)) (ap (acts_of run.mode) next) failed (seed, refl, (crashes, refl)));
    whole = whole;
  }

  -- the quotas of the next phase are over-committed
  pub EndsAt-exceeded : (failed : Type 0) (held_old held_new : Option (List ℕ)) (run : Run F R) (end : RunEnd F R) (mode : Mode) (calls : List Step) (left : List Act) (sum : ℕ)
      → acts_of run.mode (drop run.at script.steps) ≡ Serve mode calls ∷ left
      → OverCommits of_file of_port keys (applications_of script) run.quotas.items (bench_state of_file of_port run.bench) (bench_state of_file of_port end.bench) sum
      → IsWhole (bench_state of_file of_port end.bench) → PrintsExcess failed held_old held_new run.kept.items sum end.status → vec_len end.bench.files ≡ file_count
      → EndsAt of_file of_port image Reliable drew draws keys script failed held_old held_new run end
  EndsAt-exceeded failed held_old held_new run end mode calls left sum next over past prints whole = record {
    ends = EndsFrom-exceeded of_file of_port image Reliable drew draws keys script failed (point_of of_file of_port script held_old run) held_new (bench_state of_file of_port end.bench) sum mode calls left
        next over past end.status prints;
    whole = whole;
  }
