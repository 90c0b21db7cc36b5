-- A soak, from its parts to the whole.
use Rattle.std.proofs.Common.{◌≡◌, ◌⊎◌, ℕ, inl, inr, List, [], ◌∷◌, ◌++◌, length, map, drop, take, refl, sym, ap, ◌∙◌, subst, arith, append-nil, Option, None, Some, zero, suc}
use Rattle.std.specs.List.{prefix_len}
use Rattle.std.proofs.lemmas.List.{take_all}
use Rattle.disk_model.specs.State.{FileState}
use Rattle.hmac_keys.specs.declared.Keys.{Keys}
use Rattle.rpmb_card.specs.Port.{PortState}
use Rattle.run_acts.specs.declared.MountFault.{MountFault}
use Rattle.run_acts.specs.declared.MountFault.TheVariants.{NoMemory as NoMemoryFault}
use Rattle.store_model.specs.Object.{ObjectMap}
use Rattle.script_text.specs.declared.script.Control.TheVariants.{List as ListControl}
use Rattle.script_text.specs.declared.script.Mode.TheVariants.{Threads}
use Rattle.script_text.specs.declared.script.Step.{Step}
use Rattle.script_text.specs.declared.script.Step.TheVariants.{Call as CallStep, Control as ControlStep}
use Rattle.script_text.specs.Script.{ScriptValue, is_call}
use Rattle.tee_types.specs.declared.call.Call.{Call}
use Rattle.run_acts.specs.Lines.{refusal_line, why_text}
use Rattle.run_acts.specs.Benches.{BenchState}
use Rattle.run_acts.specs.ListedBenches.{IsListRefused, ListsBench}
use Rattle.run_acts.specs.Opens.{OpensBench}
use Rattle.run_acts.specs.Phases.{RunsPhase}
use Rattle.run_acts.specs.PhaseRefusals.{IsGivenUp}
use Rattle.run_acts.specs.QuotaRefusals.{HoldsOfAdmitted}
use Rattle.run_acts.proofs.Ready.{runs_where}
use Rattle.script_runner.specs.declared.status.Status.{Status}
use Rattle.script_runner.specs.declared.status.Status.TheVariants.{DeviceFault, Done, MountRefused, NoMemory, WriteFault}
use Rattle.seed_words.specs.Joined.{joined}
use Rattle.seed_words.specs.Scripts.{app_calls, app_steps, soak_calls, soak_script}
use Rattle.script_runner.specs.Trace.{applications_of}
use Rattle.script_runner.specs.RunRefusals.{IsDeviceFault, IsRefusal}
use Rattle.script_runner.specs.Records.{RunRecord, acts_in, outcomes_in}
use Rattle.script_runner.specs.Text.{Act, ActOutcome, Do, Listed, PhaseRecord, Ran, Refused, Serve, stop_of}
use Rattle.script_runner.specs.Ending.{GoesThrough, RunsBench}
use Rattle.script_runner.specs.SavedFiles.{begins_with}
use Rattle.script_runner.specs.Soaks.{IsBroken, IsThrough, PrintsObjects, RunsSoak, soak_acts, soak_applications, soak_output}
use Rattle.script_runner.specs.Prints.{MayStopWriting, MayWant, PrintsLines, PrintsRefusal}
use Rattle.script_runner.proofs.Scripts.{RunsActs-refused}
use Rattle.script_runner.proofs.Walks.{goes-acts, goes-through}

-- the calls of an application are calls
prefix_len-app : (app : ℕ) (calls : List Call) → prefix_len is_call (map (CallStep app) calls) ≡ length (map (CallStep app) calls)
prefix_len-app app [] = refl
prefix_len-app app (call ∷ calls) = omega (arith, prefix_len-app app calls)

prefix_len-append : (a b : List Step) → prefix_len is_call a ≡ length a → prefix_len is_call b ≡ length b → prefix_len is_call (a ++ b) ≡ length (a ++ b)
prefix_len-append [] b first second = second
prefix_len-append (CallStep app call ∷ a) b first second = omega (arith, prefix_len-append a b (omega (arith, first)) second)
prefix_len-append (ControlStep control ∷ a) b first second = absurd (omega (arith, first))

prefix_len-joined : (number apps : ℕ) → prefix_len is_call (joined (app_steps number) apps) ≡ length (joined (app_steps number) apps)
unfolding joined
prefix_len-joined number zero = refl
prefix_len-joined number (suc apps) = prefix_len-append (joined (app_steps number) apps) (app_steps number apps) (prefix_len-joined number apps) (prefix_len-app apps (app_calls number apps))

-- all steps of a soak behind its mode are calls
take-soak_calls : (number : ℕ) → take (prefix_len is_call (soak_calls number)) (soak_calls number) ≡ soak_calls number
take-soak_calls number = ap (λ n. take n (soak_calls number)) (prefix_len-joined number 8) ∙ take_all (length (soak_calls number)) (soak_calls number) (omega arith)

-- a soak has eight applications
pub length-soak_applications : (number : ℕ) → length (soak_applications number) ≡ 8
unfolding joined
length-soak_applications number = refl

-- of want of memory nothing is printed
refusal_line-memory : (fault : MountFault) → fault ≡ NoMemoryFault → [] ≡ refusal_line fault
unfolding refusal_line why_text
refusal_line-memory NoMemoryFault is = refl
refusal_line-memory fault is = ap refusal_line (sym is)

-- a front of nothing is nothing
front_of_none : (put rest : List ℕ) → [] ≡ put ++ rest → put ≡ []
front_of_none [] rest e = refl
front_of_none (b ∷ put) rest e = absurd cc

-- what holds of a script's applications and of the calls behind its first step
pub as_soak : (number : ℕ) (P : List (List ℕ) → List Step → Type 0) (script : ScriptValue) (applications : List (List ℕ)) (calls : List Step)
    → script ≡ soak_script number → applications ≡ applications_of script → calls ≡ take (prefix_len is_call (drop 1 script.steps)) (drop 1 script.steps)
    → P applications calls → P (soak_applications number) (soak_calls number)
as_soak number P script applications calls is apps_are calls_are holds =
    let apps : applications ≡ soak_applications number = apps_are ∙ ap applications_of is in
    let steps : calls ≡ soak_calls number = calls_are ∙ ap (λ (s : ScriptValue). take (prefix_len is_call (drop 1 s.steps)) (drop 1 s.steps)) is ∙ take-soak_calls number in
    subst (P (soak_applications number)) steps (subst (λ (a : List (List ℕ)). P a calls) apps holds)

module _ {F R : Type 0} (of_file : F → FileState) (of_port : R → PortState) (image : FileState → ℕ → ℕ → List ℕ) (Reliable : Type 0) (keys : Keys) (number : ℕ) where
  -- its phase: without quotas, and with nothing armed
  abbrev SoakPhase : (old new : BenchState) → PhaseRecord → Type 0
  SoakPhase old new phase = RunsPhase of_file of_port Reliable keys (soak_applications number) [] [] Threads (soak_calls number) old new phase.opening phase.events phase.refused

  -- a phase of the calls behind the first step of its script
  pub RunsPhase-soak : (Later : Type 0) (script : ScriptValue) (applications : List (List ℕ)) (calls : List Step) (old new : BenchState) (phase : PhaseRecord)
      → script ≡ soak_script number → applications ≡ applications_of script → calls ≡ take (prefix_len is_call (drop 1 script.steps)) (drop 1 script.steps) → (Reliable → Later)
      → RunsPhase of_file of_port Later keys applications [] [] Threads calls old new phase.opening phase.events phase.refused
      → SoakPhase old new phase
  RunsPhase-soak Later script applications calls old new phase is apps_are calls_are lasts runs =
      as_soak number (λ a c. RunsPhase of_file of_port Reliable keys a [] [] Threads c old new phase.opening phase.events phase.refused) script applications calls is apps_are calls_are
      (runs_where of_file of_port Later Reliable keys applications [] [] Threads calls old new phase.opening phase.events phase.refused lasts runs)

  -- what is recorded of the phase, and of the list behind it
  abbrev of_phase : (old between : BenchState) → ActOutcome → RunRecord
  of_phase old between outcome = record { act = Serve Threads (soak_calls number); outcome = outcome; before = begins_with old; behind = begins_with between }

  abbrev of_list : (between new : BenchState) → ActOutcome → RunRecord
  of_list between new outcome = record { act = Do ListControl; outcome = outcome; before = begins_with between; behind = begins_with new }

  -- both acts were done
  pub IsThrough-acts : (old between new : BenchState) (phase : PhaseRecord) (lines : List ℕ) → SoakPhase old between phase → PrintsObjects of_file of_port keys number phase.events between new lines
      → IsThrough of_file of_port image Reliable keys number old new lines
  IsThrough-acts old between new phase lines runs printed = record {
    records = of_phase old between (Ran phase) ∷ of_list between new (Listed printed.objects) ∷ [];
    last = begins_with new;
    goes = (refl, (runs, refl), (refl, (refl, (printed.lists, refl)), refl));
    new_is = refl;
    acts_are = refl;
    lines_are = printed.lines_are;
  }

  module _ (drew draws : ℕ) where
    -- the phase was given up
    pub IsBroken-phase : (old new : BenchState) (fault : MountFault)
        → HoldsOfAdmitted [] (soak_calls number) (λ steps. IsGivenUp of_file of_port keys (soak_applications number) [] Threads steps old new drew draws fault)
        → IsBroken of_file of_port image Reliable keys number drew draws old new fault
    IsBroken-phase old new fault given_up = record {
      records = of_phase old new (Refused fault) ∷ [];
      left = Do ListControl ∷ [];
      front = refl;
      goes = record { last = begins_with new; acts = (refl, inr ((given_up, refl), refl), refl); given_is = refl };
      why = inl (refl, refl);
    }

    -- the list was refused
    IsBroken-list : (old between new : BenchState) (phase : PhaseRecord) (fault : MountFault) → SoakPhase old between phase → IsListRefused of_file of_port keys between new drew draws fault
        → IsBroken of_file of_port image Reliable keys number drew draws old new fault
    IsBroken-list old between new phase fault runs refused = record {
      records = of_phase old between (Ran phase) ∷ of_list between new (Refused fault) ∷ [];
      left = [];
      front = refl;
      goes = record { last = begins_with new; acts = (refl, inl (runs, refl), (refl, inr ((refl, (refused, refl)), refl), refl)); given_is = refl };
      why = inl (refl, refl);
    }

    -- there was no memory for the script, and nothing was done
    pub IsBroken-undone : (old : BenchState) → IsBroken of_file of_port image Reliable keys number drew draws old old NoMemoryFault
    IsBroken-undone old = record {
      records = [];
      left = soak_acts number;
      front = refl;
      goes = record { last = begins_with old; acts = refl; given_is = refl };
      why = inr (refl, refl);
    }

    -- what was printed of the list says that it was refused, or that there was no memory for the lines of all that was done; no draw failed in
    -- the phase
    pub IsBroken-printed : (old between new : BenchState) (phase : PhaseRecord) (fault : MountFault) → SoakPhase old between phase → (mid : ℕ) → mid ≡ drew
        → ((fault ≡ NoMemoryFault) × ((objects : ObjectMap) × (lines : List ℕ) × ListsBench of_file of_port keys between new objects lines)) ⊎ IsListRefused of_file of_port keys between new mid draws fault
        → IsBroken of_file of_port image Reliable keys number drew draws old new fault
    IsBroken-printed old between new phase fault runs mid same (inl none) =
        let objects = none.1.0 in
        let lists = subst (λ (t : List ℕ). ListsBench of_file of_port keys between new objects t) (none.1.2).lines_are none.1.2 in record {
          records = of_phase old between (Ran phase) ∷ of_list between new (Listed objects) ∷ [];
          left = [];
          front = refl;
          goes = record { last = begins_with new; acts = (refl, inl (runs, refl), (refl, inl (refl, (lists, refl)), refl)); given_is = refl };
          why = inr (refl, none.0);
        }
    IsBroken-printed old between new phase fault runs mid same (inr refused) =
        IsBroken-list old between new phase fault runs (subst (λ n. IsListRefused of_file of_port keys between new n draws fault) same refused)

    module _ (failed : Type 0) (held_old held_new : Option (List ℕ)) (handed between given : BenchState) (opens : OpensBench keys handed between) where
      opened : (records : List RunRecord) (left : List Act) → soak_acts number ≡ acts_in records ++ left
          → GoesThrough of_file of_port image Reliable drew draws keys (soak_applications number) records (begins_with between) given
          → RunsBench of_file of_port image Reliable drew draws keys (soak_applications number) (soak_acts number) None records handed given
      opened records left front goes = record { left = left; front = front; bench = inl (record { shown = refl; between = between; opens = opens; goes = goes }) }

      -- the lines were put, or not
      module _ (lines : List ℕ) (through : IsThrough of_file of_port image Reliable keys number between given lines) where
        done : RunsBench of_file of_port image Reliable drew draws keys (soak_applications number) (soak_acts number) None through.records handed given
        done = opened through.records [] (sym through.acts_are ∙ sym (append-nil (acts_in through.records))) (record {
          last = through.last;
          acts = goes-acts of_file of_port image Reliable keys (soak_applications number) drew draws through.records (begins_with between) through.last through.goes;
          given_is = through.new_is;
        })

        none : stop_of (outcomes_in through.records) ≡ None
        none = goes-through of_file of_port image Reliable keys (soak_applications number) through.records (begins_with between) through.last through.goes

        pub RunsSoak-through : (status : Status) → PrintsLines failed held_old held_new lines status
            → RunsSoak of_file of_port image Reliable keys number drew draws failed held_old held_new handed given status
        RunsSoak-through Done t = record {
          put = lines;
          start = None;
          records = through.records;
          appended = t;
          begins = ([], sym through.lines_are ∙ sym (append-nil lines));
          bench = done;
          cause = (through.lines_are, none, through.acts_are);
        }
        RunsSoak-through WriteFault t = record {
          put = t.1.0;
          start = None;
          records = through.records;
          appended = t.1.1;
          begins = (t.1.2.0, sym through.lines_are ∙ sym (append-nil lines) ∙ t.1.2.1);
          bench = done;
          cause = (t.0, subst MayStopWriting (sym none) tt);
        }
        RunsSoak-through status t = absurd t

      module _ (fault : MountFault) (b : IsBroken of_file of_port image Reliable keys number drew draws between given fault) where
        begun : RunsBench of_file of_port image Reliable drew draws keys (soak_applications number) (soak_acts number) None b.records handed given
        begun = opened b.records b.left b.front b.goes

        -- memory ran out, and nothing was put
        unprinted : stop_of (outcomes_in b.records) ≡ None → fault ≡ NoMemoryFault
            → (status : Status) → PrintsRefusal failed held_old held_new [] fault status → RunsSoak of_file of_port image Reliable keys number drew draws failed held_old held_new handed given status
        unprinted done_all is WriteFault t = absurd (let no : IsRefusal NoMemoryFault = subst IsRefusal is t.0 in no)
        unprinted done_all is NoMemory t =
            let empty : t.1.0 ≡ [] = front_of_none t.1.0 t.1.2.0 (refusal_line-memory fault is ∙ t.1.2.1) in
            let output = soak_output number None (outcomes_in b.records) in record {
              put = t.1.0;
              start = None;
              records = b.records;
              appended = t.1.1;
              begins = (output, subst (λ (p : List ℕ). output ≡ p ++ output) (sym empty) refl);
              bench = begun;
              cause = subst MayWant (sym done_all) tt;
            }
        unprinted done_all is (MountRefused other) t = absurd (let no : IsRefusal NoMemoryFault = subst IsRefusal is t.1 in no)
        unprinted done_all is (DeviceFault other) t = absurd (let no : IsDeviceFault NoMemoryFault = subst IsDeviceFault is t.1 in no)
        unprinted done_all is status t = absurd t

        -- the line of the refusal was put, or not; no text was kept
        pub RunsSoak-broken : (kept : List ℕ) → kept ≡ [] → (status : Status) → PrintsRefusal failed held_old held_new kept fault status
            → RunsSoak of_file of_port image Reliable keys number drew draws failed held_old held_new handed given status
        RunsSoak-broken kept nothing status prints = one b.why
          where
            printed : PrintsRefusal failed held_old held_new [] fault status
            printed = subst (λ k. PrintsRefusal failed held_old held_new k fault status) nothing prints

            one : ((stop_of (outcomes_in b.records) ≡ Some (Refused fault)) × (soak_output number None (outcomes_in b.records) ≡ refusal_line fault))
                ⊎ ((stop_of (outcomes_in b.records) ≡ None) × (fault ≡ NoMemoryFault)) → RunsSoak of_file of_port image Reliable keys number drew draws failed held_old held_new handed given status
            one (inl x) =
                RunsActs-refused of_file of_port image Reliable drew draws keys failed held_old held_new handed (soak_applications number) (soak_acts number) (soak_output number) None b.records given fault
                x.1 x.0 begun status printed
            one (inr x) = unprinted x.0 x.1 status printed
