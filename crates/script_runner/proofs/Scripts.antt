-- A run, from its first act to its end.
use Rattle.std.proofs.Common.{◌≡◌, ◌⊎◌, inl, inr, ℕ, List, [], ◌∷◌, ◌++◌, refl, sym, ◌∙◌, subst, Option, None, Some, ap}
use Rattle.std.proofs.lemmas.List.{append-nil}
use Rattle.disk_model.specs.State.{FileState}
use Rattle.hmac_keys.specs.declared.Keys.{Keys}
use Rattle.rpmb_card.specs.Port.{PortState}
use Rattle.run_acts.specs.declared.MountFault.{MountFault}
use Rattle.script_text.specs.Script.{ScriptValue}
use Rattle.script_text.specs.declared.script.Mode.TheVariants.{Serial}
use Rattle.tee_ports.specs.Streams.{Appends}
use Rattle.run_acts.specs.Lines.{refusal_line}
use Rattle.run_acts.specs.Benches.{BenchState}
use Rattle.run_acts.specs.Opens.{IsOpenRefused, OpensBench}
use Rattle.script_runner.specs.declared.status.Status.{Status}
use Rattle.script_runner.specs.declared.status.Status.TheVariants.{DeviceFault, MountRefused, NoMemory, WriteFault}
use Rattle.script_runner.specs.Sending.{Begins, Stops}
use Rattle.script_runner.specs.RunRefusals.{IsDeviceFault, IsRefusal}
use Rattle.script_runner.specs.Records.{RunRecord, outcomes_in}
use Rattle.script_runner.specs.Text.{Act, ActOutcome, Refused, run_stop}
use Rattle.script_runner.specs.Ending.{RunsBench}
use Rattle.script_runner.specs.Points.{Point}
use Rattle.script_runner.specs.Running.{EndsFrom, RunsActs, RunsScript}
use Rattle.script_runner.specs.Prints.{MayStopWriting, MayWant, PrintsRefusal}
use Rattle.script_runner.specs.SavedFiles.{nothing_saved}
use Rattle.script_runner.proofs.Endings.{refusal_line-none}

-- a run that has done nothing yet, on this bench
abbrev pub first_point : Option (List ℕ) → BenchState → ScriptValue → Point
first_point held bench script = record { held = held; kept = []; bench = bench; saved = nothing_saved; quotas = []; steps = script.steps; arms = []; number = 0; mode = Serial }

module _ {F R : Type 0} (of_file : F → FileState) (of_port : R → PortState) (image : FileState → ℕ → ℕ → List ℕ) (Reliable : Type 0) (drew draws : ℕ) (keys : Keys) (failed : Type 0) (held_old held_new : Option (List ℕ)) (handed : BenchState) where
  -- a front of nothing is nothing
  nothing : (put : List ℕ) → Appends held_old held_new put → (rest : List ℕ) → [] ≡ put ++ rest → Appends held_old held_new []
  nothing [] a rest e = a
  nothing (b ∷ put) a rest e = absurd cc

  -- acts whose whole text is the line of the refusal at which they stopped
  module _ (applications : List (List ℕ)) (acts : List Act) (output : Option MountFault → List ActOutcome → List ℕ) (start : Option MountFault) (records : List RunRecord) (given : BenchState) (fault : MountFault)
      (line : output start (outcomes_in records) ≡ refusal_line fault) (stop : run_stop start (outcomes_in records) ≡ Some (Refused fault))
      (bench : RunsBench of_file of_port image Reliable drew draws keys applications acts start records handed given) where
    same_stop : (printed : MountFault) → printed ≡ fault → run_stop start (outcomes_in records) ≡ Some (Refused printed)
    same_stop printed is = stop ∙ ap (λ f. Some (Refused f)) (sym is)

    pub RunsActs-refused : (status : Status) → PrintsRefusal failed held_old held_new [] fault status
        → RunsActs of_file of_port image Reliable drew draws keys applications acts output failed held_old held_new handed given status
    RunsActs-refused WriteFault t = record {
      put = t.2.0;
      start = start;
      records = records;
      appended = t.2.1;
      begins = subst (Begins t.2.0) (sym line) t.2.2;
      bench = bench;
      cause = (t.1, subst MayStopWriting (sym stop) t.0);
    }
    RunsActs-refused NoMemory t = record {
      put = t.1.0;
      start = start;
      records = records;
      appended = t.1.1;
      begins = subst (Begins t.1.0) (sym line) t.1.2;
      bench = bench;
      cause = subst MayWant (sym stop) t.0;
    }
    RunsActs-refused (MountRefused printed) t = record {
      put = refusal_line fault;
      start = start;
      records = records;
      appended = t.2;
      begins = ([], line ∙ sym (append-nil (refusal_line fault)));
      bench = bench;
      cause = (sym line, same_stop printed t.0, subst IsRefusal (sym t.0) t.1);
    }
    RunsActs-refused (DeviceFault printed) t = record {
      put = [];
      start = start;
      records = records;
      appended = one t.2;
      begins = (output start (outcomes_in records), refl);
      bench = bench;
      cause = (inl (sym (line ∙ refusal_line-none fault t.1)), same_stop printed t.0, subst IsDeviceFault (sym t.0) t.1);
    }
      where
        one : Appends held_old held_new [] ⊎ (failed × Stops held_old held_new [] []) → Appends held_old held_new []
        one (inl put) = put
        one (inr x) = nothing x.1.0 x.1.1 x.1.2.0 x.1.2.1
    RunsActs-refused status t = absurd t

  -- the bench was not opened, and no text was kept
  pub RunsActs-unopened : (given : BenchState) (fault : MountFault) → IsOpenRefused keys handed given drew draws fault
      → (applications : List (List ℕ)) (acts : List Act) (output : Option MountFault → List ActOutcome → List ℕ) → output (Some fault) [] ≡ refusal_line fault → (kept : List ℕ) → kept ≡ [] → (status : Status) → PrintsRefusal failed held_old held_new kept fault status
      → RunsActs of_file of_port image Reliable drew draws keys applications acts output failed held_old held_new handed given status
  RunsActs-unopened given fault refused applications acts output line kept none status prints =
      RunsActs-refused applications acts output (Some fault) [] given fault line refl
      (record { left = acts; front = refl; bench = inr (record { fault = fault; shown = refl; none = refl; refused = refused }) })
      status (subst (λ k. PrintsRefusal failed held_old held_new k fault status) none prints)

  pub RunsScript-opened : (script : ScriptValue) (between given : BenchState) (status : Status) → OpensBench keys handed between → EndsFrom of_file of_port image Reliable drew draws keys script failed (first_point held_old between script) held_new given status → RunsScript of_file of_port image Reliable drew draws keys script failed held_old held_new handed given status
  RunsScript-opened script between given status opens e = record {
    put = e.put;
    start = None;
    records = e.records;
    appended = e.appended;
    begins = e.begins;
    bench = record { left = e.left; front = e.front; bench = inl (record { shown = refl; between = between; opens = opens; goes = e.goes }) };
    cause = e.cause;
  }
