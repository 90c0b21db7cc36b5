-- A run through several acts.
use Rattle.std.proofs.Common.{◌≡◌, ◌≤◌, ◌⊎◌, inl, inr, ℕ, List, [], drop, refl, sym, subst, arith, All, Option, vec_len, append-nil}
use Rattle.std.proofs.lemmas.List.Elements.{All-nil}
use Rattle.disk_model.specs.Faults.{Rose}
use Rattle.disk_model.specs.State.{FileState}
use Rattle.hmac_keys.specs.declared.Keys.{Keys}
use Rattle.tee_types.specs.Limits.{file_count}
use Rattle.rpmb_card.specs.Port.{PortState}
use Rattle.script_text.specs.Laws.{IsArm}
use Rattle.script_text.specs.Script.{ScriptValue}
use Rattle.script_text.specs.declared.script.Mode.TheVariants.{Serial}
use Rattle.tee_ports.proofs.Streams.{Appends-none}
use Rattle.run_acts.specs.Benches.{BenchState, bench_state}
use Rattle.script_runner.specs.declared.status.Status.{Status}
use Rattle.script_runner.specs.declared.run_state.Run.{Run}
use Rattle.script_runner.specs.declared.run_state.RunEnd.{RunEnd}
use Rattle.script_runner.specs.Points.{Point, point_of}
use Rattle.script_runner.specs.RunReady.{IsReady}
use Rattle.script_runner.specs.SavedFiles.{nothing_saved, saved_of}
use Rattle.script_runner.specs.Running.{Advances, EndsAt, EndsFrom}
use Rattle.script_runner.proofs.Endings.{EndsFrom-behind, HasActCause-failed}
use Rattle.script_runner.proofs.Scripts.{first_point}

-- a rise that began later
pub Rose-earlier : (old mid new : ℕ) → old ≤ mid → Rose mid new → Rose old new
Rose-earlier old mid new le rose = grind (arith, le, rose)

module _ {F R : Type 0} (of_file : F → FileState) (of_port : R → PortState) (image : FileState → ℕ → ℕ → List ℕ) (Reliable : Type 0) (keys : Keys) (script : ScriptValue) where
  pub Advances-none : (here : Point) → Advances of_file of_port image Reliable keys script here here
  Advances-none here = record {
    records = [];
    acts = refl;
    goes = refl;
    number_is = omega arith;
    sent = ([], Appends-none here.held, append-nil here.kept);
  }

  EndsFrom-failed : (drew draws : ℕ) (failed more : Type 0) (here : Point) (held : Option (List ℕ)) (given : BenchState) (status : Status) → (failed → more) → EndsFrom of_file of_port image Reliable drew draws keys script failed here held given status → EndsFrom of_file of_port image Reliable drew draws keys script more here held given status
  EndsFrom-failed drew draws failed more here held given status f e = record {
    put = e.put;
    records = e.records;
    left = e.left;
    appended = e.appended;
    begins = e.begins;
    front = e.front;
    goes = e.goes;
    cause = HasActCause-failed failed more e.put _ _ _ status f e.cause;
  }

  pub EndsAt-behind : (was drew draws : ℕ) (failed more : Type 0) (held_old held held_new : Option (List ℕ)) (run between : Run F R) (end : RunEnd F R) → was ≡ drew → (failed → more) → Advances of_file of_port image Reliable keys script (point_of of_file of_port script held_old run) (point_of of_file of_port script held between)
      → EndsAt of_file of_port image Reliable was draws keys script failed held held_new between end → EndsAt of_file of_port image Reliable drew draws keys script more held_old held_new run end
  EndsAt-behind was drew draws failed more held_old held held_new run between end same f advances e = record {
    ends = EndsFrom-failed drew draws failed more (point_of of_file of_port script held_old run) held_new (bench_state of_file of_port end.bench) end.status f
        (EndsFrom-behind of_file of_port image Reliable drew draws keys script failed (point_of of_file of_port script held_old run) (point_of of_file of_port script held between) held_new (bench_state of_file of_port end.bench) end.status advances
        (subst (λ n. EndsFrom of_file of_port image Reliable n draws keys script failed (point_of of_file of_port script held between) held_new (bench_state of_file of_port end.bench) end.status) same e.ends));
    whole = e.whole;
  }

  -- from a run that has done nothing yet
  pub EndsFrom-first : (was drew draws : ℕ) (failed : Type 0) (held_old held_new : Option (List ℕ)) (run : Run F R) (given : BenchState) (status : Status) → was ≡ drew → run.at ≡ 0 → run.number ≡ 0 → run.mode ≡ Serial → run.arms.items ≡ [] → run.kept.items ≡ [] → saved_of run.saved ≡ nothing_saved → run.quotas.items ≡ []
      → EndsFrom of_file of_port image Reliable was draws keys script failed (point_of of_file of_port script held_old run) held_new given status → EndsFrom of_file of_port image Reliable drew draws keys script failed (first_point held_old (bench_state of_file of_port run.bench) script) held_new given status
  EndsFrom-first was drew draws failed held_old held_new run given status same at number mode arms kept saved quotas e =
      let here : point_of of_file of_port script held_old run ≡ first_point held_old (bench_state of_file of_port run.bench) script =
      (λ i. record { held = held_old; kept = kept i; bench = bench_state of_file of_port run.bench; saved = saved i; quotas = quotas i; steps = drop (at i) script.steps; arms = arms i; number = number i; mode = mode i }) in
      subst (λ (p : Point). EndsFrom of_file of_port image Reliable drew draws keys script failed p held_new given status) here
      (subst (λ n. EndsFrom of_file of_port image Reliable n draws keys script failed (point_of of_file of_port script held_old run) held_new given status) same e)

-- the sink failed since a later call, or it is full
pub failed-earlier : (old mid new : ℕ) (full : Type 0) → old ≤ mid → Rose mid new ⊎ full → Rose old new ⊎ full
failed-earlier old mid new full le (inl rose) = inl (Rose-earlier old mid new le rose)
failed-earlier old mid new full le (inr x) = inr x

-- a run that has done nothing yet
pub IsReady-first : {F R : Type 0} (script : ScriptValue) (run : Run F R) → run.at ≡ 0 → run.number ≡ 0 → run.arms.items ≡ [] → vec_len run.bench.files ≡ file_count → IsReady script run
IsReady-first script run at number arms whole = record { within = omega (arith, at); phases = omega (arith, at, number); arms = subst (All IsArm) (sym arms) (All-nil IsArm); whole = whole }
