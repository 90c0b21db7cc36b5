use Rattle.std.proofs.Common.{◌∙◌, List, map, refl, sym, ap, subst, inl, inr}
use Rattle.store_commit.specs.declared.fault.MountFault.{MountFault}
use Rattle.object_calls.specs.declared.bench.Bench.{Bench}
use Rattle.run_acts.specs.Benches.{HasPassed, bench_state}
use Rattle.run_acts.specs.Opens.{IsOpenRefused, StopsOpening, starved, stopped, unasked}
use Rattle.run_acts.proofs.OpenedBenches.{opens_passed}
use Rattle.run_acts.proofs.NotDrawn.{told_not_drawn}
use Rattle.run_acts.proofs.first_opening.open_bench.Goals as goal

pub returns-in_default-clause-refused : goal.returns-in_default-clause-refused
returns-in_default-clause-refused g c = unasked refl refl

pub returns-in-Ok-open_or_form-clause-passed : goal.returns-in-Ok-open_or_form-clause-passed
returns-in-Ok-open_or_form-clause-passed g c =
    let view = bench_state g.F.StoreFile.state g.R.RpmbPort.state in
    opens_passed c.args.keys.now (view c.args.bench) (view c.in-Ok-open_or_form.bench) c.in-Ok-open_or_form.ensures.answer

pub returns-in-Ok-open_or_form-clause-with_memory : goal.returns-in-Ok-open_or_form-clause-with_memory
returns-in-Ok-open_or_form-clause-with_memory g c = λ file.
    let view = bench_state g.F.StoreFile.state g.R.RpmbPort.state in
    let passed : HasPassed (view c.args.bench) (view c.in-Ok-open_or_form.bench) = opens_passed c.args.keys.now (view c.args.bench) (view c.in-Ok-open_or_form.bench) c.in-Ok-open_or_form.ensures.answer in
    (passed.files file).starved

pub returns-clause-refused : goal.returns-clause-refused
returns-clause-refused g c =
    let view = bench_state g.F.StoreFile.state g.R.RpmbPort.state in
    let drew = g.E.Entropy.faults c.args.entropy.now in
    let draws = g.E.Entropy.faults c.open_or_form.new.entropy in
    let old = view c.args.bench in
    let halted = c.in-Err.halted in
    let new = view halted.bench in
    let stops : StopsOpening c.args.keys.now old new drew draws halted.fault = c.in-Err.ensures.answer in
    let counted = c.deref-in-Err.ensures.value ∙ c.in-Ok.ensures ∙ ap (λ (l : List g.row.F.Denot). map (λ f. (g.F.StoreFile.state f).starved) l) c.deref.ensures.value in
    let told = c.tell_fault.ensures.told c.args.bench (c.requires ∙ sym c.in-Err.ensures.whole_err) counted in
    let refused : IsOpenRefused c.args.keys.now old new drew draws c.tell_fault.result.fault = elim told [
      | inl with_memory ↦ stopped (subst (λ (f : MountFault). StopsOpening c.args.keys.now old new drew draws f) (sym with_memory.0) stops) with_memory.1
      | inr gone ↦ starved halted.fault gone.0 stops gone.1
    ] in
    subst (λ (b : Bench g.row.F.Denot g.row.R.Denot). IsOpenRefused c.args.keys.now old (view b) drew draws c.tell_fault.result.fault) (sym c.tell_fault.ensures.bench) refused

pub returns-clause-drawn : goal.returns-clause-drawn
returns-clause-drawn g c = λ reliable.
    let view = bench_state g.F.StoreFile.state g.R.RpmbPort.state in
    let halted = c.in-Err.halted in
    let counted = c.deref-in-Err.ensures.value ∙ c.in-Ok.ensures ∙ ap (λ (l : List g.row.F.Denot). map (λ f. (g.F.StoreFile.state f).starved) l) c.deref.ensures.value in
    told_not_drawn (view c.args.bench) (view halted.bench) halted.fault c.tell_fault.result.fault
    (c.tell_fault.ensures.told c.args.bench (c.requires ∙ sym c.in-Err.ensures.whole_err) counted) (c.in-Err.ensures.drawn reliable)
