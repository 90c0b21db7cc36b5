use Rattle.std.proofs.Common.{◌∙◌, List, map, refl, sym, ap, subst, inl, inr}
use Rattle.store_commit.specs.declared.fault.MountFault.{MountFault}
use Rattle.object_calls.specs.declared.bench.Bench.{Bench}
use Rattle.run_acts.specs.Benches.{bench_state}
use Rattle.run_acts.specs.ListedBenches.{IsListRefused, StopsListing, starved, stopped, unasked}
use Rattle.run_acts.proofs.ListedBenches.{keeps_all}
use Rattle.run_acts.proofs.NotDrawn.{told_not_drawn}
use Rattle.run_acts.proofs.object_list.list_objects.Goals as goal

pub returns-in_default-clause-refused : goal.returns-in_default-clause-refused
returns-in_default-clause-refused g c = record { why = unasked refl refl; keeps = keeps_all (bench_state g.F.StoreFile.state g.R.RpmbPort.state c.args.bench) }

pub returns-in-Ok-list_mounted-clause-with_memory : goal.returns-in-Ok-list_mounted-clause-with_memory
returns-in-Ok-list_mounted-clause-with_memory g c = λ file. (c.in-Ok-list_mounted.ensures.answer.2.passed.files file).starved

pub returns-clause-refused : goal.returns-clause-refused
returns-clause-refused g c =
    let state = g.F.StoreFile.state in
    let port = g.R.RpmbPort.state in
    let drew = g.E.Entropy.faults c.args.entropy.now in
    let draws = g.E.Entropy.faults c.list_mounted.new.entropy in
    let old = bench_state state port c.args.bench in
    let halted = c.in-Err.halted in
    let new = bench_state state port halted.bench in
    let stops : StopsListing state port c.args.keys.now old new drew draws halted.fault = c.in-Err.ensures.answer in
    let counted = c.deref-in-Err.ensures.value ∙ c.in-Ok.ensures ∙ ap (λ (l : List g.row.F.Denot). map (λ f. (state f).starved) l) c.deref.ensures.value in
    let told = c.tell_fault.ensures.told c.args.bench (c.requires ∙ sym c.in-Err.ensures.whole_err) counted in
    let refused : IsListRefused state port c.args.keys.now old new drew draws c.tell_fault.result.fault = record {
      why = elim told [
        | inl with_memory ↦ stopped (subst (λ (f : MountFault). StopsListing state port c.args.keys.now old new drew draws f) (sym with_memory.0) stops) with_memory.1
        | inr gone ↦ starved halted.fault gone.0 stops gone.1
      ];
      keeps = c.in-Err.ensures.keeps;
    } in
    subst (λ (b : Bench g.row.F.Denot g.row.R.Denot). IsListRefused state port c.args.keys.now old (bench_state state port b) drew draws c.tell_fault.result.fault) (sym c.tell_fault.ensures.bench) refused

pub returns-clause-drawn : goal.returns-clause-drawn
returns-clause-drawn g c = λ reliable.
    let state = g.F.StoreFile.state in
    let port = g.R.RpmbPort.state in
    let halted = c.in-Err.halted in
    let counted = c.deref-in-Err.ensures.value ∙ c.in-Ok.ensures ∙ ap (λ (l : List g.row.F.Denot). map (λ f. (state f).starved) l) c.deref.ensures.value in
    told_not_drawn (bench_state state port c.args.bench) (bench_state state port halted.bench) halted.fault c.tell_fault.result.fault
    (c.tell_fault.ensures.told c.args.bench (c.requires ∙ sym c.in-Err.ensures.whole_err) counted) (c.in-Err.ensures.drawn reliable)
