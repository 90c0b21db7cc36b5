use Rattle.std.proofs.Common.{◌∙◌, List, map, refl, sym, ap, subst, inl, inr}
use Rattle.store_commit.specs.declared.fault.MountFault.{MountFault}
use Rattle.object_calls.specs.declared.bench.Bench.{Bench}
use Rattle.run_acts.specs.Benches.{bench_state}
use Rattle.run_acts.specs.MigratedBenches.{IsBenchNotMoved, StopsBench, starved, stopped, unasked}
use Rattle.run_acts.proofs.NotDrawn.{told_not_drawn}
use Rattle.run_acts.proofs.bench_moving.migrate_bench.Goals as goal

pub returns-in_default-clause-refused : goal.returns-in_default-clause-refused
returns-in_default-clause-refused g c = unasked refl refl

pub returns-clause-refused : goal.returns-clause-refused
returns-clause-refused g c =
    let state = g.F.StoreFile.state in
    let port = g.R.RpmbPort.state in
    let drew = g.E.Entropy.faults c.args.entropy.now in
    let draws = g.E.Entropy.faults c.move_bench.new.entropy in
    let old = bench_state state port c.args.bench in
    let halted = c.in-Err.halted in
    let new = bench_state state port halted.bench in
    let stops : StopsBench c.args.keys.now old new drew draws halted.fault = c.in-Err.ensures.answer in
    let counted = c.deref-in-Err.ensures.value ∙ c.in-Ok.ensures ∙ ap (λ (l : List g.row.F.Denot). map (λ f. (state f).starved) l) c.deref.ensures.value in
    let told = c.tell_fault.ensures.told c.args.bench (c.requires ∙ sym c.in-Err.ensures.whole_err) counted in
    let refused : IsBenchNotMoved c.args.keys.now old new drew draws c.tell_fault.result.fault = elim told [
      | inl with_memory ↦ stopped (subst (λ (f : MountFault). StopsBench c.args.keys.now old new drew draws f) (sym with_memory.0) stops) with_memory.1
      | inr gone ↦ starved halted.fault gone.0 stops gone.1
    ] in
    subst (λ (b : Bench g.row.F.Denot g.row.R.Denot). IsBenchNotMoved c.args.keys.now old (bench_state state port b) drew draws c.tell_fault.result.fault) (sym c.tell_fault.ensures.bench) refused

pub returns-clause-drawn : goal.returns-clause-drawn
returns-clause-drawn g c = λ reliable.
    let state = g.F.StoreFile.state in
    let port = g.R.RpmbPort.state in
    let halted = c.in-Err.halted in
    let counted = c.deref-in-Err.ensures.value ∙ c.in-Ok.ensures ∙ ap (λ (l : List g.row.F.Denot). map (λ f. (state f).starved) l) c.deref.ensures.value in
    told_not_drawn (bench_state state port c.args.bench) (bench_state state port halted.bench) halted.fault c.tell_fault.result.fault
    (c.tell_fault.ensures.told c.args.bench (c.requires ∙ sym c.in-Err.ensures.whole_err) counted) (c.in-Err.ensures.drawn reliable)
