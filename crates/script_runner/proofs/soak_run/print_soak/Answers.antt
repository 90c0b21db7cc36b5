use Rattle.std.proofs.Common.{ℕ, List, length, inl, refl, sym, ap, ◌∙◌, subst}
use Rattle.seed_words.specs.Outcome.{soak_lines}
use Rattle.run_acts.specs.Benches.{bench_state}
use Rattle.run_acts.specs.ListedBenches.{ListsBench}
use Rattle.script_runner.proofs.soak_run.print_soak.Goals as goal

pub returns-in-Ok-soak_lines-clause-ok : goal.returns-in-Ok-soak_lines-clause-ok
returns-in-Ok-soak_lines-clause-ok g c =
    let state = g.F.StoreFile.state in
    let port = g.R.RpmbPort.state in
    let lists = c.in-Ok.ensures.lists in
    let prints = soak_lines c.args.number c.args.history.now.events in record {
      objects = lists.0;
      lists = subst (λ (t : List ℕ). ListsBench state port c.args.keys.now (bench_state state port c.args.bench) (bench_state state port c.in-Ok.field-0.bench) lists.0 t) (lists.2).lines_are lists.2;
      lines_are = c.in-Ok-soak_lines.ensures ∙ ap (λ n. prints n c.as_slice.result.now) (c.from.ensures ∙ sym lists.1) ∙ ap (prints (length lists.0)) (c.as_slice.ensures.value ∙ (lists.2).lines_are);
    }

pub returns-in-Ok-clause-err : goal.returns-in-Ok-clause-err
returns-in-Ok-clause-err g c =
    let lists = c.in-Ok.ensures.lists in
    inl (refl, (lists.0, c.in-Ok.field-0.lines.items, lists.2))
