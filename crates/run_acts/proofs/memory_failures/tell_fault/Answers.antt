use Rattle.std.proofs.Common.{◌≡◌, ◌∙◌, List, length, map, refl, sym, ap, inl, inr}
use Rattle.object_calls.specs.OpeningFiles.{files_of}
use Rattle.run_acts.proofs.MemoryCounts.{fed_counts}
use Rattle.run_acts.proofs.memory_failures.tell_fault.Goals as goal

pub returns-then-had_memory-clause-told : goal.returns-then-had_memory-clause-told
returns-then-had_memory-clause-told g c = λ old many counted.
    let state = g.F.StoreFile.state in
    inl (refl, λ file. sym (ap (λ (l : List g.row.F.Denot). (files_of state l file).starved) c.deref.ensures.value) ∙ c.had_memory.ensures.with_memory old.files.items counted c.if-had_memory.true file)

pub returns-clause-told : goal.returns-clause-told
returns-clause-told g c = λ old many counted.
    let state = g.F.StoreFile.state in
    let counts = λ (l : List g.row.F.Denot). map (λ (f : g.row.F.Denot). (state f).starved) l in
    inr (
      refl,
      λ with_memory.
          let long : length old.files.items ≡ length c.args.halted.bench.files.items = sym old.files.ok.0 ∙ many ∙ c.args.halted.bench.files.ok.0 in
          let same = ap counts c.deref.ensures.value ∙ fed_counts state old.files.items c.args.halted.bench.files.items long with_memory ∙ sym counted in
          let yes = c.had_memory.ensures.same.1 same in
          cc,
    )
