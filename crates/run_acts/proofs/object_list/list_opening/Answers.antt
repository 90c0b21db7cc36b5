use Rattle.std.proofs.Common.{◌≡◌, ◌∙◌, Option, Some, None, Result, Ok, Err, refl, ap}
use Rattle.store_model.specs.declared.name.ObjectName.{ObjectName}
use Rattle.store_commit.specs.declared.fault.MountFault.{MountFault}
use Rattle.object_calls.specs.Opening.{OpeningValue, bench_files, entries_in}
use Rattle.run_acts.proofs.Listed.{fewer_at, listed_cut, listed_fewer, listed_next, listed_none, listed_whole, next_at}
use Rattle.run_acts.proofs.object_list.list_opening.Goals as goal

pub objects-init : goal.objects-init
objects-init g c = record {
  listed = listed_none (entries_in c.args.opening.now) c.args.opening.now.storage_key (bench_files g.F.StoreFile.state c.args.opening.now) c.new-lines.result.items c.new-lines.ensures.items;
  same = refl;
}

-- the entries and the key stay
entries_stay : {F R : Type 0} (o0 o : OpeningValue F R) → o ≡ record o0 { files = o.files } → entries_in o ≡ entries_in o0
entries_stay o0 o same = ap (λ x. entries_in x) same

key_stays : {F R : Type 0} (o0 o : OpeningValue F R) → o ≡ record o0 { files = o.files } → o.storage_key ≡ o0.storage_key
key_stays o0 o same = ap (λ x. x.storage_key) same

-- but for its files, the opening is the first one
still_same : {F R : Type 0} (o0 o o1 : OpeningValue F R) → o ≡ record o0 { files = o.files } → o1 ≡ record o { files = o1.files } → o1 ≡ record o0 { files = o1.files }
still_same {F} {R} o0 o o1 same next = next ∙ ap (λ (x : OpeningValue F R). record x { files = o1.files }) same

pub objects-preserved : goal.objects-preserved
objects-preserved g c =
    let state = g.F.StoreFile.state in
    let first = c.args.opening.now in
    let now = c.objects.opening in
    let next = c.list_next.new.opening in
    let before = c.objects.invariant in
    let r : Result (Option ObjectName) MountFault = Ok (Some c.in-Ok-Some.name) in
    let is : c.list_next.result ≡ r = c.in-Ok-Some.is ∙ ap (λ (o : Option ObjectName). let x : Result (Option ObjectName) MountFault = Ok o in x) c.in-Ok-Some.field-0-is in
    record {
      listed = listed_next (entries_in first) first.storage_key (bench_files state first) (bench_files state now) c.objects.after c.objects.lines.items before.listed
          (bench_files state next) c.list_next.new.lines.items c.in-Ok-Some.name
          (next_at (entries_in now) (entries_in first) now.storage_key first.storage_key c.objects.after (bench_files state now) (bench_files state next) c.objects.lines.items c.list_next.new.lines.items
          c.list_next.result r (entries_stay first now before.same) (key_stays first now before.same) is c.list_next.ensures.answer);
      same = still_same first now next before.same c.list_next.ensures.same;
    }

pub objects-smaller : goal.objects-smaller
objects-smaller g c =
    let state = g.F.StoreFile.state in
    let first = c.args.opening.now in
    let now = c.objects.opening in
    let next = c.list_next.new.opening in
    let before = c.objects.invariant in
    let r : Result (Option ObjectName) MountFault = Ok (Some c.in-Ok-Some.name) in
    let is : c.list_next.result ≡ r = c.in-Ok-Some.is ∙ ap (λ (o : Option ObjectName). let x : Result (Option ObjectName) MountFault = Ok o in x) c.in-Ok-Some.field-0-is in
    fewer_at (entries_in now) (entries_in first) (entries_in next) c.objects.after c.in-Ok-Some.name (entries_stay first now before.same)
    (entries_stay first next (still_same first now next before.same c.list_next.ensures.same))
    (listed_fewer (entries_in first) first.storage_key (bench_files state first) (bench_files state now) c.objects.after c.objects.lines.items before.listed
    (bench_files state next) c.list_next.new.lines.items c.in-Ok-Some.name
    (next_at (entries_in now) (entries_in first) now.storage_key first.storage_key c.objects.after (bench_files state now) (bench_files state next) c.objects.lines.items c.list_next.new.lines.items
    c.list_next.result r (entries_stay first now before.same) (key_stays first now before.same) is c.list_next.ensures.answer))

pub returns-in-Ok-None-clause-answer : goal.returns-in-Ok-None-clause-answer
returns-in-Ok-None-clause-answer g c =
    let state = g.F.StoreFile.state in
    let first = c.args.opening.now in
    let now = c.objects.opening in
    let next = c.list_next.new.opening in
    let before = c.objects.invariant in
    let r : Result (Option ObjectName) MountFault = Ok None in
    let is : c.list_next.result ≡ r = c.in-Ok-None.is ∙ ap (λ (o : Option ObjectName). let x : Result (Option ObjectName) MountFault = Ok o in x) c.in-Ok-None.field-0-is in
    listed_whole (entries_in first) first.storage_key (bench_files state first) (bench_files state now) c.objects.after c.objects.lines.items before.listed
    (bench_files state next) c.list_next.new.lines.items
    (next_at (entries_in now) (entries_in first) now.storage_key first.storage_key c.objects.after (bench_files state now) (bench_files state next) c.objects.lines.items c.list_next.new.lines.items
    c.list_next.result r (entries_stay first now before.same) (key_stays first now before.same) is c.list_next.ensures.answer)

pub returns-in-Err-clause-answer : goal.returns-in-Err-clause-answer
returns-in-Err-clause-answer g c =
    let state = g.F.StoreFile.state in
    let first = c.args.opening.now in
    let now = c.objects.opening in
    let next = c.list_next.new.opening in
    let before = c.objects.invariant in
    let r : Result (Option ObjectName) MountFault = Err c.in-Err.fault in
    listed_cut (entries_in first) first.storage_key (bench_files state first) (bench_files state now) c.objects.after c.objects.lines.items before.listed
    (bench_files state next) c.list_next.new.lines.items c.in-Err.fault
    (next_at (entries_in now) (entries_in first) now.storage_key first.storage_key c.objects.after (bench_files state now) (bench_files state next) c.objects.lines.items c.list_next.new.lines.items
    c.list_next.result r (entries_stay first now before.same) (key_stays first now before.same) c.in-Err.is c.list_next.ensures.answer)
